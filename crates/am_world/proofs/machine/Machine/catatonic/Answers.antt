use Rattle.std.proofs.Common.{◌++◌, List, refl, ap, ◌∙◌}
use Rattle.am_state.specs.{Obs}
use Rattle.am_kernel.specs.{catatonic_observations, made_catatonic, catatonic_refusal}
use Rattle.am_machine.specs.declared.answer.Answer.TheVariants as answers
use Rattle.am_machine.specs.{with_kernel}
use Rattle.am_world.specs.{whole_state}
use Rattle.am_world.proofs.GoesLemmas.{done_goes}
use Rattle.am_world.proofs.WentLemmas.{halves_are, current_closes}
use Rattle.am_world.proofs.machine.Machine.catatonic.Goals as goal

pub returns : goal.returns
returns c =
    let s = whole_state c.args.self.now in
    done_goes (catatonic_refusal s.kernel c.args.attach c.args.fs) s _ (with_kernel answers.Done (catatonic_observations c.args.fs s.kernel) (made_catatonic c.args.fs s.kernel) s) answers.Done c.in_ok-catatonic.ensures.refusal refl
    (halves_are s (made_catatonic c.args.fs s.kernel) c.catatonic.new.self s.daemon s.daemon (s.trace ++ catatonic_observations c.args.fs s.kernel) _ c.in_ok-catatonic.ensures.ok refl
    (c.in_ok-append.ensures.items ∙ ap (λ (more : List Obs). s.trace ++ more) (c.in_ok-shown.ensures ∙ current_closes s.kernel c.args.fs c.args.attach c.if-not-is_current.ensures)))
