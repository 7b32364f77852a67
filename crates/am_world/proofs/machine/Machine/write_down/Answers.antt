use Rattle.std.proofs.Common.{[], ◌∷◌, ◌++◌, List, refl, ap, ◌∙◌}
use Rattle.am_job.specs.declared.act.Outcome.TheVariants as came
use Rattle.am_names.specs.declared.trigger.Trigger.{Trigger}
use Rattle.am_state.specs.{Obs}
use Rattle.am_state.specs.declared.obs.Obs.TheVariants as seen
use Rattle.am_machine.specs.declared.answer.Answer.TheVariants as answers
use Rattle.am_machine.specs.{goes_on, record_act}
use Rattle.am_world.specs.{whole_state, row_for}
use Rattle.am_world.proofs.ActLemmas.{row_token_is_job, record_held, record_goes}
use Rattle.am_world.proofs.WentLemmas.{went, goes_by_equal_outcome}
use Rattle.am_world.proofs.machine.Machine.write_down.Goals as goal

pub returns : goal.returns
returns c =
    let s = whole_state c.args.self.now in
    let row = row_for s.daemon c.args.coming.now.job in
    let shown = seen.Recorded c.args.trigger.now c.args.entry ∷ [] in
    goes_by_equal_outcome (record_act s row c.args.trigger.now c.args.entry) (goes_on s row came.Done answers.DidRecord shown s.kernel) s answers.DidRecord _
    (record_goes s row c.args.trigger.now c.args.entry (record_held c.args.coming.now c.args.trigger.now c.args.entry s.daemon c.requires c.in_ok-finish_act.ensures.refusal)) refl
    (went s row c.args.coming.now.job came.Done answers.DidRecord shown s.kernel c.args.self.now.kernel _ _ (row_token_is_job c.args.coming.now s.daemon c.requires.comes) c.in_ok-finish_act.ensures.ok refl
    (c.push_reserved.ensures.items ∙ ap (λ (t : Trigger). c.reserve.new.self.items ++ seen.Recorded t c.args.entry ∷ []) c.in_ok-trigger.ensures ∙ ap (λ (t : List Obs). t ++ shown) c.reserve.ensures.items))
