use Rattle.std.proofs.Common.{◌≡◌, ℕ, List, Err, rules, sym, subst}
use Rattle.std.specs.Prelude.{OnOk}
use Rattle.am_propagate.specs.{removed, LeavesParents}
use Rattle.am_propagate.proofs.RemovalLemmas.{refused_as, unmounted_leaves}
use Rattle.am_propagate.proofs.subtree.Subtree.umount_listed.Goals as goal

pub returns-in_err-_position-clause-refusal : goal.returns-in_err-_position-clause-refusal
returns-in_err-_position-clause-refusal g c =
    let told : c.from_residual.result ≡ Err c.in_err-_position.field-0.0 = search rules in
    refused_as _ _ _ _ told (c.in_err-_position.ensures.refusal _)

pub remove-requires : goal.remove-requires
remove-requires g c =
    let t = c.args.self.now in
    subst (λ (xs : List ℕ). LeavesParents xs t) (sym c.requires.gone) (unmounted_leaves t c.args.mount c.in_ok-_position.ensures.bare)

pub returns-clause-ok : goal.returns-clause-ok
returns-clause-ok g c =
    subst (λ (xs : List ℕ). OnOk c.remove.result (c.remove.new.self ≡ removed xs c.args.self.now)) c.requires.gone c.remove.ensures.ok
