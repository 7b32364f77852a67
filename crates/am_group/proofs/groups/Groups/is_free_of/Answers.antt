use Rattle.std.proofs.Common.{◌≡◌, ℕ, List, true, subst}
use Rattle.std.specs.List.{list_all}
use Rattle.std.proofs.lemmas.List.{take_all}
use Rattle.am_group.specs.{has_none_left}
use Rattle.am_group.proofs.GoneLemmas.{free_by_lists}
use Rattle.am_group.proofs.groups.Groups.is_free_of.Goals as goal

pub returns : goal.returns
returns c =
    let gone = c.args.gone.now in
    let lost = c.args.lost.now in
    let s = c.args.self.now in
    free_by_lists gone lost s
    (subst (λ (xs : List ℕ). list_all (has_none_left gone lost s) xs ≡ true)
    (take_all c.loop-group.group-index lost c.loop-group-test.false) c.loop-group.invariant)
