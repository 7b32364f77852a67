use Rattle.std.proofs.Common.{ℕ, sym, rules}
use Rattle.std.proofs.lemmas.List.Sorted.{answers_always}
use Rattle.am_propagate.proofs.SearchLemmas.{rank_found, rank_absent}
use Rattle.am_propagate.proofs.subtree.stand_ins.rank.Goals as goal

pub returns-in-Ok : goal.returns-in-Ok
returns-in-Ok c =
    let groups = c.args.groups.now in
    let number = c.group.inside.0 in
    let by_number = c.in-Ok.ensures.position (λ (x : ℕ). x) (answers_always _ _ _ (λ f a r g called. search rules)) in
    rw (← c.group.view_is) (sym (rank_found groups c.requires number c.in-Ok.at c.in-Ok.ensures.bound by_number))

pub returns-in-Err : goal.returns-in-Err
returns-in-Err c =
    let groups = c.args.groups.now in
    let number = c.group.inside.0 in
    let by_number = c.in-Err.ensures.position (λ (x : ℕ). x) (answers_always _ _ _ (λ f a r g called. search rules)) in
    rw (← c.group.view_is) (sym (rank_absent groups c.requires number c.in-Err.at c.in-Err.ensures.bound by_number))
