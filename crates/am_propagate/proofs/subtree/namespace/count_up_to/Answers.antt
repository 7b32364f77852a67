use Rattle.std.proofs.Common.{ℕ, sym, rules}
use Rattle.std.proofs.lemmas.List.Sorted.{answers_always}
use Rattle.am_propagate.proofs.SearchLemmas.{count_found, count_absent}
use Rattle.am_propagate.proofs.subtree.namespace.count_up_to.Goals as goal

pub returns-in-Ok-clause-count : goal.returns-in-Ok-clause-count
returns-in-Ok-clause-count c =
    let mounts = c.args.mounts.now in
    let number = c.mount.inside.0 in
    let by_number = c.in-Ok.ensures.position (λ (x : ℕ). x) (answers_always _ _ _ (λ f a r g called. search rules)) in
    rw (← c.mount.view_is) (sym (count_found mounts c.requires number c.in-Ok.at c.in-Ok.ensures.bound by_number))

pub returns-in-Err-clause-count : goal.returns-in-Err-clause-count
returns-in-Err-clause-count c =
    let mounts = c.args.mounts.now in
    let number = c.mount.inside.0 in
    let by_number = c.in-Err.ensures.position (λ (x : ℕ). x) (answers_always _ _ _ (λ f a r g called. search rules)) in
    rw (← c.mount.view_is) (sym (count_absent mounts c.requires number c.in-Err.at c.in-Err.ensures.bound by_number))
