use Rattle.std.proofs.Common.{◌≡◌, ◌++◌, List, suc, take, drop, sym, subst, ◌∙◌, rules}
use Rattle.std.proofs.lemmas.List.Sorted.{answers_always}
use Rattle.am_names.proofs.LeaveLemmas.{others}
use Rattle.am_state.specs.{QueuedRow}
use Rattle.am_kernel.specs.{RiseByToken}
use Rattle.am_kernel.proofs.RisingLemmas.{left_found, left_absent}
use Rattle.am_kernel.proofs.packet_queue.take_row.Goals as goal

pub returns-in-Ok : goal.returns-in-Ok
returns-in-Ok c =
    let slice = c.as_slice.result.now in
    let number = c.token.inside.0 in
    let own : slice ≡ c.args.rows.now.rows = c.as_slice.ensures.value in
    let up : RiseByToken slice = subst (λ (xs : List QueuedRow). RiseByToken xs) (sym own) c.requires in
    let by_number = c.in-Ok.ensures.position (λ (r : QueuedRow). r.token)
    (answers_always _ _ _ (λ f a r g called. search rules)) in
    let found : others (λ (row : QueuedRow). row.token) number slice ≡ take c.in-Ok.at slice ++ drop (suc c.in-Ok.at) slice =
    left_found (λ (row : QueuedRow). row.token) slice up number c.in-Ok.at c.in-Ok.ensures.bound by_number in
    rw (← c.token.view_is) (c.take_out.ensures.rows ∙
    sym (subst (λ (xs : List QueuedRow). others (λ (row : QueuedRow). row.token) number xs ≡ take c.in-Ok.at xs ++ drop (suc c.in-Ok.at) xs) own found))

pub returns-in_default : goal.returns-in_default
returns-in_default c =
    let slice = c.as_slice.result.now in
    let number = c.token.inside.0 in
    let own : slice ≡ c.args.rows.now.rows = c.as_slice.ensures.value in
    let up : RiseByToken slice = subst (λ (xs : List QueuedRow). RiseByToken xs) (sym own) c.requires in
    let by_number = c.in_default.ensures.position (λ (r : QueuedRow). r.token)
    (answers_always _ _ _ (λ f a r g called. search rules)) in
    let none : others (λ (row : QueuedRow). row.token) number slice ≡ slice = left_absent (λ (row : QueuedRow). row.token) slice up number c.in_default.field-0 by_number in
    rw (← c.token.view_is) (sym (subst (λ (xs : List QueuedRow). others (λ (row : QueuedRow). row.token) number xs ≡ xs) own none))
