use Rattle.std.proofs.Common.{◌≡◌, ◌==◌, Some, get_or, sym, ap, ◌∙◌, rules}
use Rattle.std.specs.Prelude.{find}
use Rattle.std.proofs.lemmas.List.Sorted.{answers_always}
use Rattle.am_group.proofs.FindLemmas.{found, absent}
use Rattle.am_state.specs.{QueuedRow}
use Rattle.am_kernel.proofs.packet_queue.row_of.Goals as goal

pub returns-in-Ok : goal.returns-in-Ok
returns-in-Ok c =
    let rows = c.args.rows.now in
    let row = c.index-rows-at.result in
    let number = c.token.inside.0 in
    let by_number = c.in-Ok.ensures.position (λ (r : QueuedRow). r.token)
    (answers_always _ _ _ (λ f a r g called. search rules)) in
    let there : find (λ (r : QueuedRow). r.token == number) rows ≡ Some (get_or rows c.in-Ok.at row) =
    found (λ (r : QueuedRow). r.token) rows c.requires number c.in-Ok.at c.in-Ok.ensures.bound by_number row in
    rw (← c.token.view_is) (ap Some c.index-rows-at.is ∙ sym there)

pub returns-in-Err : goal.returns-in-Err
returns-in-Err c =
    let rows = c.args.rows.now in
    let number = c.token.inside.0 in
    let by_number = c.in-Err.ensures.position (λ (r : QueuedRow). r.token)
    (answers_always _ _ _ (λ f a r g called. search rules)) in
    rw (← c.token.view_is) (sym (absent (λ (r : QueuedRow). r.token) rows c.requires number _ by_number))
