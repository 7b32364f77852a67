use Rattle.std.proofs.Common.{◌≡◌, not, List, ap, sym, subst, ◌∙◌, rules, tests}
use Rattle.std.specs.Prelude.{filter}
use Rattle.std.proofs.lemmas.Fn.{filter_same}
use Rattle.am_ordered.specs.RowTable.{RowTable}
use Rattle.am_group.proofs.LookupLemmas.{RiseBy-filter}
use Rattle.am_state.specs.{QueuedRow}
use Rattle.am_kernel.specs.{RiseByToken, is_packet_of}
use Rattle.am_kernel.proofs.packet_queue.PacketQueue.take_fs.Goals as goal

pub invariant_of-self : goal.invariant_of-self
invariant_of-self c =
    let left : c.retain.new.self.rows ≡ filter (λ (row : QueuedRow). not (is_packet_of c.args.fs row)) c.self.inside.rows.rows =
    filter_same _ (λ (row : QueuedRow). not (is_packet_of c.args.fs row)) _ (λ x b q k. search (rules, tests)) _ _ c.retain.ensures.filtered in
    subst (λ (rows : List QueuedRow). RiseByToken rows) (sym left)
    (RiseBy-filter (λ (row : QueuedRow). row.token) (λ row. not (is_packet_of c.args.fs row)) 0 c.self.inside.rows.rows c.self.invariant)

pub returns : goal.returns
returns c =
    filter_same _ (λ (row : QueuedRow). not (is_packet_of c.args.fs row)) _ (λ x b q k. search (rules, tests)) _ _ c.retain.ensures.filtered
    ∙ ap (λ (t : RowTable QueuedRow). filter (λ (row : QueuedRow). not (is_packet_of c.args.fs row)) t.rows) c.self.view_is
