use Rattle.std.proofs.Common.{◌++◌, ◌∷◌, ◌+◌, [], length}
use Rattle.std.specs.Prelude.{codes, decimal}
use Rattle.am_findings.specs.Texts.{order_text}
use Rattle.am_findings.proofs.TextLemmas.{on_more, on_same, whole_order}
use Rattle.am_findings.proofs.finding.push_found_order.Goals as goal

pub returns : goal.returns
returns c =
    let first = c.args.first.now in
    let choices = c.args.choices.now in
    let count = decimal (length first + length choices) in
    let result = c.push_order-2.result in
    let end = c.push_order-2.new.text.items in
    let fifth = on_more result c.push.new.self.items (order_text first) (order_text choices) c.push_order.new.text.items
    end c.in_ok-push_order.ensures c.push_order-2.ensures in
    let fourth = on_more result c.push_sum.new.text.items (10 ∷ []) (order_text first ++ order_text choices)
    c.push.new.self.items end c.in_ok-push.ensures.items fifth in
    let third = on_more result c.extend_from_slice.new.self.items count (10 ∷ (order_text first ++ order_text choices))
    c.push_sum.new.text.items end c.in_ok-push_sum.ensures fourth in
    on_same result c.args.text.now.items end (whole_order first choices)
    (on_more result c.args.text.now.items (codes ": yes, events ")
    (count ++ (10 ∷ (order_text first ++ order_text choices))) c.extend_from_slice.new.self.items end
    c.in_ok-extend_from_slice.ensures.items third)
