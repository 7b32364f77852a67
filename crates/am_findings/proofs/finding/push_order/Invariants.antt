use Rattle.std.proofs.Common.{◌≡◌, ◌++◌, drop}
use Rattle.am_findings.specs.Texts.{order_text}
use Rattle.am_findings.proofs.finding.push_order.Given as goal

abbrev pub invariant-loop-choice : goal.invariant-loop-choice
invariant-loop-choice l = l.text.items ++ order_text (drop l.choice-index l.choices) ≡ l.fn.text.items
    ++ order_text l.choices
