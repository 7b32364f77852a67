use Rattle.std.proofs.Common.{◌≡◌, ◌-◌, ◌<◌, ℕ, arith, List, drop, Bor, Option, Some, None, IfSome, ap, ◌∙◌}
use Rattle.std.specs.Option.{option_copied}
use Rattle.am_recall.specs.Lines.{left_lines, raw_lines}
use Rattle.am_recall.proofs.RecallLemmas.{lines_from}
use Rattle.am_recall.proofs.recalled.Recalled.text_from.Goals as goal

left_at : (number : ℕ) (lines : List (List ℕ)) (left : Option (Bor (List ℕ))) → 0 < number → left_lines (option_copied left) ≡ lines → IfSome left (λ rest. (0 < number) × (raw_lines rest.now ≡ lines))
left_at number lines None some same = tt
left_at number lines (Some rest) some same = (some, same)

pub returns-clause-lines : goal.returns-clause-lines
returns-clause-lines c text is =
    let above = c.args.self.now.above in
    let kept = c.args.self.now.kept.items in
    left_at c.args.number (drop (c.args.number - 1) (raw_lines text)) c.behind_lines.result (omega (arith, c.if-number-self.false))
    (c.behind_lines.ensures
    ∙ ap (λ (t : List ℕ). drop (c.args.number - above - 1) (raw_lines t)) c.deref.ensures.value
    ∙ lines_from above c.args.number text kept (is c.if-self.false) c.if-number-self.false)
