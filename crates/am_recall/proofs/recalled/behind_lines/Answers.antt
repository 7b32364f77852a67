use Rattle.std.proofs.Common.{◌≡◌, ◌+◌, [], ◌∷◌, arith, sym, ◌∙◌}
use Rattle.am_recall.specs.Lines.{raw_lines}
use Rattle.am_recall.proofs.RecallLemmas.{next_lines, none_past}
use Rattle.am_recall.proofs.recalled.behind_lines.Goals as goal

pub returns-in_default : goal.returns-in_default
returns-in_default c =
    let cut : raw_lines c.loop-above.rest.now ≡ c.cut_at_line_feed.result.0.now ∷ [] = rw c.in_default.is at c.cut_at_line_feed.ensures.last in
    none_past (c.loop-above._above + 1) c.args.lines (raw_lines c.args.text.now)
    (next_lines c.loop-above._above (raw_lines c.args.text.now) c.cut_at_line_feed.result.0.now [] (sym cut ∙ c.loop-above.invariant))
    (omega arith)

pub loop-above-preserved : goal.loop-above-preserved
loop-above-preserved c =
    let cut : raw_lines c.loop-above.rest.now ≡ c.cut_at_line_feed.result.0.now ∷ raw_lines c.in-Some.text.now = rw c.in-Some.is at c.cut_at_line_feed.ensures.cut in
    next_lines c.loop-above._above (raw_lines c.args.text.now) c.cut_at_line_feed.result.0.now (raw_lines c.in-Some.text.now) (sym cut ∙ c.loop-above.invariant)
