use Rattle.std.proofs.Common.{◌≡◌, ◌+◌, ◌≤◌, ◌<◌, ◌-◌, [], ◌∷◌, ℕ, arith, sym, ap, drop, ◌∙◌}
use Rattle.am_script.specs.Lines.{lines_of}
use Rattle.am_diagnosis.proofs.ColumnLemmas.{one_more}
use Rattle.am_diagnosis.proofs.ScriptLemmas.{lines_at_is, none_past}
use Rattle.am_diagnosis.proofs.script.text_at.Goals as goal

pub returns-in_default : goal.returns-in_default
returns-in_default c =
    let cut : lines_of c.loop-above.rest.now ≡ c.cut_at_line_feed.result.0.now ∷ [] = rw c.in_default.is at c.cut_at_line_feed.ensures.last in
    let none : drop (c.loop-above._above + 1) (lines_of c.args.script.now) ≡ [] =
    (one_more c.loop-above._above (lines_of c.args.script.now) c.cut_at_line_feed.result.0.now [] (sym cut ∙ c.loop-above.invariant)).1 in
    let some : 0 < c.args.number = omega arith in
    let far : c.loop-above._above + 1 ≤ c.args.number - 1 = omega arith in
    sym (lines_at_is c.args.number (lines_of c.args.script.now) some
    ∙ none_past (c.loop-above._above + 1) (c.args.number - 1) (lines_of c.args.script.now) none far)

pub loop-above-preserved : goal.loop-above-preserved
loop-above-preserved c =
    let cut : lines_of c.loop-above.rest.now ≡ c.cut_at_line_feed.result.0.now ∷ lines_of c.in-Some.text.now = rw c.in-Some.is at c.cut_at_line_feed.ensures.cut in
    sym (one_more c.loop-above._above (lines_of c.args.script.now) c.cut_at_line_feed.result.0.now (lines_of c.in-Some.text.now) (sym cut ∙ c.loop-above.invariant)).1

pub returns : goal.returns
returns c =
    let some : 0 < c.args.number = omega arith in
    let all : c.loop-above._above ≡ c.args.number - 1 = omega arith in
    c.loop-above.invariant ∙ ap (λ (n : ℕ). drop n (lines_of c.args.script.now)) all
    ∙ sym (lines_at_is c.args.number (lines_of c.args.script.now) some)
