use Rattle.std.proofs.Common.{◌≡◌, ℕ, ◌+◌, ◌-◌, arith, length, ap, subst}
use Rattle.std.proofs.lemmas.List.{length-append}
use Rattle.am_diagnosis.specs.Columns.{IsColumn}
use Rattle.am_diagnosis.proofs.ColumnLemmas.{none_taken, behind_blanks, behind_word, is_column}
use Rattle.am_diagnosis.proofs.columns.column.Goals as goal

pub loop-word-init : goal.loop-word-init
loop-word-init c = none_taken c.args.line.now

pub loop-word-preserved : goal.loop-word-preserved
loop-word-preserved c =
    behind_word c.args.line.now c.loop-word._word c.behind_blanks.result.now c.behind_word-rest.result.now
    (behind_blanks c.args.line.now c.loop-word._word c.loop-word.rest.now c.behind_blanks.result.now c.loop-word.invariant c.behind_blanks.ensures)
    c.behind_word-rest.ensures

pub overflow_sub-result : goal.overflow_sub-result
overflow_sub-result c =
    let left = c.loop-word.invariant in
    let blanks = c.behind_blanks-2.ensures in
    omega (arith, ap length left.parts, ap length blanks.parts, length-append left.front c.loop-word.rest.now, length-append blanks.front c.behind_blanks-2.result.now)

pub returns : goal.returns
returns c =
    let all : c.loop-word._word ≡ c.args.place = omega arith in
    subst (λ (n : ℕ). IsColumn c.args.line.now n (length c.args.line.now - length c.behind_blanks-2.result.now + 1)) all
    (is_column c.args.line.now c.loop-word._word c.behind_blanks-2.result.now
    (behind_blanks c.args.line.now c.loop-word._word c.loop-word.rest.now c.behind_blanks-2.result.now c.loop-word.invariant c.behind_blanks-2.ensures))
