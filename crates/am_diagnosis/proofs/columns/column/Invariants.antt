use Rattle.am_diagnosis.proofs.ColumnLemmas.{IsLeft}
use Rattle.am_diagnosis.proofs.columns.column.Given as goal

abbrev pub invariant-loop-word : goal.invariant-loop-word
invariant-loop-word l = IsLeft l.line l._word l.rest
