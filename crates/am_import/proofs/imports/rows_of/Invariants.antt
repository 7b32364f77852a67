use Rattle.std.proofs.Common.{◌≡◌, map}
use Rattle.am_import.proofs.imports.rows_of.Given as goal

abbrev pub invariant-loop-line : goal.invariant-loop-line
invariant-loop-line l = map (λ row. row.line) l.rows.items ≡ l.yielded
