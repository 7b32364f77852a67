-- The lines of a text that are still to be read (autofs(5), "SUN FORMAT"; auto.master(5),
-- "FORMAT").
use Rattle.std.specs.Prelude.{ℕ, ◌+◌, List, []}
use Rattle.std.specs.Option.{option_map_or}
use Rattle.am_lines.specs.declared.lines.Remainder.{Remainder}
use Rattle.am_lines.specs.Lines.{Line, lines_from, raw_lines_in}

-- the lines behind one that begins at the raw line of this number
abbrev pub lines_behind : ℕ → Remainder → List Line
lines_behind number behind =
    option_map_or (λ rest. lines_from (number + behind.raw_lines) rest.now) behind.rest []

-- how many raw lines are still to be read
abbrev pub raw_lines_behind : Remainder → ℕ
raw_lines_behind behind = option_map_or (λ rest. raw_lines_in rest.now) behind.rest 0
