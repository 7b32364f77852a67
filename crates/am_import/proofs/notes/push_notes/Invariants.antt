use Rattle.std.proofs.Common.{◌≡◌, ◌++◌, take}
use Rattle.std.specs.List.{flat_map}
use Rattle.am_import.specs.Notes.{note_text}
use Rattle.am_import.proofs.notes.push_notes.Given as goal

abbrev pub invariant-loop-row : goal.invariant-loop-row
invariant-loop-row l =
    l.text.items ≡ l.fn.text.items ++ flat_map (note_text l.world.kernel.table l.rows) (take l.row-index l.rows)
