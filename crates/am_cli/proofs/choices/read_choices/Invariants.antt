use Rattle.std.proofs.Common.{◌≡◌, length}
use Rattle.std.specs.List.{slice_split}
use Rattle.am_mount_lines.specs.Traps.{is_comma}
use Rattle.am_cli.specs.Choices.{choices_read}
use Rattle.am_cli.proofs.ChoiceLemmas.{onto}
use Rattle.am_cli.proofs.choices.read_choices.Given as goal

abbrev pub invariant-loop-one : goal.invariant-loop-one
invariant-loop-one l = choices_read (slice_split is_comma l.word) ≡ onto l.choices.items (choices_read (slice_split is_comma l.left))

abbrev pub decreases-loop-one : goal.decreases-loop-one
decreases-loop-one l = length l.left
