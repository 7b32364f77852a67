use Rattle.std.proofs.Common.{◌≤◌, ◌+◌, length, option_copied}
use Rattle.am_script.specs.{size_in}
use Rattle.am_import.proofs.LineLemmas.{Reading}
use Rattle.am_import.proofs.imports.read_lines.Given as goal

abbrev pub invariant-loop-rest : goal.invariant-loop-rest
invariant-loop-rest l = record {
  going : Reading l.fn.text (option_copied l.rest) l.number l.mounts;
  fits : l.number + size_in (option_copied l.rest) ≤ length l.fn.text + 1;
}

abbrev pub decreases-loop-rest : goal.decreases-loop-rest
decreases-loop-rest l = size_in (option_copied l.rest)
