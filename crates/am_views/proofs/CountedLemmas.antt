-- Events are counted.
use Rattle.std.proofs.Common.{◌≤◌, Bool, true, false, arith}
use Rattle.am_script.specs.{Summary}
use Rattle.am_views.specs.{one_more}

pub more_lines : (summary : Summary) (refused : Bool) → summary.refused ≤ summary.lines → (one_more summary refused).refused ≤ (one_more summary refused).lines
more_lines summary true h = omega arith
more_lines summary false h = omega arith
