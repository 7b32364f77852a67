use Rattle.std.proofs.Common.{◌≡◌, take}
use Rattle.am_explore.proofs.standing.standings_again.Given as goal

abbrev pub invariant-loop-progress : goal.invariant-loop-progress
invariant-loop-progress l = l.copies.items ≡ take l.progress-index l.standings
