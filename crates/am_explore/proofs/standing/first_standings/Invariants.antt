use Rattle.std.proofs.Common.{◌≡◌, take}
use Rattle.am_explore.specs.Standings.{first_standings}
use Rattle.am_explore.proofs.standing.first_standings.Given as goal

abbrev pub invariant-loop-thread : goal.invariant-loop-thread
invariant-loop-thread l = l.all.items ≡ first_standings (take l.thread-index l.threads)
