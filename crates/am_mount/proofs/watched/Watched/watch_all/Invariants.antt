use Rattle.am_mount.specs.Watched.{Watches}
use Rattle.am_mount.proofs.watched.Watched.watch_all.Given as goal

-- what is watched stays so
abbrev pub invariant-loop-place : goal.invariant-loop-place
invariant-loop-place l = Watches l.fn.self l.self
