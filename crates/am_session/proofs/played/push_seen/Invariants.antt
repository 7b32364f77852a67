use Rattle.std.proofs.Common.{◌≡◌, take}
use Rattle.am_views.specs.{obs_lines}
use Rattle.am_session.proofs.played.push_seen.Given as goal

abbrev pub invariant-loop-obs : goal.invariant-loop-obs
invariant-loop-obs l = l.text.items ≡ obs_lines (take l.obs-index l.seen)
