use Rattle.std.proofs.Common.{◌≡◌, take}
use Rattle.am_draw.specs.{lasts_of, seen_behind}
use Rattle.am_draw.proofs.lasting.Lasting.change_by.Given as goal

abbrev pub invariant-loop-obs : goal.invariant-loop-obs
invariant-loop-obs l = lasts_of l.self ≡ seen_behind l.number (lasts_of l.fn.self) (take l.obs-index l.seen)
