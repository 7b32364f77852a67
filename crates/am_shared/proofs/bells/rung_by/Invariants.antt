use Rattle.std.proofs.Common.{◌≡◌, ◌<◌, ℕ, false, get_or, length, take}
use Rattle.std.specs.List.{list_any}
use Rattle.am_shared.specs.{is_rung_by}
use Rattle.am_shared.proofs.bells.rung_by.Given as goal

abbrev pub invariant-loop-obs : goal.invariant-loop-obs
invariant-loop-obs l = record {
  wide : length l.rung ≡ 64;
  rung : (bell : ℕ) → bell < 64 → get_or l.rung bell false ≡ list_any (is_rung_by bell) (take l.obs-index l.seen);
}
