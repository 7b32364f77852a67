use Rattle.std.proofs.Common.{◌≡◌, ◌∷◌, take}
use Rattle.std.specs.List.{flat_map}
use Rattle.am_state.specs.declared.obs.Obs.TheVariants as seen
use Rattle.am_kernel.specs.{failures}
use Rattle.am_kernel.proofs.kernel.Kernel.catatonic_observations.Given as goal

abbrev pub invariant-loop-token : goal.invariant-loop-token
invariant-loop-token l =
    l.shown.items ≡ seen.Catatonic l.fn.fs ∷ flat_map (failures l.fn.self) (take l.token-index l.token-items)
