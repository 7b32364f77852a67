-- The mounts before an event are looked at.
use Rattle.std.proofs.Common.{◌≡◌, Bool, true, false, List, [], refl, if◌then◌else◌}
use Rattle.am_names.specs.{MountRow}

pub taken : (test : Bool) (rows : List MountRow) → test ≡ true → rows ≡ (if test then rows else [])
taken true rows e = refl
taken false rows e = absurd cc
