-- What tests say that have passed, one after another.
use Rattle.std.proofs.Common.{◌≡◌, Bool, true, false, Option, Some, None, refl}
use Rattle.std.specs.Prelude.{if◌then◌else◌}
use Rattle.am_names.specs.declared.errno.Errno.{Errno}
use Rattle.am_kernel.specs.{or_else}

pub test_passed : (b : Bool) (e : Errno) (rest : Option Errno) → (if b then Some e else rest) ≡ None → (b ≡ false) × (rest ≡ None)
test_passed true e rest h = absurd cc
test_passed false e rest h = (refl, h)

pub first_passed : (first others : Option Errno) → or_else first others ≡ None → first ≡ None
first_passed (Some e) others h = absurd cc
first_passed None others h = refl

pub others_passed : (first others : Option Errno) → or_else first others ≡ None → others ≡ None
others_passed (Some e) others h = absurd cc
others_passed None others h = h
