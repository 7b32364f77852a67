-- How the laws are proved: they are told from the front of a trace on, one line an observation,
-- given what was seen before it and what follows (own choice).
use Rattle.std.specs.Prelude.{◌≡◌, ℕ, Bool, false, List, [], ◌∷◌, ◌++◌, Some, pos}
use Rattle.std.specs.List.{All}
use Rattle.am_state.specs.{Obs}
use Rattle.am_state.specs.declared.obs.Obs.TheVariants.{Queued, Waits, Answered, Catatonic, Released, Passed, Entered, Left, Mounted, Unmounted, Delivered, Recorded, Reattached, Died}
use Rattle.am_laws.specs.OneObservation.{is_released}
use Rattle.am_laws.specs.Counts.{fs_of_token, IsOpen, IsExpiring, IsQueued, NeverQueued, WasDelivered, NeverDelivered, uses}
use Rattle.am_laws.specs.TraceLaws.{MayBeReleased, AllReleased}

-- an observation is lawful after what was seen before it, and before what follows
abbrev pub IsLawfulAt : List Obs → Obs → List Obs → Type 0
IsLawfulAt before (Queued token attach packet) rest = NeverQueued before token
IsLawfulAt before (Waits walker token) rest = IsOpen before token
IsLawfulAt before (Answered token status) rest =
    IsOpen before token × WasDelivered before token × AllReleased before token rest
IsLawfulAt before (Catatonic fs) rest =
    (token : ℕ) → fs_of_token token before ≡ Some fs → IsOpen before token →
    AllReleased before token rest
IsLawfulAt before (Released walker token status) rest = MayBeReleased before walker token status
IsLawfulAt before (Passed walker trigger) rest = ¬ IsExpiring before trigger
IsLawfulAt before (Entered walker mount) rest = Unit {0}
IsLawfulAt before (Left walker mount) rest = Unit {0}
IsLawfulAt before (Mounted mounts) rest = Unit {0}
IsLawfulAt before (Unmounted mounts) rest = All (λ mount. uses before mount ≡ pos 0) mounts
IsLawfulAt before (Delivered token attach packet) rest =
    IsQueued before token attach packet × NeverDelivered before token
IsLawfulAt before (Recorded trigger entry) rest = Unit {0}
IsLawfulAt before (Reattached fs attach) rest = Unit {0}
IsLawfulAt before Died rest = Unit {0}

-- each place of `rest` is lawful after `before`
abbrev pub AreLawful : List Obs → List Obs → Type 0
AreLawful before [] = Unit {0}
AreLawful before (o ∷ rest) = IsLawfulAt before o rest × AreLawful (before ++ o ∷ []) rest

-- a Released stands first
abbrev pub begins_with_released : List Obs → Bool
begins_with_released [] = false
begins_with_released (o ∷ rest) = is_released o
