-- How a walker stands, by what was last seen of it, and in a world.
use Rattle.std.specs.Prelude.{◌≡◌, ℕ, ◌==◌, Bool, true, false, is_some, List, [], ◌∷◌, Option, if◌then◌else◌}
use Rattle.am_names.specs.{WaitRow}
use Rattle.am_state.specs.{Obs}
use Rattle.am_state.specs.declared.obs.Obs.TheVariants as seen
use Rattle.am_wait.specs.{still_waits, wait_of}
use Rattle.am_expire.specs.{Use, mount_of_walker}

-- it rests, it waits on a token that isn't acknowledged, or it is inside a mount
pub data Standing : Type 0 where
  Rests : Standing
  Waits : Standing
  IsInside : Standing

-- by whether it is inside a mount, and by its wait
abbrev pub stands_by : Bool → Option WaitRow → Standing
stands_by inside wait = if inside then IsInside else if still_waits wait then Waits else Rests

-- among these waits and uses
abbrev pub stands : ℕ → List WaitRow → List Use → Standing
stands walker waits uses = stands_by (is_some (mount_of_walker uses walker)) (wait_of waits walker)

-- once this was seen
abbrev pub then_stands : ℕ → Standing → Obs → Standing
then_stands walker old (seen.Waits other token) = if other == walker then Waits else old
then_stands walker old (seen.Released other token status) = if other == walker then Rests else old
then_stands walker old (seen.Entered other mount) = if other == walker then IsInside else old
then_stands walker old (seen.Left other mount) = if other == walker then Rests else old
then_stands walker old _ = old

-- once all of these were seen, in order
abbrev pub stands_behind : ℕ → Standing → List Obs → Standing
stands_behind walker old [] = old
stands_behind walker old (obs ∷ later) = stands_behind walker (then_stands walker old obs) later

-- no walker that has a wait is inside a mount
abbrev pub AreApart : List WaitRow → List Use → Type 0
AreApart waits uses =
    (walker : ℕ) → is_some (wait_of waits walker) ≡ true → is_some (mount_of_walker uses walker) ≡ false
