-- How a trace is judged from its front: what is kept in mind of the part that was judged, so that
-- the next place is judged by what was seen lately (own choice).
use Rattle.std.specs.Prelude.{◌≡◌, ◌≤◌, ℕ, Bool, true, false, not, nat_lt, List, ◌∷◌, ◌++◌, length, take, if◌then◌else◌}
use Rattle.std.specs.List.{list_any, list_all}
use Rattle.am_state.specs.{Obs}
use Rattle.am_state.specs.declared.obs.Obs.TheVariants.{Queued, Answered, Catatonic, Unmounted}
use Rattle.am_laws.specs.OneObservation.{queues, is_released}
use Rattle.am_laws.specs.Fold.{IsLawfulAt}
use Rattle.am_laws.specs.Tests.{Has, is_open, is_unused, is_lawful_at}

-- each of these was lawful where it stands
abbrev pub WereLawful : List Obs → Type 0
WereLawful seen =
    (before : List Obs) (o : Obs) (later : List Obs) → seen ≡ before ++ o ∷ later →
    (rest : List Obs) × IsLawfulAt before o rest

-- no token that was queued long ago is open any more
abbrev pub AreSettled : List Obs → List Obs → Type 0
AreSettled old seen = (token : ℕ) → Has (queues token) old → is_open token seen ≡ false

-- what can close tokens: an answer, or catatonic mode
abbrev pub can_close : Obs → Bool
can_close (Answered token status) = true
can_close (Catatonic fs) = true
can_close _ = false

-- none was open when the row of Released began that stands at the end
abbrev pub WereSettled : List Obs → List Obs → Type 0
WereSettled old seen =
    (before : List Obs) (cause : Obs) (row : List Obs) → seen ≡ before ++ cause ∷ row →
    list_all is_released row ≡ true → can_close cause ≡ true → AreSettled old before

-- no token that was queued is greater
abbrev pub AreUpTo : ℕ → List Obs → Type 0
AreUpTo greatest seen = (token : ℕ) → Has (queues token) seen → token ≤ greatest

-- how much of what was seen is settled, and the greatest token
pub record Remembers (settled greatest : ℕ) (seen : List Obs) : Type 0 where
  pub is_part : settled ≤ length seen
  pub lawful : WereLawful seen
  pub are_settled : AreSettled (take settled seen) seen
  pub were_settled : WereSettled (take settled seen) seen
  pub up_to : AreUpTo greatest seen

-- What is settled where this is seen next: more of it where this can close tokens, so that a row
-- of Released has what it needs.
pub record Settles (settled before_that : ℕ) (seen : List Obs) (next : Obs) : Type 0 where
  pub is_part : settled ≤ length seen
  pub are_settled : AreSettled (take settled seen) seen
  pub only_then : can_close next ≡ false → settled ≡ before_that

-- a token is queued first of these, and open after them
abbrev pub is_pending : Obs → List Obs → Bool
is_pending (Queued token attach packet) lately = is_open token lately
is_pending _ lately = false

-- the greatest token, once this is seen
abbrev pub greatest_with : ℕ → Obs → ℕ
greatest_with greatest (Queued token attach packet) = if nat_lt greatest token then token else greatest
greatest_with greatest _ = greatest

-- the test of one place: what is queued and what goes is looked up in all that was seen before
abbrev pub is_lawful_lately : List Obs → List Obs → Obs → List Obs → Bool
is_lawful_lately before lately (Queued token attach packet) rest = not (list_any (queues token) before)
is_lawful_lately before lately (Unmounted mounts) rest = list_all (is_unused before) mounts
is_lawful_lately before lately o rest = is_lawful_at lately o rest
