-- The laws of a trace, by its places: wherever an observation stands, what must hold of those
-- before it and of those behind it (autofs.rst, "Communicating with autofs: the event pipe",
-- "Catatonic mode" and "Mountpoint expiry"; that they are said of a trace is own choice).
use Rattle.std.specs.Prelude.{◌≡◌, ◌⊎◌, ℕ, true, List, ◌∷◌, ◌++◌, Some, pos}
use Rattle.std.specs.List.{list_all, All, Contains}
use Rattle.am_names.specs.declared.fail_no.FailNo.TheVariants.{ENOENT}
use Rattle.am_names.specs.{Status}
use Rattle.am_names.specs.declared.trigger.Status.TheVariants.{Fail}
use Rattle.am_names.specs.declared.trigger.Trigger.{Trigger}
use Rattle.am_wire.specs.{Packet}
use Rattle.am_state.specs.{Obs}
use Rattle.am_state.specs.declared.obs.Obs.TheVariants.{Queued, Waits, Answered, Catatonic, Released, Passed, Unmounted, Delivered}
use Rattle.am_laws.specs.OneObservation.{is_released}
use Rattle.am_laws.specs.Counts.{fs_of_token, IsOpen, IsExpiring, IsQueued, NeverQueued, WasDelivered, NeverDelivered, uses, IsInRow}

-- what closes a token and gives its waiters a status: its answer, or Fail ENOENT by catatonic
-- mode of its file system
abbrev pub Closes : List Obs → ℕ → Status → Obs → Type 0
Closes before token status cause =
    (cause ≡ Answered token status)
    ⊎ ((fs : ℕ) × (cause ≡ Catatonic fs) × (fs_of_token token before ≡ Some fs)
    × (status ≡ Fail ENOENT))

-- these observations end in an unbroken row of Released, perhaps empty, right behind what closed
-- the token, which was open before that
pub record EndsInRow (seen : List Obs) (token : ℕ) (status : Status) : Type 0 where
  pub before : List Obs
  pub cause : Obs
  pub row : List Obs
  pub splits : seen ≡ before ++ cause ∷ row
  pub unbroken : list_all is_released row ≡ true
  pub closed : Closes before token status cause
  pub was_open : IsOpen before token

-- a walker may be released from a token: it stands in the row of what closed it, waits on it,
-- and wasn't released from it before
pub record MayBeReleased (before : List Obs) (walker token : ℕ) (status : Status) : Type 0 where
  pub in_row : EndsInRow before token status
  pub waited : Contains before (Waits walker token)
  pub once : (s : Status) → ¬ Contains before (Released walker token s)

-- each walker that waits on the token is in the row of Released that follows
abbrev pub AllReleased : List Obs → ℕ → List Obs → Type 0
AllReleased before token rest =
    (walker : ℕ) → Contains before (Waits walker token) → IsInRow walker token rest

-- waiters: they wait on open tokens, are released by what closes their token and not otherwise,
-- once, and all of them at once
pub record WaitersLaw (trace : List Obs) : Type 0 where
  pub waits_on_open : (before rest : List Obs) (walker token : ℕ) →
      trace ≡ before ++ Waits walker token ∷ rest → IsOpen before token
  pub released_by_cause : (before rest : List Obs) (walker token : ℕ) (status : Status) →
      trace ≡ before ++ Released walker token status ∷ rest →
      MayBeReleased before walker token status
  pub answer_releases_all : (before rest : List Obs) (token : ℕ) (status : Status) →
      trace ≡ before ++ Answered token status ∷ rest → AllReleased before token rest
  pub catatonic_releases_all : (before rest : List Obs) (fs token : ℕ) →
      trace ≡ before ++ Catatonic fs ∷ rest → fs_of_token token before ≡ Some fs →
      IsOpen before token → AllReleased before token rest

-- no walk passes a trigger that is expiring
abbrev pub PassesLaw : List Obs → Type 0
PassesLaw trace = (before rest : List Obs) (walker : ℕ) (trigger : Trigger) →
    trace ≡ before ++ Passed walker trigger ∷ rest → ¬ IsExpiring before trigger

-- no mount that is in use is unmounted
abbrev pub UnmountsLaw : List Obs → Type 0
UnmountsLaw trace = (before rest : List Obs) (mounts : List ℕ) →
    trace ≡ before ++ Unmounted mounts ∷ rest → All (λ mount. uses before mount ≡ pos 0) mounts

-- packets: each token is queued once, delivered once and out of the queue, and answered while it
-- is open and after its delivery
pub record PacketsLaw (trace : List Obs) : Type 0 where
  pub queued_once : (before rest : List Obs) (token attach : ℕ) (packet : Packet) →
      trace ≡ before ++ Queued token attach packet ∷ rest → NeverQueued before token
  pub delivered_from_queue : (before rest : List Obs) (token attach : ℕ) (packet : Packet) →
      trace ≡ before ++ Delivered token attach packet ∷ rest → IsQueued before token attach packet
  pub delivered_once : (before rest : List Obs) (token attach : ℕ) (packet : Packet) →
      trace ≡ before ++ Delivered token attach packet ∷ rest → NeverDelivered before token
  pub answered_while_open : (before rest : List Obs) (token : ℕ) (status : Status) →
      trace ≡ before ++ Answered token status ∷ rest → IsOpen before token
  pub answered_after_delivery : (before rest : List Obs) (token : ℕ) (status : Status) →
      trace ≡ before ++ Answered token status ∷ rest → WasDelivered before token

-- the laws of a trace
pub record Lawful (trace : List Obs) : Type 0 where
  pub waiters : WaitersLaw trace
  pub passes : PassesLaw trace
  pub unmounts : UnmountsLaw trace
  pub packets : PacketsLaw trace
