-- The tests that decide the laws (own choice).
use Rattle.std.specs.Prelude.{◌≡◌, ℕ, ◌==◌, Bool, true, false, ◌&&◌, ◌||◌, not, List, [], ◌∷◌, ◌++◌, Option, None, Some, if◌then◌else◌}
use Rattle.std.specs.List.{list_any, list_all, count_by}
use Rattle.am_state.specs.{Obs}
use Rattle.am_state.specs.declared.obs.Obs.TheVariants.{Queued, Waits, Answered, Catatonic, Released, Passed, Entered, Left, Mounted, Unmounted, Delivered, Recorded, Reattached, Died}
use Rattle.am_names.specs.{Status}
use Rattle.am_wire.specs.{Packet}
use Rattle.am_names.specs.declared.trigger.Trigger.{Trigger}
use Rattle.am_laws.specs.OneObservation.{queues, queues_as, waits, delivers, releases, is_released, closes, closes_as, unqueues, enters, leaves, expires, is_fs}
use Rattle.am_laws.specs.Counts.{packet_of, fs_of_token}

-- some of these observations pass the test
abbrev pub Has : (Obs → Bool) → List Obs → Type 0
Has test seen = list_any test seen ≡ true

-- none of them does
abbrev pub HasNo : (Obs → Bool) → List Obs → Type 0
HasNo test seen = list_any test seen ≡ false

-- one of these stands there, and behind it none of those
pub record HasSince (these those : Obs → Bool) (seen : List Obs) : Type 0 where
  pub before : List Obs
  pub this : Obs
  pub later : List Obs
  pub splits : seen ≡ before ++ this ∷ later
  pub is_one : these this ≡ true
  pub none_later : HasNo those later

-- one of the unbroken row of Released, with which these observations begin, passes the test
abbrev pub is_in_row : (Obs → Bool) → List Obs → Bool
is_in_row test [] = false
is_in_row test (o ∷ rest) = is_released o && (test o || is_in_row test rest)

-- one of these was seen and none of those after it, where it was so or not before
abbrev pub since : (Obs → Bool) → (Obs → Bool) → Bool → List Obs → Bool
since these those b [] = b
since these those b (o ∷ later) =
    since these those (if these o then true else if those o then false else b) later

-- the token was queued, and then not closed (`IsOpen`)
abbrev pub is_open : ℕ → List Obs → Bool
is_open token seen = since (queues token) (closes token (fs_of_token token seen)) false seen

-- the packet was queued, and has not left the queue since (`IsQueued`)
abbrev pub is_in_queue : ℕ → ℕ → Packet → List Obs → Bool
is_in_queue token attach packet seen =
    since (queues_as token attach packet) (unqueues token packet.dev) false seen

-- the mount was entered as often as it was left
abbrev pub is_unused : List Obs → ℕ → Bool
is_unused seen mount = count_by (enters mount) seen == count_by (leaves mount) seen

-- there is a packet, and it asks to expire the trigger (`AsksToExpire`)
abbrev pub asks : Trigger → Option Packet → Bool
asks trigger None = false
asks trigger (Some packet) = expires trigger packet

-- a Queued of a token that is open and asks to expire the trigger
abbrev pub is_expiry : List Obs → Trigger → Obs → Bool
is_expiry seen trigger (Queued token attach packet) =
    asks trigger (packet_of token seen) && is_open token seen
is_expiry seen trigger _ = false

-- the cause closes the token with this status, the row behind it is of Released alone, and the
-- token was open
abbrev pub is_cause : List Obs → Obs → List Obs → ℕ → Status → Bool
is_cause before cause row token status =
    closes_as token (fs_of_token token before) status cause && list_all is_released row
    && is_open token before

-- some place of `rest`, after `before`, is the cause of the row at the end
abbrev pub ends_in_row : List Obs → List Obs → ℕ → Status → Bool
ends_in_row before [] token status = false
ends_in_row before (o ∷ rest) token status =
    is_cause before o rest token status || ends_in_row (before ++ o ∷ []) rest token status

-- the walker waits on the token, was not released from it, and stands in the row of what closed
-- it (`MayBeReleased`)
abbrev pub may_be_released : List Obs → ℕ → ℕ → Status → Bool
may_be_released before walker token status =
    list_any (waits walker token) before && not (list_any (releases walker token) before)
    && ends_in_row [] before token status

-- no Waits on the token, or of a walker in the row that follows
abbrev pub is_let_go : ℕ → List Obs → Obs → Bool
is_let_go token rest (Waits walker k) =
    if k == token then is_in_row (releases walker token) rest else true
is_let_go token rest _ = true

-- each walker that waits on the token is released in the row that follows (`AllReleased`)
abbrev pub all_released : List Obs → ℕ → List Obs → Bool
all_released before token rest = list_all (is_let_go token rest) before

-- no Queued of an open token of the file system, or one all of whose waiters are released
abbrev pub is_closed : ℕ → List Obs → List Obs → Obs → Bool
is_closed fs before rest (Queued token attach packet) =
    if is_fs (fs_of_token token before) fs && is_open token before
    then all_released before token rest
    else true
is_closed fs before rest _ = true

-- the test of one place, one line an observation (`IsLawfulAt`)
abbrev pub is_lawful_at : List Obs → Obs → List Obs → Bool
is_lawful_at before (Queued token attach packet) rest = not (list_any (queues token) before)
is_lawful_at before (Waits walker token) rest = is_open token before
is_lawful_at before (Answered token status) rest =
    is_open token before && list_any (delivers token) before && all_released before token rest
is_lawful_at before (Catatonic fs) rest = list_all (is_closed fs before rest) before
is_lawful_at before (Released walker token status) rest = may_be_released before walker token status
is_lawful_at before (Passed walker trigger) rest = not (list_any (is_expiry before trigger) before)
is_lawful_at before (Entered walker mount) rest = true
is_lawful_at before (Left walker mount) rest = true
is_lawful_at before (Mounted mounts) rest = true
is_lawful_at before (Unmounted mounts) rest = list_all (is_unused before) mounts
is_lawful_at before (Delivered token attach packet) rest =
    is_in_queue token attach packet before && not (list_any (delivers token) before)
is_lawful_at before (Recorded trigger entry) rest = true
is_lawful_at before (Reattached fs attach) rest = true
is_lawful_at before Died rest = true

-- each place of `rest` passes after `before` (`AreLawful`)
abbrev pub are_lawful : List Obs → List Obs → Bool
are_lawful before [] = true
are_lawful before (o ∷ rest) = is_lawful_at before o rest && are_lawful (before ++ o ∷ []) rest
