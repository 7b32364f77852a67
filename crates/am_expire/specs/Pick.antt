-- Which trigger of an autofs expires next (autofs.rst, "Mountpoint expiry"; Linux:
-- fs/autofs/expire.c).
use Rattle.std.specs.Prelude.{◌≡◌, ℕ, ◌+◌, ◌==◌, ◌||◌, ◌&&◌, nat_lt, nat_le, Bool, false, not, is_some, is_none, List, [], filter, find, All, Contains, Option, Some, None}
use Rattle.std.specs.List.{list_all}
use Rattle.std.specs.Cmp.Lexicographic.{slice_cmp}
use Rattle.std.specs.Option.{option_cmp, option_map}
use Rattle.std.specs.Ordering.{is_lt, nat_cmp}
use Rattle.am_names.specs.declared.trigger.Trigger.{Trigger}
use Rattle.am_names.specs.declared.row.TokenKind.TheVariants.{Missing, Expire}
use Rattle.am_mount.specs.{top_of}
use Rattle.am_propagate.specs.MountTable.{MountTable}
use Rattle.am_propagate.specs.{umount_refusal}
use Rattle.am_trigger.specs.{Autofs, TriggerRows, autofs_of, place_of}
use Rattle.am_wait.specs.{WaitRows, open_on}
use Rattle.am_expire.specs.declared.uses.Use.{Use}
use Rattle.am_expire.specs.Uses.{is_used}

-- what decides which trigger expires next
pub record Expiry : Type 0 where
  pub table : MountTable
  pub triggers : TriggerRows
  pub waits : WaitRows
  -- who is inside which mount
  pub uses : List Use
  -- the file system of which a trigger is to expire
  pub fs : ℕ
  -- the seconds that it must not have been used, 0 for never
  pub timeout : ℕ
  -- the seconds now
  pub moment : ℕ
  -- whatever the last use was
  pub immediate : Bool

-- it was not used for the timeout, if there is one; or the last use is not asked for
abbrev pub is_due : ℕ → ℕ → Bool → ℕ → Bool
is_due timeout moment immediate last =
    immediate || (nat_lt 0 timeout && nat_le (last + timeout) moment)

-- there is a mount, and an unmount of it would not be refused: neither it nor what goes with it
-- is in use, and nothing is mounted on it
abbrev pub may_go : MountTable → List Use → Option ℕ → Bool
may_go table uses None = false
may_go table uses (Some mount) = is_none (umount_refusal (is_used uses) mount table)

-- what is mounted on the trigger at the daemon's mount of this autofs
abbrev pub mount_at : MountTable → Option Autofs → Trigger → Option ℕ
mount_at table None trigger = None
mount_at table (Some row) trigger = top_of table.rows row.location (place_of trigger)

-- what is mounted on the trigger at the daemon's mount of the file system
abbrev pub mount_on : Expiry → Trigger → Option ℕ
mount_on e trigger = mount_at e.table (autofs_of e.triggers e.fs) trigger

-- a mount on the trigger is pending, or it is expiring
abbrev pub is_open : WaitRows → Trigger → Bool
is_open waits trigger =
    is_some (open_on waits.tokens Missing trigger) || is_some (open_on waits.tokens Expire trigger)

-- a trigger with its last use: it is one of the file system, it is due, the daemon isn't asked for
-- anything on it, and what is mounted on it may go
abbrev pub is_eligible : Expiry → Trigger × ℕ → Bool
is_eligible e row =
    row.0.fs == e.fs &&
    is_due e.timeout e.moment e.immediate row.1 &&
    not (is_open e.waits row.0) &&
    may_go e.table e.uses (mount_on e row.0)

-- the last uses of those that may expire now
abbrev pub candidates : Expiry → List (Trigger × ℕ)
candidates e = filter (is_eligible e) e.triggers.uses

-- the name is the lesser one by its bytes; no name, as a direct trigger has it, is the least
abbrev pub is_lesser_name : Option (List ℕ) → Option (List ℕ) → Bool
is_lesser_name name other = is_lt (option_cmp (slice_cmp nat_cmp) name other)

-- it was used before the other, or last at the same moment and has the lesser name
abbrev pub comes_before : Trigger × ℕ → Trigger × ℕ → Bool
comes_before row other =
    nat_lt row.1 other.1 || (row.1 == other.1 && is_lesser_name row.0.name other.0.name)

-- it is one of these, and none of these comes before it
abbrev pub IsLeast : List (Trigger × ℕ) → Trigger × ℕ → Type 0
IsLeast rows row = Contains rows row × All (λ other. comes_before other row ≡ false) rows

-- of those that may expire the trigger is the least; none, where none may expire
abbrev pub IsPick : Expiry → Option Trigger → Type 0
IsPick e None = candidates e ≡ []
IsPick e (Some trigger) = (last : ℕ) × IsLeast (candidates e) (trigger, last)

-- none of these comes before it
abbrev pub is_first : List (Trigger × ℕ) → Trigger × ℕ → Bool
is_first rows row = list_all (λ other. not (comes_before other row)) rows

-- the trigger of the candidate before which no other comes
abbrev pub pick_of : Expiry → Option Trigger
pick_of e = option_map (λ row. row.0) (find (is_first (candidates e)) (candidates e))
