-- All autofs file systems, the directories that the daemon made in them, and when each trigger
-- was last used (autofs.rst, "Content" and "Mountpoint expiry").
use Rattle.std.specs.Prelude.{◌≡◌, ℕ, ◌==◌, ◌||◌, ◌&&◌, Bool, false, not, is_some, List, [], ◌∷◌, ◌++◌, map, filter, find, slice_get, Option, Some, None, if◌then◌else◌}
use Rattle.std.specs.List.{list_any}
use Rattle.std.specs.Option.{option_map}
use Rattle.am_names.specs.{same_trigger}
use Rattle.am_names.specs.declared.errno.Errno.{Errno}
use Rattle.am_names.specs.declared.errno.Errno.TheVariants.{EEXIST, EINVAL, ENOENT}
use Rattle.am_names.specs.declared.trigger.Trigger.{Trigger}
use Rattle.am_trigger.specs.declared.autofs.Autofs.{Autofs}

-- all autofs file systems and their triggers
pub record TriggerRows : Type 0 where
  -- in order of adding
  pub autofs : List Autofs
  -- the directories made, in order of making
  pub made : List Trigger
  -- each trigger with the moment of its last use, in order of first use
  pub uses : List (Trigger × ℕ)

-- no autofs
abbrev pub no_triggers : TriggerRows
no_triggers = record { autofs = []; made = []; uses = [] }

-- ---- file systems

-- the autofs of this number
abbrev pub autofs_of : TriggerRows → ℕ → Option Autofs
autofs_of t fs = find (λ row. row.fs == fs) t.autofs

-- the test of `add_fs`: the file system is new
abbrev pub add_refusal : ℕ → TriggerRows → Option Errno
add_refusal fs t = if is_some (autofs_of t fs) then Some EEXIST else None

-- one more autofs, the last; it is not catatonic
abbrev pub with_autofs : ℕ → Bool → ℕ → TriggerRows → TriggerRows
with_autofs fs direct location t =
    let row : Autofs = record { fs = fs; direct = direct; location = location; catatonic = false } in
    record t { autofs = t.autofs ++ row ∷ [] }

-- the test of `set_catatonic`: the file system is known
abbrev pub catatonic_refusal : ℕ → TriggerRows → Option Errno
catatonic_refusal fs t = if is_some (autofs_of t fs) then None else Some EINVAL

-- a row of this file system is catatonic, or is so no longer
abbrev pub catatonic_row : ℕ → Bool → Autofs → Autofs
catatonic_row fs catatonic row = if row.fs == fs then record row { catatonic = catatonic } else row

-- the file system is catatonic, or it is so no longer
abbrev pub with_catatonic : ℕ → Bool → TriggerRows → TriggerRows
with_catatonic fs catatonic t = record t { autofs = map (catatonic_row fs catatonic) t.autofs }

-- ---- directories

-- the daemon has made this directory
abbrev pub is_made : TriggerRows → Trigger → Bool
is_made t trigger = list_any (λ row. same_trigger row trigger) t.made

-- the test of `mkdir`: the directory is new
abbrev pub mkdir_refusal : Trigger → TriggerRows → Option Errno
mkdir_refusal trigger t = if is_made t trigger then Some EEXIST else None

-- one more directory, the last
abbrev pub with_directory : Trigger → TriggerRows → TriggerRows
with_directory trigger t = record t { made = t.made ++ trigger ∷ [] }

-- the test of `rmdir`: the directory is there
abbrev pub rmdir_refusal : Trigger → TriggerRows → Option Errno
rmdir_refusal trigger t = if is_made t trigger then None else Some ENOENT

-- the directory is gone
abbrev pub without_directory : Trigger → TriggerRows → TriggerRows
without_directory trigger t =
    record t { made = filter (λ row. not (same_trigger row trigger)) t.made }

-- ---- last uses

-- when the trigger was last used
abbrev pub last_use_in : List (Trigger × ℕ) → Trigger → Option ℕ
last_use_in uses trigger = option_map (λ row. row.1) (find (λ row. same_trigger row.0 trigger) uses)

-- when the trigger was last used, among all rows
abbrev pub last_use_of : TriggerRows → Trigger → Option ℕ
last_use_of t trigger = last_use_in t.uses trigger

-- where the trigger stands among the last uses; none, where it was never used
abbrev pub IsUseIndex : List (Trigger × ℕ) → Trigger → Option ℕ → Type 0
IsUseIndex uses trigger None = last_use_in uses trigger ≡ None
IsUseIndex uses trigger (Some index) = (last : ℕ) × (slice_get uses index ≡ Some (trigger, last))

-- no trigger has two last uses
abbrev pub AreOnce : List (Trigger × ℕ) → Type 0
AreOnce uses =
    (i j : ℕ) (row other : Trigger × ℕ) →
    slice_get uses i ≡ Some row → slice_get uses j ≡ Some other → row.0 ≡ other.0 → i ≡ j

-- the trigger was used at this moment: it keeps its place, or is the last
abbrev pub used_in : Trigger → ℕ → List (Trigger × ℕ) → List (Trigger × ℕ)
used_in trigger moment [] = (trigger, moment) ∷ []
used_in trigger moment (row ∷ rows) =
    if same_trigger row.0 trigger then (row.0, moment) ∷ rows else row ∷ used_in trigger moment rows

-- the rows after the trigger was used at this moment
abbrev pub used : Trigger → ℕ → TriggerRows → TriggerRows
used trigger moment t = record t { uses = used_in trigger moment t.uses }

-- these triggers were used at this moment, one after another
abbrev pub all_used_in : List Trigger → ℕ → List (Trigger × ℕ) → List (Trigger × ℕ)
all_used_in [] moment uses = uses
all_used_in (trigger ∷ triggers) moment uses =
    all_used_in triggers moment (used_in trigger moment uses)

-- the rows after these triggers were used at this moment, one after another
abbrev pub all_used : List Trigger → ℕ → TriggerRows → TriggerRows
all_used triggers moment t = record t { uses = all_used_in triggers moment t.uses }

-- ---- the same as a set and as a finite map

-- this one is made now, and each other one as before
abbrev pub IsMadeToo : Trigger → TriggerRows → TriggerRows → Type 0
IsMadeToo trigger old new =
    (g : Trigger) → is_made new g ≡ (is_made old g || same_trigger trigger g)

-- this one is made no more, and each other one as before
abbrev pub IsMadeNoMore : Trigger → TriggerRows → TriggerRows → Type 0
IsMadeNoMore trigger old new =
    (g : Trigger) → is_made new g ≡ (is_made old g && not (same_trigger trigger g))

-- this one was last used at this moment, and each other one when it was before
abbrev pub IsUsedAt : Trigger → ℕ → TriggerRows → TriggerRows → Type 0
IsUsedAt trigger moment old new =
    (g : Trigger) →
    last_use_of new g ≡ (if same_trigger trigger g then Some moment else last_use_of old g)
