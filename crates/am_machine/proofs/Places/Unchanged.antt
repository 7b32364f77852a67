-- What changes neither the mounts nor the autofs, but for being catatonic, keeps the agreement on places.
use Rattle.std.proofs.Common.{◌≡◌, ℕ, Bool, true, false, Option, Some, None, refl, sym, ap, ◌∙◌, ◌≤◌, subst}
use Rattle.std.specs.Prelude.{◌==◌, if◌then◌else◌}
use Rattle.std.specs.Option.{option_map}
use Rattle.am_names.proofs.Basics.{some_injective}
use Rattle.am_names.specs.{MountRow}
use Rattle.am_mount.specs.{mount_row}
use Rattle.am_propagate.specs.MountTable.{MountTable}
use Rattle.am_propagate.specs.{IsWhole}
use Rattle.am_trigger.specs.{Autofs, TriggerRows, autofs_of, catatonic_row, with_catatonic}
use Rattle.am_kernel.specs.{KernelState, with_latest, location_in}
use Rattle.am_machine.proofs.Lists.Found.{read_unchanged}
use Rattle.am_machine.specs.{IsLocation, HoldsOne, IsCopied, PlacesAgree}

abbrev pub awake : Autofs → Autofs
awake a = record a { catatonic = false }

pub record SamePlaces (k made : KernelState) : Type 0 where
  pub table : made.table ≡ k.table
  pub last_fs : made.last_fs ≡ k.last_fs
  pub sites : (fs : ℕ) → option_map awake (autofs_of made.triggers fs) ≡ option_map awake (autofs_of k.triggers fs)

pub keeps_all : (k : KernelState) → SamePlaces k k
keeps_all k = record { table = refl; last_fs = refl; sites = λ fs. refl }

pub keeps_then : (k mid made : KernelState) → SamePlaces k mid → SamePlaces mid made → SamePlaces k made
keeps_then k mid made h g = record { table = g.table ∙ h.table; last_fs = g.last_fs ∙ h.last_fs; sites = λ fs. g.sites fs ∙ h.sites fs }

-- the latest moment is none of it
pub keeps_latest : (k made : KernelState) (moment : ℕ) → SamePlaces k made → SamePlaces k (with_latest moment made)
keeps_latest k made moment h = record { table = h.table; last_fs = h.last_fs; sites = h.sites }

-- ---- an autofs is catatonic, or is so no longer

pub catatonic_fs : (fs : ℕ) (b : Bool) (row : Autofs) → (catatonic_row fs b row).fs ≡ row.fs
catatonic_fs fs b row = elim (row.fs == fs) as (λ t. (if t then record row { catatonic = b } else row).fs ≡ row.fs) [ true ↦ refl | false ↦ refl ]

catatonic_awake : (fs : ℕ) (b : Bool) (row : Autofs) → awake (catatonic_row fs b row) ≡ awake row
catatonic_awake fs b row = elim (row.fs == fs) as (λ t. awake (if t then record row { catatonic = b } else row) ≡ awake row) [ true ↦ refl | false ↦ refl ]

pub marked_sites : (fs : ℕ) (b : Bool) (t : TriggerRows) (g : ℕ) → option_map awake (autofs_of (with_catatonic fs b t) g) ≡ option_map awake (autofs_of t g)
marked_sites fs b t g = read_unchanged (λ (row : Autofs). row.fs) awake (catatonic_row fs b) g t.autofs (catatonic_fs fs b) (catatonic_awake fs b)

-- ---- an autofs keeps its location

pub same_location : (o p : Option Autofs) → option_map awake o ≡ option_map awake p → location_in o ≡ location_in p
same_location None None e = refl
same_location None (Some a) e = absurd cc
same_location (Some a) None e = absurd cc
same_location (Some a) (Some b) e = ap location_in e

-- an autofs was one before
pub record WasThere (before : Option Autofs) (row : Autofs) : Type 0 where
  pub was : Autofs
  pub is_was : before ≡ Some was
  pub same : awake was ≡ awake row

pub was_there : (now before : Option Autofs) (row : Autofs) → option_map awake now ≡ option_map awake before → now ≡ Some row → WasThere before row
was_there now None row same is = absurd (let no : Some (awake row) ≡ None = sym (ap (option_map awake) is) ∙ same in cc)
was_there now (Some was) row same is =
    let both : Some (awake was) ≡ Some (awake row) = sym same ∙ ap (option_map awake) is in
    record { was = was; is_was = refl; same = some_injective both }

pub still_none : (now before : Option Autofs) → option_map awake now ≡ option_map awake before → before ≡ None → now ≡ None
still_none None before same none = refl
still_none (Some row) before same none = absurd (let no : Some (awake row) ≡ None = same ∙ ap (option_map awake) none in cc)

-- ---- the agreement on places

kept_location : (k made : KernelState) → SamePlaces k made → (fs location : ℕ) → IsLocation k fs location → IsLocation made fs location
kept_location k made keeps fs location h = record {
  row = h.row;
  is_row = subst (λ (t : MountTable). mount_row t.rows location ≡ Some h.row) (sym keeps.table) h.is_row;
  fs = h.fs;
  ns = h.ns;
  outside = λ p parent on e.
      still_none (autofs_of made.triggers parent.fs) (autofs_of k.triggers parent.fs) (keeps.sites parent.fs)
      (h.outside p parent on (subst (λ (t : MountTable). mount_row t.rows p ≡ Some parent) keeps.table e));
}

pub kept_places : (k made : KernelState) → SamePlaces k made → PlacesAgree k → PlacesAgree made
kept_places k made keeps h = record {
  whole = subst (λ (t : MountTable). IsWhole t) (sym keeps.table) h.whole;
  given_fs = subst (λ (t : MountTable). (m : ℕ) (row : MountRow) → mount_row t.rows m ≡ Some row → row.fs ≤ made.last_fs) (sym keeps.table)
      (subst (λ (n : ℕ). (m : ℕ) (row : MountRow) → mount_row k.table.rows m ≡ Some row → row.fs ≤ n) (sym keeps.last_fs) h.given_fs);
  given_autofs = λ fs row e.
      let before = was fs row e in
      subst (λ (n : ℕ). fs ≤ n) (sym keeps.last_fs) (h.given_autofs fs before.was before.is_was);
  locations = λ fs row e.
      let before = was fs row e in
      subst (λ (n : ℕ). IsLocation made fs n) (ap (λ (a : Autofs). a.location) before.same) (kept_location k made keeps fs before.was.location (h.locations fs before.was before.is_was));
  one = λ fs row e.
      let before = was fs row e in
      subst (λ (n : ℕ). HoldsOne made.table.rows n) (ap (λ (a : Autofs). a.location) before.same) (subst (λ (t : MountTable). HoldsOne t.rows before.was.location) (sym keeps.table) (h.one fs before.was before.is_was));
  copied = λ fs row e.
      let before = was fs row e in
      subst (λ (n : ℕ). IsCopied made.table n) (ap (λ (a : Autofs). a.location) before.same) (subst (λ (t : MountTable). IsCopied t before.was.location) (sym keeps.table) (h.copied fs before.was before.is_was));
}
  where
    was : (fs : ℕ) (row : Autofs) → autofs_of made.triggers fs ≡ Some row → WasThere (autofs_of k.triggers fs) row
    was fs row e = was_there (autofs_of made.triggers fs) (autofs_of k.triggers fs) row (keeps.sites fs) e
