-- What a daemon mounts on a trigger is mounted there alone.
use Rattle.std.proofs.Common.{◌≡◌, ◌⊎◌, ◌+◌, ℕ, true, false, List, Option, Some, None, refl, sym, ◌∙◌, ap, subst, inl, inr, ⊎_elim}
use Rattle.std.specs.Prelude.{Bool, ◌&&◌, is_some, is_none, if◌then◌else◌}
use Rattle.am_names.specs.{same_trigger, MountRow}
use Rattle.am_names.specs.declared.trigger.Trigger.{Trigger}
use Rattle.am_names.specs.declared.membership.Membership.TheVariants.{Private}
use Rattle.am_group.specs.{Receives}
use Rattle.am_names.proofs.SameTriggers.{same_trigger_itself}
use Rattle.am_names.proofs.Basics.{some_injective}
use Rattle.am_mount.specs.{mount_row, top_of, IsAt, HasNoMountAt}
use Rattle.am_propagate.specs.{is_mount, IsWhole, row_at}
use Rattle.am_propagate.proofs.AdditionLemmas.{mounted_whole}
use Rattle.am_trigger.specs.{Autofs, autofs_of, trigger_in, place_named, place_of}
use Rattle.am_kernel.specs.{KernelState, is_there_in, is_there, location_in, location_of, mounted_on, trigger_position, with_mount_on}
use Rattle.am_machine.specs.{PlacesAgree, OnTriggers}
use Rattle.am_machine.proofs.Places.Rows.{receiver_fs}
use Rattle.am_machine.proofs.Places.Added.{came_row, mounted_grows, first_row}
use Rattle.am_machine.proofs.Places.Grown.{position, mounts_same, places_same}
use Rattle.am_machine.proofs.TriggerMounts.Tops.{top_same, only_top}

-- ---- the places of triggers

name_same : (a b : Option (List ℕ)) → place_named a ≡ place_named b → a ≡ b
name_same None None e = refl
name_same None (Some b) e = absurd cc
name_same (Some a) None e = absurd cc
name_same (Some a) (Some b) e = let same : a ≡ b = cc in ap (λ (n : List ℕ). Some n) same

-- triggers of one file system and one place are one
pub trigger_same : (a b : Trigger) → a.fs ≡ b.fs → place_of a ≡ place_of b → a ≡ b
trigger_same a b fs place =
    let make : ℕ → Option (List ℕ) → Trigger = λ n name. record { fs = n; name = name } in
    ap (λ (n : ℕ). make n a.name) fs ∙ ap (make b.fs) (name_same a.name b.name place)

-- what is there has the place of a trigger
there_fits : (k : KernelState) (t : Trigger) (b : Autofs) → is_there_in (Some b) k t ≡ true → is_some (trigger_in b (place_of t)) ≡ true
there_fits k t b there = by t.name b.direct _ there
  where
    by : (name : Option (List ℕ)) (direct made : Bool) → (if direct then is_none name else is_some name && made) ≡ true → is_some (trigger_in (record b { direct = direct }) (place_named name)) ≡ true
    by None true made h = refl
    by None false made h = absurd cc
    by (Some name) true made h = absurd cc
    by (Some name) false made h = refl

-- ---- the location of an autofs is no other's

module _ (k : KernelState) (h : PlacesAgree k) (t : Trigger) (b : Autofs) (is_b : autofs_of k.triggers t.fs ≡ Some b) where
  pub location_is : location_of k t.fs ≡ b.location
  location_is = ap location_in is_b

  pub one_system : (fs : ℕ) (a : Autofs) → autofs_of k.triggers fs ≡ Some a → a.location ≡ b.location → fs ≡ t.fs
  one_system fs a is same =
      let mine = h.locations t.fs b is_b in
      let its = h.locations fs a is in
      let one : its.row ≡ mine.row = some_injective (sym its.is_row ∙ ap (mount_row k.table.rows) same ∙ mine.is_row) in
      sym its.fs ∙ ap (λ (r : MountRow). r.fs) one ∙ mine.fs

  -- at its place stands this trigger alone
  pub one_trigger : (g : Trigger) (a : Autofs) → autofs_of k.triggers g.fs ≡ Some a → same_trigger t g ≡ false → a.location ≡ location_of k t.fs → place_of g ≡ place_of t → ⊥
  one_trigger g a is other location place =
      let one : g ≡ t = trigger_same g t (one_system g.fs a is (location ∙ location_is)) place in
      let no : true ≡ false = sym (same_trigger_itself t) ∙ ap (same_trigger t) (sym one) ∙ other in
      cc

  -- and no location receives from it
  pub none_receives : (fs : ℕ) (a : Autofs) → autofs_of k.triggers fs ≡ Some a → Receives k.table.groups (location_of k t.fs) a.location → ⊥
  none_receives fs a is r =
      let mine = h.locations t.fs b is_b in
      let its = h.locations fs a is in
      let there : mount_row k.table.rows (location_of k t.fs) ≡ Some mine.row = ap (mount_row k.table.rows) location_is ∙ mine.is_row in
      let same : fs ≡ t.fs = sym its.fs ∙ sym (receiver_fs k.table h.whole (location_of k t.fs) a.location r mine.row its.row there its.is_row) ∙ mine.fs in
      let one : a ≡ b = some_injective (sym is ∙ ap (autofs_of k.triggers) same ∙ is_b) in
      r.is_other (ap (λ (x : Autofs). x.location) one ∙ sym location_is)

-- ---- the mount

module _ (k : KernelState) (h : PlacesAgree k) (t : Trigger) (b : Autofs) (is_b : autofs_of k.triggers t.fs ≡ Some b) where
  -- what comes on a location is this mount, at the place of this trigger
  pub record Came (x : ℕ) (place : List (List ℕ)) (m : ℕ) : Type 0 where
    pub location : x ≡ location_of k t.fs
    pub place_is : place ≡ place_of t
    pub number : m ≡ k.table.last_mount + 1

  pub came : (fs : ℕ) (a : Autofs) → autofs_of k.triggers fs ≡ Some a → (m : ℕ) (row : MountRow) (place : List (List ℕ)) → mount_row (with_mount_on t k).table.rows m ≡ Some row → IsAt a.location place row → (mount_row k.table.rows m ≡ Some row) ⊎ Came a.location place m
  came fs a is m row place e on = ⊎_elim
      (λ old. inl old)
      (λ new. inr (⊎_elim
      (λ first.
      let both : Some (position (location_of k t.fs) (place_of t)) ≡ Some (position a.location place) = sym (ap (λ (r : MountRow). r.mountpoint) first.is_row) ∙ on in
      record {
        location = sym (mounts_same (location_of k t.fs) a.location (place_of t) place both);
        place_is = sym (places_same (location_of k t.fs) a.location (place_of t) place both);
        number = first.is_next;
      })
      (λ copy.
      let both : Some (position copy.parent (place_of t)) ≡ Some (position a.location place) = sym (ap (λ (r : MountRow). r.mountpoint) copy.is_row) ∙ on in
      absurd (none_receives k h t b is_b fs a is (subst (λ (n : ℕ). Receives k.table.groups (location_of k t.fs) n) (mounts_same copy.parent a.location (place_of t) place both) copy.receives)))
      new))
      (came_row k.table h.whole (trigger_position k t) (k.last_fs + 1) Private m row e)

  whole : IsWhole (with_mount_on t k).table
  whole =
      let mine = h.locations t.fs b is_b in
      let there : is_mount k.table (location_of k t.fs) ≡ true = ap (is_mount k.table) (location_is k h t b is_b) ∙ ap is_some mine.is_row in
      mounted_whole k.table h.whole (trigger_position k t) (k.last_fs + 1) Private there (inl refl)

  pub mounted_others : (g : Trigger) (a : Autofs) → autofs_of k.triggers g.fs ≡ Some a → same_trigger t g ≡ false → mounted_on (with_mount_on t k) g ≡ mounted_on k g
  mounted_others g a is other =
      let rows = (with_mount_on t k).table.rows in
      subst (λ (x : ℕ). top_of rows x (place_of g) ≡ top_of k.table.rows x (place_of g)) (sym (ap location_in is))
      (top_same k.table.rows rows a.location (place_of g) h.whole.rising whole.rising
      (λ m r. (r.0, (mounted_grows k.table h.whole (trigger_position k t) (k.last_fs + 1) Private).stays m r.0 r.1, r.2))
      (λ m r. ⊎_elim
      (λ old. (r.0, old, r.2))
      (λ new. absurd (one_trigger k h t b is_b g a is other new.location new.place_is))
      (came g.fs a is m r.0 (place_of g) r.1 r.2)))

  pub mounted_here : HasNoMountAt k.table.rows (location_of k t.fs) (place_of t) → mounted_on (with_mount_on t k) t ≡ Some (k.table.last_mount + 1)
  mounted_here free =
      let location = location_of k t.fs in
      let rows = (with_mount_on t k).table.rows in
      only_top rows location (place_of t) (k.table.last_mount + 1) whole.rising
      (row_at k.table (place_of t) (k.last_fs + 1) (k.table.last_mount + 1) (k.table.last_mount + 1) location, first_row k.table h.whole (trigger_position k t) (k.last_fs + 1) Private, refl)
      (λ n r. ⊎_elim
      (λ old. absurd (free n (r.0, old, r.2)))
      (λ new. new.number)
      (came t.fs b is_b n r.0 (place_of t) r.1 (subst (λ (x : ℕ). IsAt x (place_of t) r.0) (location_is k h t b is_b) r.2)))

  -- it is at the place of a trigger, if that is there
  pub mounted_on_triggers : is_there k t ≡ true → OnTriggers k → OnTriggers (with_mount_on t k)
  mounted_on_triggers there on = record {
    on = λ fs a is m row place e at. ⊎_elim
        (λ old. on.on fs a is m row place old at)
        (λ new.
        let same : a ≡ b = some_injective (sym is ∙ ap (autofs_of k.triggers) (one_system k h t b is_b fs a is (new.location ∙ location_is k h t b is_b)) ∙ is_b) in
        ap (λ (p : List (List ℕ)). is_some (trigger_in a p)) new.place_is
        ∙ ap (λ (x : Autofs). is_some (trigger_in x (place_of t))) same
        ∙ there_fits k t b (ap (λ (o : Option Autofs). is_there_in o k t) (sym is_b) ∙ there))
        (came fs a is m row place e at);
  }
