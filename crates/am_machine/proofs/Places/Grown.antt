-- Mounts that come keep the agreement on places.
use Rattle.std.proofs.Common.{◌≡◌, ◌≤◌, ◌<◌, ◌⊎◌, ◌+◌, ℕ, true, false, List, [], Option, Some, None, refl, sym, ◌∙◌, ap, subst, inl, inr, ⊎_elim, arith}
use Rattle.std.specs.Prelude.{is_some}
use Rattle.std.specs.Option.{option_map, option_and_then}
use Rattle.am_names.specs.{Membership, MountRow, Position}
use Rattle.am_names.proofs.Basics.{some_injective}
use Rattle.am_group.specs.{Receives}
use Rattle.am_mount.specs.{mount_row, IsAt, HasNoMountAt}
use Rattle.am_propagate.specs.MountTable.{MountTable}
use Rattle.am_propagate.specs.{is_mount, IsWhole, row_at, mounted, HasSource}
use Rattle.am_propagate.proofs.RemovalLemmas.{some_of}
use Rattle.am_propagate.proofs.AdditionLemmas.{mounted_whole}
use Rattle.am_trigger.specs.{Autofs, autofs_of}
use Rattle.am_kernel.specs.{KernelState, is_on_autofs}
use Rattle.am_machine.specs.{IsLocation, HasCopy, PlacesAgree}
use Rattle.am_machine.proofs.Places.Rows.{receiver_row, receiver_fs, received, Grows, ComesAlone, StaysFree, free_alone, grown_one, grown_copied}
use Rattle.am_machine.proofs.Places.Added.{IsFirst, IsCopyRow, came_row, mounted_grows, copy_row}

-- ---- positions, and mounts of an autofs

abbrev mount_at : Option Position → ℕ
mount_at None = 0
mount_at (Some x) = x.mount

abbrev place_at : Option Position → List (List ℕ)
place_at None = []
place_at (Some x) = x.place

abbrev pub position : ℕ → List (List ℕ) → Position
position m place = record { mount = m; place = place }

pub mounts_same : (a b : ℕ) (p q : List (List ℕ)) → Some (position a p) ≡ Some (position b q) → a ≡ b
mounts_same a b p q e = ap mount_at e

pub places_same : (a b : ℕ) (p q : List (List ℕ)) → Some (position a p) ≡ Some (position b q) → p ≡ q
places_same a b p q e = ap place_at e

pub on_autofs : (k : KernelState) (m : ℕ) (row : MountRow) (a : Autofs) → mount_row k.table.rows m ≡ Some row → autofs_of k.triggers row.fs ≡ Some a → is_on_autofs k m ≡ true
on_autofs k m row a e f = ap (λ (o : Option MountRow). is_some (option_and_then (λ fs. autofs_of k.triggers fs) (option_map (λ (r : MountRow). r.fs) o))) e ∙ ap is_some f

pub off_autofs : (k : KernelState) (m : ℕ) (row : MountRow) → mount_row k.table.rows m ≡ Some row → is_on_autofs k m ≡ false → autofs_of k.triggers row.fs ≡ None
off_autofs k m row e off = go (autofs_of k.triggers row.fs) refl
  where
    go : (o : Option Autofs) → autofs_of k.triggers row.fs ≡ o → o ≡ None
    go None f = refl
    go (Some a) f = absurd (let no : true ≡ false = sym (on_autofs k m row a e f) ∙ off in cc)

-- a mount that isn't one of an autofs is no location, and no location receives from it
pub off_location : (k : KernelState) → PlacesAgree k → (m x fs : ℕ) (row : MountRow) (a : Autofs) → mount_row k.table.rows m ≡ Some row → is_on_autofs k m ≡ false → autofs_of k.triggers fs ≡ Some a → x ≡ a.location → (x ≡ m) ⊎ Receives k.table.groups m x → ⊥
off_location k h m x fs row a e off is at (inl same) =
    let location = h.locations fs a is in
    let here : mount_row k.table.rows m ≡ Some location.row = subst (λ (n : ℕ). mount_row k.table.rows n ≡ Some location.row) (sym at ∙ same) location.is_row in
    let on : is_on_autofs k m ≡ true = on_autofs k m location.row a here (subst (λ (n : ℕ). autofs_of k.triggers n ≡ Some a) (sym location.fs) is) in
    (let no : true ≡ false = sym on ∙ off in cc)
off_location k h m x fs row a e off is at (inr r) =
    let location = h.locations fs a is in
    let there : mount_row k.table.rows x ≡ Some location.row = subst (λ (n : ℕ). mount_row k.table.rows n ≡ Some location.row) (sym at) location.is_row in
    let same : row.fs ≡ fs = receiver_fs k.table h.whole m x r row location.row e there ∙ location.fs in
    let on : is_on_autofs k m ≡ true = on_autofs k m row a e (subst (λ (n : ℕ). autofs_of k.triggers n ≡ Some a) (sym same) is) in
    (let no : true ≡ false = sym on ∙ off in cc)

-- ---- the agreement, when mounts come

grown_location : (k : KernelState) (new : MountTable) (last : ℕ) → IsWhole k.table → Grows k.table new → (fs x : ℕ) → IsLocation k fs x → IsLocation (record k { table = new; last_fs = last }) fs x
grown_location k new last whole grows fs x h = record {
  row = h.row;
  is_row = grows.stays x h.row h.is_row;
  fs = h.fs;
  ns = h.ns;
  outside = λ p parent on e.
      let was = whole.parents x p h.row h.is_row on in
      let same : was.0 ≡ parent = some_injective (sym (grows.stays p was.0 was.1) ∙ e) in
      h.outside p parent on (was.1 ∙ ap Some same);
}

-- what comes is of a file system that was given, and stands alone on each location
pub grown_places : (k : KernelState) (new : MountTable) (last : ℕ) → PlacesAgree k → IsWhole new → Grows k.table new → k.last_fs ≤ last →
    ((m : ℕ) (row : MountRow) → k.table.last_mount < m → mount_row new.rows m ≡ Some row → row.fs ≤ last) →
    ((fs : ℕ) (a : Autofs) → autofs_of k.triggers fs ≡ Some a → ComesAlone k.table new a.location) →
    PlacesAgree (record k { table = new; last_fs = last })
grown_places k new last h whole grows up given alone = record {
  whole = whole;
  given_fs = λ m row e. ⊎_elim
      (λ old. let le : row.fs ≤ k.last_fs = h.given_fs m row old in omega arith)
      (λ above. given m row above e)
      (grows.came m row e);
  given_autofs = λ fs a is. let le : fs ≤ k.last_fs = h.given_autofs fs a is in omega arith;
  locations = λ fs a is. grown_location k new last h.whole grows fs a.location (h.locations fs a is);
  one = λ fs a is. grown_one k.table h.whole new grows a.location (alone fs a is) (h.one fs a is);
  copied = λ fs a is. grown_copied k.table h.whole new grows a.location (alone fs a is) whole (h.copied fs a is);
}

-- ---- a mount and its copies

module _ (k : KernelState) (h : PlacesAgree k) (at : Position) (fs : ℕ) (membership : Membership) where
  came_above : (m : ℕ) (row : MountRow) → k.table.last_mount < m → mount_row (mounted at fs membership k.table).rows m ≡ Some row → IsFirst k.table h.whole at fs membership m row ⊎ IsCopyRow k.table h.whole at fs membership m row
  came_above m row above e = ⊎_elim
      (λ old. let le : m ≤ k.table.last_mount = (h.whole.numbered m row old).0 in absurd (omega arith))
      (λ new. new)
      (came_row k.table h.whole at fs membership m row e)

  came_fs : (m : ℕ) (row : MountRow) → k.table.last_mount < m → mount_row (mounted at fs membership k.table).rows m ≡ Some row → row.fs ≡ fs
  came_fs m row above e = ⊎_elim (λ first. ap (λ (r : MountRow). r.fs) first.is_row) (λ copy. ap (λ (r : MountRow). r.fs) copy.is_row) (came_above m row above e)

  -- what comes at a place is on the mount itself, or on one that receives from it
  pub came_at : (m : ℕ) (row : MountRow) (x : ℕ) (place : List (List ℕ)) → k.table.last_mount < m → mount_row (mounted at fs membership k.table).rows m ≡ Some row → IsAt x place row → (x ≡ at.mount) ⊎ Receives k.table.groups at.mount x
  came_at m row x place above e is = ⊎_elim
      (λ first. inl (sym (mounts_same at.mount x at.place place (sym (ap (λ (r : MountRow). r.mountpoint) first.is_row) ∙ is))))
      (λ copy. inr (subst (λ (n : ℕ). Receives k.table.groups at.mount n) (mounts_same copy.parent x at.place place (sym (ap (λ (r : MountRow). r.mountpoint) copy.is_row) ∙ is)) copy.receives))
      (came_above m row above e)

  -- on a mount that isn't on an autofs: none stands on a location
  pub stays_free : (row : MountRow) → mount_row k.table.rows at.mount ≡ Some row → is_on_autofs k at.mount ≡ false → (g : ℕ) (a : Autofs) → autofs_of k.triggers g ≡ Some a → StaysFree k.table (mounted at fs membership k.table) a.location
  stays_free row there off g a is = record {
    free = λ m other place above e here. off_location k h at.mount a.location g row a there off is refl (came_at m other a.location place above e here);
  }

  -- at a free place of a location: just the first stands on a location, and has its copies
  module _ (f : ℕ) (b : Autofs) (is_b : autofs_of k.triggers f ≡ Some b) (here : at.mount ≡ b.location) (free : HasNoMountAt k.table.rows at.mount at.place) where
    -- what stands on a location is the first, at the position
    pub record IsHere (x m : ℕ) (names : List (List ℕ)) : Type 0 where
      pub location : x ≡ at.mount
      pub number : m ≡ k.table.last_mount + 1
      pub place : names ≡ at.place

    -- two locations of one file system are the same
    other_location : (g : ℕ) (a : Autofs) → autofs_of k.triggers g ≡ Some a → Receives k.table.groups at.mount a.location → a.location ≡ at.mount
    other_location g a is r =
        let mine = h.locations f b is_b in
        let its = h.locations g a is in
        let there : mount_row k.table.rows at.mount ≡ Some mine.row = subst (λ (n : ℕ). mount_row k.table.rows n ≡ Some mine.row) (sym here) mine.is_row in
        let same : g ≡ f = sym its.fs ∙ sym (receiver_fs k.table h.whole at.mount a.location r mine.row its.row there its.is_row) ∙ mine.fs in
        let one : a ≡ b = some_injective (sym is ∙ ap (autofs_of k.triggers) same ∙ is_b) in
        ap (λ (x : Autofs). x.location) one ∙ sym here

    is_here : (g : ℕ) (a : Autofs) → autofs_of k.triggers g ≡ Some a → (m : ℕ) (row : MountRow) (place : List (List ℕ)) → k.table.last_mount < m → mount_row (mounted at fs membership k.table).rows m ≡ Some row → IsAt a.location place row → IsHere a.location m place
    is_here g a is m row place above e on = ⊎_elim
        (λ first.
        let both : Some (position at.mount at.place) ≡ Some (position a.location place) = sym (ap (λ (r : MountRow). r.mountpoint) first.is_row) ∙ on in
        record { location = sym (mounts_same at.mount a.location at.place place both); number = first.is_next; place = sym (places_same at.mount a.location at.place place both) })
        (λ copy.
        let both : Some (position copy.parent at.place) ≡ Some (position a.location place) = sym (ap (λ (r : MountRow). r.mountpoint) copy.is_row) ∙ on in
        let r : Receives k.table.groups at.mount a.location = subst (λ (n : ℕ). Receives k.table.groups at.mount n) (mounts_same copy.parent a.location at.place place both) copy.receives in
        absurd (r.is_other (other_location g a is r)))
        (came_above m row above e)

    pub comes_alone : IsWhole (mounted at fs membership k.table) → (g : ℕ) (a : Autofs) → autofs_of k.triggers g ≡ Some a → ComesAlone k.table (mounted at fs membership k.table) a.location
    comes_alone whole_new g a is = record {
      alone = λ m n p q place above ep eq on_p on_q.
          let mine = is_here g a is m p place above ep on_p in
          ⊎_elim
          (λ old. absurd (free n (q, old, subst (λ (names : List (List ℕ)). IsAt at.mount names q) mine.place (subst (λ (x : ℕ). IsAt x place q) mine.location on_q))))
          (λ above_n. mine.number ∙ sym (is_here g a is n q place above_n eq on_q).number)
          (grows.came n q eq);
      copied = λ m y row place above e on r less.
          let mine = is_here g a is m row place above e on in
          let its = h.locations g a is in
          let other = receiver_row (mounted at fs membership k.table) whole_new a.location y r in
          ⊎_elim
          (λ old. has_copy m y place mine.number mine.place
          (subst (λ (x : ℕ). Receives k.table.groups x y) mine.location (received k.table h.whole (mounted at fs membership k.table) grows.law a.location y its.row other.0 its.is_row old r)))
          (λ above_y. let is_m : m ≡ k.table.last_mount + 1 = mine.number in absurd (omega arith))
          (grows.came y other.0 other.1);
    }
      where
        grows : Grows k.table (mounted at fs membership k.table)
        grows = mounted_grows k.table h.whole at fs membership

        has_copy : (m y : ℕ) (place : List (List ℕ)) → m ≡ k.table.last_mount + 1 → place ≡ at.place → Receives k.table.groups at.mount y → HasCopy (mounted at fs membership k.table).rows y place m
        has_copy m y place is_m is_place r =
            let copy = copy_row k.table h.whole at fs membership y r in
            record {
              number = copy.0;
              row = row_at k.table at.place fs (k.table.last_mount + 1) copy.0 y;
              is_row = copy.1;
              at = ap (λ (names : List (List ℕ)). Some (position y names)) (sym is_place);
              from = sym is_m;
            }

-- a mount where no autofs is, and its copies
pub mounted_places : (k : KernelState) (at : Position) (fs last : ℕ) (membership : Membership) → PlacesAgree k → is_mount k.table at.mount ≡ true → is_on_autofs k at.mount ≡ false → HasSource k.table fs membership → fs ≤ last → k.last_fs ≤ last →
    PlacesAgree (record k { table = mounted at fs membership k.table; last_fs = last })
mounted_places k at fs last membership h there off source low up =
    let row = some_of (mount_row k.table.rows at.mount) there in
    grown_places k (mounted at fs membership k.table) last h (mounted_whole k.table h.whole at fs membership there source) (mounted_grows k.table h.whole at fs membership) up
    (λ m row above e. let same : row.fs ≡ fs = came_fs k h at fs membership m row above e in omega arith)
    (λ g a is. free_alone k.table (mounted at fs membership k.table) a.location (stays_free k h at fs membership row.0 row.1 off g a is))

-- a mount at a free place of a location, and its copies
pub mounted_here : (k : KernelState) (at : Position) (fs last : ℕ) (membership : Membership) → PlacesAgree k → (f : ℕ) (b : Autofs) → autofs_of k.triggers f ≡ Some b → at.mount ≡ b.location → HasNoMountAt k.table.rows at.mount at.place → HasSource k.table fs membership → fs ≤ last → k.last_fs ≤ last →
    PlacesAgree (record k { table = mounted at fs membership k.table; last_fs = last })
mounted_here k at fs last membership h f b is_b here free source low up =
    let mine = h.locations f b is_b in
    let there : is_mount k.table at.mount ≡ true = ap (λ (n : ℕ). is_mount k.table n) here ∙ ap is_some mine.is_row in
    let whole = mounted_whole k.table h.whole at fs membership there source in
    grown_places k (mounted at fs membership k.table) last h whole (mounted_grows k.table h.whole at fs membership) up
    (λ m row above e. let same : row.fs ≡ fs = came_fs k h at fs membership m row above e in omega arith)
    (λ g a is. comes_alone k h at fs membership f b is_b here free whole g a is)
