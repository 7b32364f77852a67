-- A copied namespace, and a change of a mount's state, keep the agreement on places.
use Rattle.std.proofs.Common.{◌≡◌, ◌≤◌, ◌<◌, ◌⊎◌, ◌+◌, ℕ, Bool, true, false, cond, ◌||◌, List, [], ◌∷◌, length, Some, refl, sym, ◌∙◌, ap, inl, inr, ⊎_elim, arith}
use Rattle.std.specs.Prelude.{◌==◌, nat_le, map, filter}
use Rattle.std.proofs.lemmas.Bool.{eqb-true, eq-eqb, ne_eqb}
use Rattle.std.proofs.lemmas.Bool.Decides.{nat_tests}
use Rattle.am_names.specs.{MountRow, is_among}
use Rattle.am_names.proofs.Basics.{some_injective}
use Rattle.am_group.specs.{Change}
use Rattle.am_mount.specs.{RiseFrom, mount_row, is_in}
use Rattle.am_propagate.specs.{CopyForm, IsWhole, mounts_in, count_up_to, copy_number, row_in, with_copy, with_change}
use Rattle.am_propagate.specs.MountTable.{MountTable}
use Rattle.am_propagate.proofs.NamespaceLemmas.{with_copy_whole, with_copy_law}
use Rattle.am_propagate.proofs.KindLemmas.{changed_keeps, changed_whole}
use Rattle.am_kernel.specs.{KernelState, with_namespace}
use Rattle.am_machine.specs.{IsLocation, PlacesAgree}
use Rattle.am_machine.proofs.Places.Rows.{receiver_row, received, parent_row, Grows, StaysFree, free_alone}
use Rattle.am_machine.proofs.Places.Added.{joined_row, first_stays}
use Rattle.am_machine.proofs.Places.Grown.{grown_places}
use Rattle.am_machine.proofs.Places.Left.{passes_among, its_number}

-- ---- the copies have new numbers

some_counted : (a : ℕ) (xs : List ℕ) → is_among xs a ≡ true → 1 ≤ count_up_to a xs
some_counted a [] h = absurd cc
some_counted a (x ∷ xs) h = go (nat_le x a) refl (x == a) refl h (some_counted a xs)
  where
    go : (p : Bool) → nat_le x a ≡ p → (s : Bool) → (x == a) ≡ s → (s || is_among xs a) ≡ true → (is_among xs a ≡ true → 1 ≤ count_up_to a xs) → 1 ≤ length (cond p (x ∷ filter (λ y. nat_le y a) xs) (filter (λ y. nat_le y a) xs))
    go true e s g h ih = omega arith
    go false e true g h ih = let same : x ≡ a = eqb-true x a g in absurd (grind (arith, nat_tests))
    go false e false g h ih = ih h

-- the row of a copy comes from a row of the namespace
record IsCopyOf (rows : List MountRow) (number : ℕ → ℕ) (ns to low : ℕ) (row : MountRow) : Type 0 where
  source : MountRow
  above : low ≤ source.mount
  is_source : mount_row rows source.mount ≡ Some source
  inside : is_in ns source ≡ true
  is_row : row ≡ row_in number to source

copied_from : (number : ℕ → ℕ) (ns to low : ℕ) (rows : List MountRow) → RiseFrom low rows → (m : ℕ) (row : MountRow) → mount_row (map (row_in number to) (filter (is_in ns) rows)) m ≡ Some row → IsCopyOf rows number ns to low row
copied_from number ns to low [] rises m row e = absurd cc
copied_from number ns to low (x ∷ rows) rises m row e = kept (is_in ns x) refl e (copied_from number ns to (x.mount + 1) rows rises.1 m row)
  where
    later : IsCopyOf rows number ns to (x.mount + 1) row → IsCopyOf (x ∷ rows) number ns to low row
    later found =
        let up : x.mount + 1 ≤ found.source.mount = found.above in
        let first : low ≤ x.mount = rises.0 in
        record { source = found.source; above = omega arith; is_source = rw (ne_eqb x.mount found.source.mount (λ same. omega arith)) (found.is_source); inside = found.inside; is_row = found.is_row }

    here : (b : Bool) → is_in ns x ≡ true → cond b (Some (row_in number to x)) (mount_row (map (row_in number to) (filter (is_in ns) rows)) m) ≡ Some row →
        (mount_row (map (row_in number to) (filter (is_in ns) rows)) m ≡ Some row → IsCopyOf rows number ns to (x.mount + 1) row) → IsCopyOf (x ∷ rows) number ns to low row
    here true k e ih = record { source = x; above = rises.0; is_source = rw (eq-eqb x.mount x.mount refl) refl; inside = k; is_row = sym (some_injective e) }
    here false k e ih = later (ih e)

    kept : (b : Bool) → is_in ns x ≡ b → mount_row (map (row_in number to) (cond b (x ∷ filter (is_in ns) rows) (filter (is_in ns) rows))) m ≡ Some row →
        (mount_row (map (row_in number to) (filter (is_in ns) rows)) m ≡ Some row → IsCopyOf rows number ns to (x.mount + 1) row) → IsCopyOf (x ∷ rows) number ns to low row
    kept true k e ih = here (number x.mount == m) k e ih
    kept false k e ih = later (ih e)

module _ (t : MountTable) (whole : IsWhole t) (ns : ℕ) (form : CopyForm) where
  abbrev number : ℕ → ℕ
  number = copy_number t.last_mount (mounts_in t ns)

  copies : (m : ℕ) (row : MountRow) → mount_row (with_copy form ns t).rows m ≡ Some row → (mount_row t.rows m ≡ Some row) ⊎ ((t.last_mount < m) × IsCopyOf t.rows (copy_number t.last_mount (mounts_in t ns)) ns (t.last_ns + 1) 0 row)
  copies m row e = ⊎_elim
      (λ old. inl old)
      (λ new.
      let from = copied_from number ns (t.last_ns + 1) 0 t.rows whole.rising m row new in
      let some : 1 ≤ count_up_to from.source.mount (mounts_in t ns) = some_counted from.source.mount (mounts_in t ns) (passes_among (is_in ns) t.rows whole.rising from.source.mount from.source from.is_source from.inside) in
      let its : row.mount ≡ m = its_number (map (row_in number (t.last_ns + 1)) (filter (is_in ns) t.rows)) m row new in
      let is : row.mount ≡ t.last_mount + count_up_to from.source.mount (mounts_in t ns) = ap (λ (r : MountRow). r.mount) from.is_row in
      inr (omega arith, from))
      (joined_row t.rows (map (row_in number (t.last_ns + 1)) (filter (is_in ns) t.rows)) m row e)

  pub copy_grows : Grows t (with_copy form ns t)
  copy_grows = record {
    stays = first_stays t.rows (map (row_in number (t.last_ns + 1)) (filter (is_in ns) t.rows));
    came = λ m row e. ⊎_elim (λ old. inl old) (λ new. inr new.0) (copies m row e);
    law = with_copy_law t whole ns form;
  }

  copy_above : (m : ℕ) (row : MountRow) → t.last_mount < m → mount_row (with_copy form ns t).rows m ≡ Some row → IsCopyOf t.rows (copy_number t.last_mount (mounts_in t ns)) ns (t.last_ns + 1) 0 row
  copy_above m row above e = ⊎_elim
      (λ old. let le : m ≤ t.last_mount = (whole.numbered m row old).0 in absurd (omega arith))
      (λ new. new.1)
      (copies m row e)

  -- a copy is in the new namespace, and so is the mount on which it is mounted
  copy_free : (x : ℕ) (old : MountRow) → mount_row t.rows x ≡ Some old → StaysFree t (with_copy form ns t) x
  copy_free x old is_old = record {
    free = λ m row place above e at.
        let from = copy_above m row above e in
        let parent = parent_row (with_copy form ns t) (with_copy_whole t whole ns form) m x row place e at in
        let same : parent.0 ≡ old = some_injective (sym parent.1 ∙ copy_grows.stays x old is_old) in
        let here : row.ns ≡ t.last_ns + 1 = ap (λ (r : MountRow). r.ns) from.is_row in
        let there : old.ns ≡ row.ns = ap (λ (r : MountRow). r.ns) (sym same) ∙ parent.2 in
        let le : old.ns ≤ t.last_ns = (whole.numbered x old is_old).1 in
        omega arith;
  }

pub copied_places : (k : KernelState) → PlacesAgree k → (ns : ℕ) (form : CopyForm) → PlacesAgree (with_namespace form ns k)
copied_places k h ns form = grown_places k (with_copy form ns k.table) k.last_fs h (with_copy_whole k.table h.whole ns form) (copy_grows k.table h.whole ns form) (omega arith)
    (λ m row above e.
    let from = copy_above k.table h.whole ns form m row above e in
    let same : row.fs ≡ from.source.fs = ap (λ (r : MountRow). r.fs) from.is_row in
    let le : from.source.fs ≤ k.last_fs = h.given_fs from.source.mount from.source from.is_source in
    omega arith)
    (λ g a is.
    let its = h.locations g a is in
    free_alone k.table (with_copy form ns k.table) a.location (copy_free k.table h.whole ns form a.location its.row its.is_row))

-- ---- a mount's state

changed_location : (k : KernelState) (change : Change) (m fs x : ℕ) → IsLocation k fs x → IsLocation (record k { table = with_change change m k.table }) fs x
changed_location k change m fs x h = record { row = h.row; is_row = h.is_row; fs = h.fs; ns = h.ns; outside = h.outside }

pub changed_places : (k : KernelState) → PlacesAgree k → (change : Change) (m : ℕ) → PlacesAgree (record k { table = with_change change m k.table })
changed_places k h change m =
    let whole = changed_whole k.table h.whole change m in
    record {
      whole = whole;
      given_fs = h.given_fs;
      given_autofs = h.given_autofs;
      locations = λ g a is. changed_location k change m g a.location (h.locations g a is);
      one = h.one;
      copied = λ g a is c y row place e at r less.
          let its = h.locations g a is in
          let other = receiver_row (with_change change m k.table) whole a.location y r in
          h.copied g a is c y row place e at (received k.table h.whole (with_change change m k.table) (changed_keeps change m k.table.groups h.whole.sound).law a.location y its.row other.0 its.is_row other.1 r) less;
    }
