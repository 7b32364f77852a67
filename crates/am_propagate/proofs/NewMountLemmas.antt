-- Mounts that come with one for each of some others, numbered in their order.
use Rattle.std.proofs.Common.{◌≡◌, ◌≤◌, ◌<◌, ◌+◌, ℕ, suc, Bool, true, false, cond, eqb, ◌||◌, List, [], ◌∷◌, ◌++◌, length, Option, Some, None, refl, sym, ap, subst, ⊎_elim, ◌∙◌, arith}
use Rattle.std.specs.Prelude.{filter, find, nat_le, is_some, ◌==◌}
use Rattle.std.specs.Option.{option_or}
use Rattle.std.proofs.lemmas.List.Folds.{find-append}
use Rattle.std.proofs.lemmas.Bool.{eqb-true, eq-eqb, ne_eqb, or_cases}
use Rattle.std.proofs.lemmas.Bool.Decides.{nat_tests}
use Rattle.am_names.proofs.Basics.{or_left, or_right}
use Rattle.am_names.specs.{MountRow, MemberRow, GroupRow}
use Rattle.am_group.specs.{member_row, group_row}
use Rattle.am_group.proofs.ScanLemmas.{has}
use Rattle.am_mount.specs.{mount_row}
use Rattle.am_mount.proofs.RowLemmas.{RiseOn}
use Rattle.am_propagate.specs.MountTable.{MountTable}
use Rattle.am_propagate.specs.{is_mount, IsWhole, count_up_to, KeepsMounts}
use Rattle.am_propagate.proofs.CameLemmas.{none_up_to}
use Rattle.am_propagate.proofs.NamespaceLemmas.{count_some}

-- what is found in the first rows, and what is not
pub keeps_first : {A : Type 0} (o p : Option A) (x : A) → o ≡ Some x → option_or o p ≡ Some x
keeps_first None p x e = absurd cc
keeps_first (Some y) p x e = e

pub takes_second : {A : Type 0} (o p : Option A) → is_some o ≡ false → option_or o p ≡ p
takes_second None p e = refl
takes_second (Some x) p e = absurd cc

-- where rows are added, those that were there stay
pub keeps_mounts :
    (t new : MountTable) (rows : List MountRow) (members : List MemberRow) (groups : List GroupRow) →
    new.rows ≡ t.rows ++ rows → new.groups.members ≡ t.groups.members ++ members →
    new.groups.groups ≡ t.groups.groups ++ groups → KeepsMounts t new
keeps_mounts t new rows members groups rows_are members_are groups_are = record {
  rows =
      λ m row e. ap (λ (xs : List MountRow). mount_row xs m) rows_are ∙
      find-append (λ (r : MountRow). r.mount == m) t.rows rows ∙
      keeps_first (mount_row t.rows m) (mount_row rows m) row e;
  members =
      λ m row e. ap (λ (xs : List MemberRow). member_row xs m) members_are ∙
      find-append (λ (r : MemberRow). r.mount == m) t.groups.members members ∙
      keeps_first (member_row t.groups.members m) (member_row members m) row e;
  groups =
      λ g row e. ap (λ (xs : List GroupRow). group_row xs g) groups_are ∙
      find-append (λ (r : GroupRow). r.group == g) t.groups.groups groups ∙
      keeps_first (group_row t.groups.groups g) (group_row groups g) row e;
}

module _ (t : MountTable) (whole : IsWhole t) where
  -- numbers above the greatest are no mount's
  pub none_above : (m : ℕ) → t.last_mount < m → is_mount t m ≡ false
  none_above m above = go (mount_row t.rows m) refl
    where
      go : (o : Option MountRow) → mount_row t.rows m ≡ o → is_some o ≡ false
      go None e = refl
      go (Some row) e =
          let le : m ≤ t.last_mount = (whole.numbered m row e).0 in absurd (omega arith)

-- of rising numbers each is counted after those below it
at_least : (low : ℕ) (xs : List ℕ) → RiseOn low xs → (p : ℕ) → has p xs ≡ true → low ≤ p
at_least low [] rises p h = absurd cc
at_least low (x ∷ xs) rises p h = ⊎_elim
    (λ same. let first : low ≤ x = rises.0 in let e : p ≡ x = eqb-true p x same in omega arith)
    (λ rest.
    let first : low ≤ x = rises.0 in
    let up : x + 1 ≤ p = at_least (x + 1) xs rises.1 p rest in
    omega arith)
    (or_cases (eqb p x) (has p xs) h)

counts_itself : (x : ℕ) (xs : List ℕ) → RiseOn (x + 1) xs → count_up_to x (x ∷ xs) ≡ 1
counts_itself x xs rises =
    let counted : nat_le x x ≡ true = grind (arith, nat_tests) in
    let longer : count_up_to x (x ∷ xs) ≡ length (x ∷ filter (λ y. nat_le y x) xs) = rw counted refl in
    let none : count_up_to x xs ≡ 0 = none_up_to x (x + 1) xs (omega arith) rises in
    omega arith

counts_first : (x : ℕ) (xs : List ℕ) → RiseOn (x + 1) xs → (p : ℕ) → has p xs ≡ true →
    count_up_to p (x ∷ xs) ≡ suc (count_up_to p xs)
counts_first x xs rises p h =
    let above : x + 1 ≤ p = at_least (x + 1) xs rises p h in
    let counted : nat_le x p ≡ true = grind (arith, nat_tests) in
    rw counted refl

-- one row for each of these, numbered in their order
abbrev pub one_each : {R : Type 0} → (ℕ → ℕ → R) → ℕ → List ℕ → List R
one_each make number [] = []
one_each make number (x ∷ xs) = make number x ∷ one_each make (number + 1) xs

module _ {R : Type 0} (key : R → ℕ) (make : ℕ → ℕ → R) (named : (n x : ℕ) → key (make n x) ≡ n) where
  -- a row that is found is that for one of them, and has its number
  pub each_found : (last low : ℕ) (xs : List ℕ) → RiseOn low xs → (m : ℕ) (r : R) →
      find (λ y. key y == m) (one_each make (last + 1) xs) ≡ Some r →
      (p : ℕ) × (has p xs ≡ true) × (m ≡ last + count_up_to p xs) × (r ≡ make m p)
  each_found last low [] rises m r e = absurd cc
  each_found last low (x ∷ xs) rises m r e =
      go (key (make (last + 1) x) == m) refl e (each_found (last + 1) (x + 1) xs rises.1 m r)
    where
      go : (b : Bool) → (key (make (last + 1) x) == m) ≡ b →
          cond b (Some (make (last + 1) x)) (find (λ y. key y == m) (one_each make (last + 1 + 1) xs)) ≡
          Some r →
          (find (λ y. key y == m) (one_each make (last + 1 + 1) xs) ≡ Some r →
          (p : ℕ) × (has p xs ≡ true) × (m ≡ last + 1 + count_up_to p xs) × (r ≡ make m p)) →
          (p : ℕ) × (has p (x ∷ xs) ≡ true) × (m ≡ last + count_up_to p (x ∷ xs)) × (r ≡ make m p)
      go true f e ih =
          let at : last + 1 ≡ m = sym (named (last + 1) x) ∙
          eqb-true (key (make (last + 1) x)) m f in
          let one : count_up_to x (x ∷ xs) ≡ 1 = counts_itself x xs rises.1 in
          let is : make (last + 1) x ≡ r = cc in (
            x,
            or_left (eqb x x) (has x xs) (eq-eqb x x refl),
            omega arith,
            sym is ∙ ap (λ (n : ℕ). make n x) at,
          )
      go false f e ih =
          let rest = ih e in
          let more : count_up_to rest.0 (x ∷ xs) ≡ suc (count_up_to rest.0 xs) =
          counts_first x xs rises.1 rest.0 rest.1
          in
          let at : m ≡ last + 1 + count_up_to rest.0 xs = rest.2 in
          (rest.0, or_right (eqb rest.0 x) (has rest.0 xs) rest.1, omega arith, rest.3)

  -- and that for each is found by its number
  pub each_there : (last low : ℕ) (xs : List ℕ) → RiseOn low xs → (p : ℕ) → has p xs ≡ true →
      find (λ y. key y == last + count_up_to p xs) (one_each make (last + 1) xs) ≡
      Some (make (last + count_up_to p xs) p)
  each_there last low [] rises p h = absurd cc
  each_there last low (x ∷ xs) rises p h =
      go (eqb p x) refl h (each_there (last + 1) (x + 1) xs rises.1 p)
    where
      go : (b : Bool) → eqb p x ≡ b → (b || has p xs) ≡ true →
          (has p xs ≡ true →
          find (λ y. key y == last + 1 + count_up_to p xs) (one_each make (last + 1 + 1) xs) ≡
          Some (make (last + 1 + count_up_to p xs) p)) →
          find (λ y. key y == last + count_up_to p (x ∷ xs)) (one_each make (last + 1) (x ∷ xs)) ≡
          Some (make (last + count_up_to p (x ∷ xs)) p)
      go true f h ih =
          let same : p ≡ x = eqb-true p x f in
          let one : count_up_to x (x ∷ xs) ≡ 1 = counts_itself x xs rises.1 in
          subst
          (λ (q : ℕ).
          find (λ y. key y == last + count_up_to q (x ∷ xs)) (one_each make (last + 1) (x ∷ xs)) ≡
          Some (make (last + count_up_to q (x ∷ xs)) q))
          (sym same)
          (rw (one, eq-eqb (key (make (last + 1) x)) (last + 1) (named (last + 1) x)) refl)
      go false f h ih =
          let more : count_up_to p (x ∷ xs) ≡ suc (count_up_to p xs) = counts_first x xs rises.1 p h in
          let at : last + 1 + count_up_to p xs ≡ last + count_up_to p (x ∷ xs) = omega arith in
          let some : 1 ≤ count_up_to p xs = count_some p xs h in
          let is : key (make (last + 1) x) ≡ last + 1 = named (last + 1) x in
          subst (λ (n : ℕ). find (λ y. key y == n) (one_each make (last + 1) (x ∷ xs)) ≡ Some (make n p)) at
          (rw (ne_eqb (key (make (last + 1) x)) (last + 1 + count_up_to p xs) (λ same. omega arith)) (ih h))
