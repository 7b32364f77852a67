-- One row that changes, where others are in its peer group: no group is lost.
use Rattle.std.proofs.Common.{◌≡◌, ◌≢◌, ◌≤◌, ◌<◌, ◌+◌, ◌⊎◌, ℕ, zero, suc, Bool, true, false, cond, ◌&&◌, List, [], ◌∷◌, ◌++◌, length, get_or, Option, Some, None, Ok, Err, inl, inr, ⊎_elim, refl, sym, ap, subst, ◌∙◌, arith}
use Rattle.std.specs.Prelude.{map, not, ◌==◌}
use Rattle.std.specs.List.{list_any, slice_set}
use Rattle.std.specs.List.Sorted.{IsBinarySearchResult}
use Rattle.std.specs.Ordering.{nat_cmp}
use Rattle.std.proofs.lemmas.Bool.{eqb-true, eq-eqb, ne_eqb, or_cases, and_parts, and_from}
use Rattle.am_names.proofs.Basics.{or_left, or_right, false_where_not}
use Rattle.am_names.proofs.LeaveLemmas.{Rise, none_out}
use Rattle.am_names.specs.{MemberRow, GroupRow}
use Rattle.am_names.specs.PeerGroups.{PeerGroups}
use Rattle.am_group.specs.{member_row, is_just, has_members, at_row, with_row, left, shared_row, RiseFrom, IsOrderly, AreLost, is_other_in, not_alone_in, is_not_alone}
use Rattle.am_group.proofs.FindLemmas.{rows_rise, index_found, all_differ}
use Rattle.am_group.proofs.LiftLemmas.{same_state}
use Rattle.am_group.proofs.LostLemmas.{free_left, free_of_none}
use Rattle.am_group.proofs.SharedLemmas.{after}

-- ---- a row that is written over

unchanged : (f : MemberRow → MemberRow) (m : ℕ) (rows : List MemberRow) → ((i : ℕ) (d : MemberRow) → i < length rows → (get_or rows i d).mount ≢ m) → map (at_row f m) rows ≡ rows
unchanged f m [] differ = refl
unchanged f m (r ∷ rows) differ =
    rw (ne_eqb r.mount m (differ 0 r (omega arith)))
    (ap (λ (xs : List MemberRow). r ∷ xs) (unchanged f m rows (λ i d within. differ (suc i) d (omega arith))))

-- where the row at this index is the mount's, that one is written over
written_at : (m : ℕ) (row : MemberRow) (rows : List MemberRow) → Rise (λ (r : MemberRow). r.mount) rows → (i : ℕ) (d : MemberRow) → i < length rows → (get_or rows i d).mount ≡ m → slice_set rows i row ≡ map (at_row (λ r. row) m) rows
written_at m row [] rise i d within e = absurd (omega arith)
written_at m row (r ∷ rows) rise zero d within e =
    rw (eq-eqb r.mount m e)
    (ap (λ (xs : List MemberRow). row ∷ xs) (sym (unchanged (λ x. row) m rows (λ j k less same.
    let up : r.mount < (get_or rows j k).mount = rise 0 (suc j) k (omega arith) (omega arith) in
    omega arith))))
written_at m row (r ∷ rows) rise (suc i) d within e =
    let up : r.mount < (get_or rows i d).mount = rise 0 (suc i) d (omega arith) (omega arith) in
    rw (ne_eqb r.mount m (λ same. omega arith))
    (ap (λ (xs : List MemberRow). r ∷ xs) (written_at m row rows (λ j k d less h. rise (suc j) (suc k) d (omega arith) (omega arith)) i d (omega arith) e))

module _ (rows : List MemberRow) (rises : RiseFrom 0 rows) (m : ℕ) (row : MemberRow) where
  pub written_found : (i : ℕ) → i < length rows → IsBinarySearchResult (λ (r : MemberRow). nat_cmp r.mount m) rows (Ok i) → slice_set rows i row ≡ map (at_row (λ r. row) m) rows
  written_found i less equal = written_at m row rows (rows_rise (λ (row : MemberRow). row.mount) 0 rows rises) i row less (index_found (λ (row : MemberRow). row.mount) rows rises m i less equal row)

  pub written_absent : (i : ℕ) → IsBinarySearchResult (λ (r : MemberRow). nat_cmp r.mount m) rows (Err i) → rows ≡ map (at_row (λ r. row) m) rows
  written_absent i parted = sym (unchanged (λ r. row) m rows (all_differ (λ (row : MemberRow). row.mount) rows rises m i parted))

-- ---- the row that is found

found_above : (low : ℕ) (rows : List MemberRow) → RiseFrom low rows → (m : ℕ) (row : MemberRow) → member_row rows m ≡ Some row → low ≤ m
found_above low [] rises m row e = absurd cc
found_above low (r ∷ rows) rises m row e = go (r.mount == m) refl e (found_above (r.mount + 1) rows rises.1 m row)
  where
    go : (b : Bool) → (r.mount == m) ≡ b → cond b (Some r) (member_row rows m) ≡ Some row → (member_row rows m ≡ Some row → r.mount + 1 ≤ m) → low ≤ m
    go true f e ih = let first : low ≤ r.mount = rises.0 in let same : r.mount ≡ m = eqb-true r.mount m f in omega arith
    go false f e ih = let first : low ≤ r.mount = rises.0 in let later : r.mount + 1 ≤ m = ih e in omega arith

pub found_number : (rows : List MemberRow) (m : ℕ) (row : MemberRow) → member_row rows m ≡ Some row → row.mount ≡ m
found_number [] m row e = absurd cc
found_number (r ∷ rows) m row e = go (r.mount == m) refl e (found_number rows m row)
  where
    go : (b : Bool) → (r.mount == m) ≡ b → cond b (Some r) (member_row rows m) ≡ Some row → (member_row rows m ≡ Some row → row.mount ≡ m) → row.mount ≡ m
    go true f e ih = let same : r ≡ row = cc in ap (λ (x : MemberRow). x.mount) (sym same) ∙ eqb-true r.mount m f
    go false f e ih = ih e

none_found : (f : MemberRow → MemberRow) (low m : ℕ) (rows : List MemberRow) → RiseFrom low rows → m < low → map (at_row f m) rows ≡ rows
none_found f low m [] rises below = refl
none_found f low m (r ∷ rows) rises below =
    let first : low ≤ r.mount = rises.0 in
    rw (ne_eqb r.mount m (λ same. omega arith)) (ap (λ (xs : List MemberRow). r ∷ xs) (none_found f (r.mount + 1) m rows rises.1 (omega arith)))

-- what a change makes of the row that is found, it makes of the mount's
pub same_change : (f : MemberRow → MemberRow) (low m : ℕ) (rows : List MemberRow) → RiseFrom low rows → (row : MemberRow) → member_row rows m ≡ Some row → map (at_row (λ r. f row) m) rows ≡ map (at_row f m) rows
same_change f low m [] rises row e = refl
same_change f low m (r ∷ rows) rises row e = go (r.mount == m) refl e (same_change f (r.mount + 1) m rows rises.1 row)
  where
    go : (b : Bool) → (r.mount == m) ≡ b → cond b (Some r) (member_row rows m) ≡ Some row → (member_row rows m ≡ Some row → map (at_row (λ x. f row) m) rows ≡ map (at_row f m) rows) → cond b (f row) r ∷ map (at_row (λ x. f row) m) rows ≡ cond b (f r) r ∷ map (at_row f m) rows
    go true h e ih =
        let same : row ≡ r = cc in
        let at : r.mount ≡ m = eqb-true r.mount m h in
        ap (λ (x : MemberRow). f x ∷ map (at_row (λ y. f row) m) rows) same ∙
        ap (λ (xs : List MemberRow). f r ∷ xs) (none_found (λ y. f row) (r.mount + 1) m rows rises.1 (omega arith) ∙ sym (none_found f (r.mount + 1) m rows rises.1 (omega arith)))
    go false h e ih = ap (λ (xs : List MemberRow). r ∷ xs) (ih e)

-- ---- no group is lost

module _ (f : MemberRow → MemberRow) (m : ℕ) where
  -- the others of a group stay in it
  pub others_stay : (rows : List MemberRow) (g : ℕ) → list_any (is_other_in m g) rows ≡ true → has_members (map (at_row f m) rows) g ≡ true
  others_stay [] g e = absurd cc
  others_stay (r ∷ rows) g e = ⊎_elim
      (λ here.
      let both = and_parts (is_just g r.group) (not (r.mount == m)) here in
      let other : (r.mount == m) ≡ false = false_where_not (r.mount == m) both.1 in
      rw other (or_left _ _ both.0))
      (λ later. or_right _ _ (others_stay rows g later))
      (or_cases (is_other_in m g r) (list_any (is_other_in m g) rows) e)

  abbrev pub HasOther : List MemberRow → MemberRow → ℕ → Type 0
  HasOther rows row g = (list_any (is_other_in m g) rows ≡ true) ⊎ (is_just g row.group ≡ true)

  more : (r row : MemberRow) (rows : List MemberRow) (g : ℕ) → HasOther rows row g → HasOther (r ∷ rows) row g
  more r row rows g (inl h) = inl (or_right (is_other_in m g r) _ h)
  more r row rows g (inr h) = inr h

  -- a peer group with members has others, or is the mount's own
  pub has_other : (low : ℕ) (rows : List MemberRow) → RiseFrom low rows → (row : MemberRow) (g : ℕ) → ((r : MemberRow) → member_row rows m ≡ Some r → r ≡ row) → has_members rows g ≡ true → HasOther rows row g
  has_other low [] rises row g only e = absurd cc
  has_other low (r ∷ rows) rises row g only e = go (r.mount == m) refl (or_cases (is_just g r.group) (has_members rows g) e) (has_other (r.mount + 1) rows rises.1 row g)
    where
      go : (b : Bool) → (r.mount == m) ≡ b → (is_just g r.group ≡ true) ⊎ (has_members rows g ≡ true) → (((x : MemberRow) → member_row rows m ≡ Some x → x ≡ row) → has_members rows g ≡ true → HasOther rows row g) → HasOther (r ∷ rows) row g
      go true f (inl here) ih =
          let own : r ≡ row = only r (rw f refl) in
          inr (subst (λ (x : MemberRow). is_just g x.group ≡ true) own here)
      go true f (inr later) ih =
          more r row rows g (ih (λ x found. absurd (gone x found)) later)
        where
          gone : (x : MemberRow) → member_row rows m ≡ Some x → ⊥
          gone x found =
              let above : r.mount + 1 ≤ m = found_above (r.mount + 1) rows rises.1 m x found in
              let same : r.mount ≡ m = eqb-true r.mount m f in
              omega arith
      go false f (inl here) ih = inl (or_left _ _ (and_from (is_just g r.group) (not (r.mount == m)) here (rw f refl)))
      go false f (inr later) ih = more r row rows g (ih (λ x found. only x (rw f found)) later)

  module _ (s : PeerGroups) (rises : RiseFrom 0 s.members) (row : MemberRow) (found : member_row s.members m ≡ Some row) (spared : is_not_alone s row ≡ true) where
    just_of : (g : ℕ) (o : Option ℕ) → is_just g o ≡ true → o ≡ Some g
    just_of g None e = absurd cc
    just_of g (Some h) e = ap Some (eqb-true h g e)

    others_of : (g : ℕ) → is_just g row.group ≡ true → list_any (is_other_in m g) s.members ≡ true
    others_of g own =
        let number : row.mount ≡ m = found_number s.members m row found in
        let in_group : not_alone_in s row.mount (Some g) ≡ true = ap (not_alone_in s row.mount) (sym (just_of g row.group own)) ∙ spared in
        subst (λ (n : ℕ). list_any (is_other_in n g) s.members ≡ true) number in_group

    still : (g : ℕ) → has_members s.members g ≡ true → has_members (with_row f m s).members g ≡ true
    still g had = others_stay s.members g (⊎_elim
        (λ others. others)
        (λ own. others_of g own)
        (has_other 0 s.members rises row g (λ r e. some_same (sym e ∙ found)) had))
      where
        some_same : {x y : MemberRow} → Some x ≡ Some y → x ≡ y
        some_same e = cc

    none_lost : AreLost s.members (with_row f m s).members []
    none_lost g = go (has_members s.members g) refl
      where
        go : (b : Bool) → has_members s.members g ≡ b → false ≡ (b && not (has_members (with_row f m s).members g))
        go true had = rw (still g had) refl
        go false had = refl

    -- the row alone changes
    pub changed_alone : (rows : List MemberRow) → rows ≡ map (at_row (λ r. f row) m) s.members → (groups : List GroupRow) → groups ≡ s.groups → (last : ℕ) → last ≡ s.last_group → (record { members = rows; groups = groups; last_group = last }) ≡ left s (with_row f m s)
    changed_alone rows is groups same last number =
        let raw = with_row f m s in
        same_state raw rows groups last (is ∙ same_change f 0 m s.members rises row found) same number ∙
        ap (λ (xs : List GroupRow). record raw { groups = xs }) (none_out (λ (r : GroupRow). r.group) s.groups) ∙
        free_left s.members raw [] none_lost s refl (free_of_none raw)

-- the mount comes into a fresh peer group, and its row alone changes
pub shared_alone :
    (s : PeerGroups) → IsOrderly s → (m : ℕ) (row : MemberRow) → member_row s.members m ≡ Some row → (n : ℕ) → n ≡ s.last_group + 1 →
    (rows : List MemberRow) → rows ≡ map (at_row (λ r. shared_row n row) m) s.members →
    (groups : List GroupRow) → groups ≡ s.groups ++ (record { group = n; master = row.master }) ∷ [] →
    (last : ℕ) → last ≡ n →
    (record { members = rows; groups = groups; last_group = last }) ≡ after s m row
shared_alone s orderly m row found n number rows is groups more last same =
    same_state (after s m row) rows groups last
    (is ∙ ap (λ k. map (at_row (λ r. shared_row k row) m) s.members) number ∙ same_change (shared_row (s.last_group + 1)) 0 m s.members orderly.rising row found)
    (more ∙ ap (λ k. s.groups ++ (record { group = k; master = row.master }) ∷ []) number)
    (same ∙ number)
