-- Peer groups of which each member goes, and whether a mount or a group that stays has such a one as
-- its master, by the lists of each group.
use Rattle.std.proofs.Common.{◌≡◌, ◌≤◌, ℕ, zero, suc, Bool, true, false, cond, ◌||◌, ◌&&◌, List, [], ◌∷◌, length, Option, Some, None, refl, sym, ap, subst, ◌∙◌, arith}
use Rattle.std.specs.Prelude.{filter, not, ◌==◌}
use Rattle.std.specs.List.{list_all, list_any, AllWithin}
use Rattle.std.proofs.lemmas.Bool.{eqb-true, eq-eqb, and_from}
use Rattle.am_names.proofs.Basics.{left_of_and, right_of_and}
use Rattle.am_names.specs.{MemberRow, GroupRow, is_among}
use Rattle.am_names.specs.PeerGroups.{PeerGroups}
use Rattle.am_index.specs.{numbered}
use Rattle.am_index.proofs.RowLemmas.{numbered_cons}
use Rattle.am_group.specs.{AreLive, AreLost, goes_whole, has_members, has_none_left, is_free_group, is_free_of, is_in, is_just, is_one_of, is_other_in, mounts_where, with_only}
use Rattle.am_group.proofs.LostLemmas.{free_staying, has_split}

-- of numbers that a test keeps
pub among_kept : (p : ℕ → Bool) (xs : List ℕ) (g : ℕ) → is_among (filter p xs) g ≡ (is_among xs g && p g)
among_kept p [] g = refl
among_kept p (x ∷ xs) g = go (p x) (x == g) refl refl (among_kept p xs g)
  where
    no : (a : Bool) → (a && false) ≡ false
    no true = refl
    no false = refl

    go :
        (a b : Bool) → p x ≡ a → (x == g) ≡ b → is_among (filter p xs) g ≡ (is_among xs g && p g) →
        is_among (cond a (x ∷ filter p xs) (filter p xs)) g ≡ ((b || is_among xs g) && p g)
    go true true e f ih = rw f (sym (subst (λ (y : ℕ). p y ≡ true) (eqb-true x g f) e))
    go true false e f ih = rw f ih
    go false true e f ih =
        let none : p g ≡ false = subst (λ (y : ℕ). p y ≡ false) (eqb-true x g f) e in
        ih ∙ rw none (no (is_among xs g))
    go false false e f ih = ih

-- what holds of all holds of one that is among them
pub all_at : (p : ℕ → Bool) (xs : List ℕ) (g : ℕ) → list_all p xs ≡ true → is_among xs g ≡ true → p g ≡ true
all_at p [] g all there = absurd cc
all_at p (x ∷ xs) g all there = go (x == g) refl there (all_at p xs g (right_of_and _ _ all))
  where
    go : (b : Bool) → (x == g) ≡ b → (b || is_among xs g) ≡ true → (is_among xs g ≡ true → p g ≡ true) → p g ≡ true
    go true e h ih = subst (λ (y : ℕ). p y ≡ true) (eqb-true x g e) (left_of_and _ _ all)
    go false e h ih = ih h

-- each member goes where none is left
pub whole_is :
    (gone : List ℕ) (rows : List MemberRow) (g : ℕ) →
    goes_whole rows gone g ≡ not (has_members (filter (λ row. not (is_among gone row.mount)) rows) g)
whole_is gone [] g = refl
whole_is gone (r ∷ rows) g =
    ap (λ (xs : List ℕ). list_all (is_among gone) xs) (numbered_cons (λ (row : MemberRow). row.mount) (is_in g) r rows) ∙
    go (is_just g r.group) (is_among gone r.mount) refl refl (whole_is gone rows g)
  where
    stay : List MemberRow
    stay = filter (λ row. not (is_among gone row.mount)) rows

    go :
        (a b : Bool) → is_just g r.group ≡ a → is_among gone r.mount ≡ b → goes_whole rows gone g ≡ not (has_members stay g) →
        list_all (is_among gone) (cond a (r.mount ∷ mounts_where (is_in g) rows) (mounts_where (is_in g) rows)) ≡
        not (has_members (cond (not b) (r ∷ stay) stay) g)
    go true true e f ih = rw f ih
    go true false e f ih = rw (f, e) refl
    go false true e f ih = ih
    go false false e f ih = rw e ih

-- of the peer groups of what goes those of which each member goes are lost
pub lost_whole :
    (gone : List ℕ) (rows : List MemberRow) (left : List ℕ) →
    AreLive (filter (λ row. is_among gone row.mount) rows) left →
    AreLost rows (filter (λ row. not (is_among gone row.mount)) rows) (filter (goes_whole rows gone) left)
lost_whole gone rows left are_left g =
    let kept = has_members (filter (λ row. not (is_among gone row.mount)) rows) g in
    among_kept (goes_whole rows gone) left g ∙
    ap (λ (b : Bool). is_among left g && b) (whole_is gone rows g) ∙
    ap (λ (b : Bool). b && not kept) (are_left g) ∙
    where_none (has_members (filter (λ row. is_among gone row.mount) rows) g) kept ∙
    ap (λ (b : Bool). b && not kept) (sym (has_split (is_among gone) rows g))
  where
    where_none : (leaves kept : Bool) → (leaves && not kept) ≡ ((kept || leaves) && not kept)
    where_none true true = refl
    where_none true false = refl
    where_none false true = refl
    where_none false false = refl

-- a row whose master is lost is one of these, where each that has a lost one as its master is
all_free :
    {R : Type 0} (number : R → ℕ) (master : R → Option ℕ) (these lost : List ℕ) (rows : List R) →
    ((g : ℕ) → is_among lost g ≡ true → list_all (is_among these) (numbered number (λ r. is_just g (master r)) rows) ≡ true) →
    list_all (λ r. not (is_one_of lost (master r)) || is_among these (number r)) rows ≡ true
all_free number master these lost [] each = refl
all_free {R} number master these lost (r ∷ rows) each =
    and_from _ _ (first (master r) refl) (all_free number master these lost rows (λ g there. rest g (is_just g (master r)) (cons g there)))
  where
    listed : ℕ → List ℕ
    listed g = numbered number (λ x. is_just g (master x)) rows

    cons :
        (g : ℕ) → is_among lost g ≡ true →
        list_all (is_among these) (cond (is_just g (master r)) (number r ∷ listed g) (listed g)) ≡ true
    cons g there =
        ap (λ (xs : List ℕ). list_all (is_among these) xs) (sym (numbered_cons number (λ (x : R). is_just g (master x)) r rows)) ∙
        each g there

    rest : (g : ℕ) (b : Bool) → list_all (is_among these) (cond b (number r ∷ listed g) (listed g)) ≡ true → list_all (is_among these) (listed g) ≡ true
    rest g true h = right_of_and _ _ h
    rest g false h = h

    own : (h : ℕ) → list_all (is_among these) (cond true (number r ∷ listed h) (listed h)) ≡ true → is_among these (number r) ≡ true
    own h all = left_of_and _ _ all

    first : (o : Option ℕ) → master r ≡ o → (not (is_one_of lost o) || is_among these (number r)) ≡ true
    first None e = refl
    first (Some h) e = go (is_among lost h) refl
      where
        same : is_just h (master r) ≡ true
        same = rw (e, eq-eqb h h refl) refl

        go : (b : Bool) → is_among lost h ≡ b → (not b || is_among these (number r)) ≡ true
        go true there = own h (subst (λ (b : Bool). list_all (is_among these) (cond b (number r ∷ listed h) (listed h)) ≡ true) same (cons h there))
        go false there = refl

-- where none is left of any group that is lost, no master of what stays is lost
pub free_by_lists :
    (gone lost : List ℕ) (s : PeerGroups) → list_all (has_none_left gone lost s) lost ≡ true →
    is_free_of lost (with_only (λ m. not (is_among gone m)) s) ≡ true
free_by_lists gone lost s all =
    free_staying gone lost s
    (all_free (λ (r : MemberRow). r.mount) (λ (r : MemberRow). r.master) gone lost s.members
    (λ g there. left_of_and _ _ (all_at (has_none_left gone lost s) lost g all there)))
    (turned s.groups
    (all_free (λ (r : GroupRow). r.group) (λ (r : GroupRow). r.master) lost lost s.groups
    (λ g there. right_of_and _ _ (all_at (has_none_left gone lost s) lost g all there))))
  where
    either : (a b : Bool) → (a || b) ≡ (b || a)
    either true true = refl
    either true false = refl
    either false true = refl
    either false false = refl

    turned :
        (rows : List GroupRow) →
        list_all (λ r. not (is_one_of lost r.master) || is_among lost r.group) rows ≡ true →
        list_all (is_free_group lost) rows ≡ true
    turned [] h = refl
    turned (r ∷ rows) h =
        and_from _ _ (either (is_among lost r.group) (not (is_one_of lost r.master)) ∙ left_of_and _ _ h)
        (turned rows (right_of_and _ _ h))

-- another mount is in the list of the peer group
pub other_listed :
    (m g : ℕ) (rows : List MemberRow) →
    list_any (λ x. not (x == m)) (mounts_where (is_in g) rows) ≡ list_any (is_other_in m g) rows
other_listed m g [] = refl
other_listed m g (r ∷ rows) =
    ap (λ (xs : List ℕ). list_any (λ x. not (x == m)) xs) (numbered_cons (λ (row : MemberRow). row.mount) (is_in g) r rows) ∙
    go (is_just g r.group) (other_listed m g rows)
  where
    go :
        (b : Bool) →
        list_any (λ x. not (x == m)) (mounts_where (is_in g) rows) ≡ list_any (is_other_in m g) rows →
        list_any (λ x. not (x == m)) (cond b (r.mount ∷ mounts_where (is_in g) rows) (mounts_where (is_in g) rows)) ≡
        ((b && not (r.mount == m)) || list_any (is_other_in m g) rows)
    go true ih = ap (λ (b : Bool). not (r.mount == m) || b) ih
    go false ih = ih

-- those that pass stand before those that don't
pub parted_count :
    {R : Type 0} (p : R → Bool) (rows : List R) (i : ℕ) → i ≤ length rows →
    AllWithin (λ r. p r ≡ true) rows 0 i → AllWithin (λ r. p r ≡ false) rows i (length rows) →
    i ≡ length (filter p rows)
parted_count p [] i bound before behind = omega arith
parted_count {R} p (r ∷ rows) zero bound before behind =
    let none : p r ≡ false = behind 0 r (omega arith) (omega arith) in
    rw none
    (parted_count p rows zero (omega arith) (λ k d low high. absurd (omega arith))
    (λ k d low high. behind (suc k) d (omega arith) (omega arith)))
parted_count {R} p (r ∷ rows) (suc i) bound before behind =
    let here : p r ≡ true = before 0 r (omega arith) (omega arith) in
    rw here
    (ap suc (parted_count p rows i (omega arith) (λ k d low high. before (suc k) d (omega arith) (omega arith))
    (λ k d low high. behind (suc k) d (omega arith) (omega arith))))
