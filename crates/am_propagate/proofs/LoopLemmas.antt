-- One row more, for one receiver more, and one number more.
use Rattle.std.proofs.Common.{◌≡◌, ◌<◌, ◌+◌, ℕ, zero, suc, List, [], ◌∷◌, ◌++◌, length, take, get_or, Option, Some, None, sym, ap, ◌∙◌, arith, add-one}
use Rattle.std.specs.Prelude.{filter_map}
use Rattle.std.specs.List.{cons_option}
use Rattle.std.proofs.Math.Seq.{take-suc}
use Rattle.std.proofs.lemmas.List.{append-nil}
use Rattle.std.proofs.lemmas.List.Elements.{filter_map-append}
use Rattle.am_names.specs.{MountRow, MemberRow}
use Rattle.am_names.specs.PeerGroups.{PeerGroups}
use Rattle.am_group.specs.{member_row, slave_in, group_of, copy_row, copies_from}
use Rattle.am_propagate.specs.MountTable.{MountTable}
use Rattle.am_propagate.specs.{row_at, rows_at, numbers_after}

module _ (t : MountTable) (place : List (List ℕ)) (fs origin : ℕ) where
  rows_one_more : (n : ℕ) (parents : List ℕ) (i d : ℕ) → i < length parents → rows_at t place fs origin n (take (suc i) parents) ≡ rows_at t place fs origin n (take i parents) ++ row_at t place fs origin (n + i) (get_or parents i d) ∷ []
  rows_one_more n [] i d h = absurd (omega arith)
  rows_one_more n (p ∷ ps) zero d h = ap (λ (k : ℕ). row_at t place fs origin k p ∷ []) (same_number n)
    where
      same_number : (n : ℕ) → n ≡ n + 0
      same_number n = omega arith
  rows_one_more n (p ∷ ps) (suc i) d h =
      ap (λ (xs : List MountRow). row_at t place fs origin n p ∷ xs) (rows_one_more (n + 1) ps i d (omega arith) ∙
      ap (λ (k : ℕ). rows_at t place fs origin (n + 1) (take i ps) ++ row_at t place fs origin k (get_or ps i d) ∷ []) (next n i))
    where
      next : (n i : ℕ) → n + 1 + i ≡ n + suc i
      next n i = omega arith

  pub rows_more : (n number : ℕ) (parents : List ℕ) (i d : ℕ) → i < length parents → d ≡ get_or parents i d → number ≡ n + i → rows_at t place fs origin n (take (i + 1) parents) ≡ rows_at t place fs origin n (take i parents) ++ row_at t place fs origin number d ∷ []
  rows_more n number parents i d h is at =
      ap (λ (k : ℕ). rows_at t place fs origin n (take k parents)) (add-one i) ∙ rows_one_more n parents i d h ∙
      ap (λ (k : ℕ). rows_at t place fs origin n (take i parents) ++ row_at t place fs origin (n + i) k ∷ []) (sym is) ∙
      ap (λ (k : ℕ). rows_at t place fs origin n (take i parents) ++ row_at t place fs origin k d ∷ []) (sym at)

module _ (stand : ℕ → ℕ) (s : PeerGroups) where
  abbrev copy_at : ℕ → ℕ → MemberRow
  copy_at number r = copy_row stand number (group_of s r) (slave_in (member_row s.members r))

  copies_one_more : (n : ℕ) (rs : List ℕ) (i d : ℕ) → i < length rs → copies_from stand s n (take (suc i) rs) ≡ copies_from stand s n (take i rs) ++ copy_row stand (n + i) (group_of s (get_or rs i d)) (slave_in (member_row s.members (get_or rs i d))) ∷ []
  copies_one_more n [] i d h = absurd (omega arith)
  copies_one_more n (r ∷ rs) zero d h = ap (λ (k : ℕ). copy_row stand k (group_of s r) (slave_in (member_row s.members r)) ∷ []) (same_number n)
    where
      same_number : (n : ℕ) → n ≡ n + 0
      same_number n = omega arith
  copies_one_more n (r ∷ rs) (suc i) d h =
      ap (λ (xs : List MemberRow). copy_row stand n (group_of s r) (slave_in (member_row s.members r)) ∷ xs) (copies_one_more (n + 1) rs i d (omega arith) ∙
      ap (λ (k : ℕ). copies_from stand s (n + 1) (take i rs) ++ copy_row stand k (group_of s (get_or rs i d)) (slave_in (member_row s.members (get_or rs i d))) ∷ []) (next n i))
    where
      next : (n i : ℕ) → n + 1 + i ≡ n + suc i
      next n i = omega arith

  pub copies_more : (n number : ℕ) (rs : List ℕ) (i d : ℕ) → i < length rs → d ≡ get_or rs i d → number ≡ n + i → copies_from stand s n (take (i + 1) rs) ≡ copies_from stand s n (take i rs) ++ copy_row stand number (group_of s d) (slave_in (member_row s.members d)) ∷ []
  copies_more n number rs i d h is at =
      ap (λ (k : ℕ). copies_from stand s n (take k rs)) (add-one i) ∙ copies_one_more n rs i d h ∙
      ap (λ (k : ℕ). copies_from stand s n (take i rs) ++ copy_row stand (n + i) (group_of s k) (slave_in (member_row s.members k)) ∷ []) (sym is) ∙
      ap (λ (k : ℕ). copies_from stand s n (take i rs) ++ copy_row stand k (group_of s d) (slave_in (member_row s.members d)) ∷ []) (sym at)

numbers_one_more : (last i : ℕ) → numbers_after last (suc i) ≡ numbers_after last i ++ (last + 1 + i) ∷ []
numbers_one_more last zero = ap (λ (n : ℕ). n ∷ []) (same_number last)
  where
    same_number : (last : ℕ) → last + 1 ≡ last + 1 + 0
    same_number last = omega arith
numbers_one_more last (suc i) =
    ap (λ (xs : List ℕ). (last + 1) ∷ xs) (numbers_one_more (last + 1) i ∙
    ap (λ (n : ℕ). numbers_after (last + 1) i ++ n ∷ []) (next last i))
  where
    next : (last i : ℕ) → last + 1 + 1 + i ≡ last + 1 + suc i
    next last i = omega arith

pub numbers_more : (last i number : ℕ) → number ≡ last + 1 + i → numbers_after last (i + 1) ≡ numbers_after last i ++ number ∷ []
numbers_more last i number at =
    ap (numbers_after last) (add-one i) ∙ numbers_one_more last i ∙
    ap (λ (n : ℕ). numbers_after last i ++ n ∷ []) (sym at)

-- what one more of them gives, if it gives something
module _ {B : Type 0} (h : ℕ → Option B) (xs : List ℕ) (i x : ℕ) (within : i < length xs) (is : x ≡ get_or xs i x) where
  one_more : filter_map h (take (i + 1) xs) ≡ filter_map h (take i xs) ++ filter_map h (x ∷ [])
  one_more =
      ap (λ (k : ℕ). filter_map h (take k xs)) (add-one i) ∙
      ap (filter_map h) (take-suc xs i x within) ∙
      filter_map-append h (take i xs) (get_or xs i x ∷ []) ∙
      ap (λ (y : ℕ). filter_map h (take i xs) ++ filter_map h (y ∷ [])) (sym is)

  pub gives_more : (y : B) → h x ≡ Some y → filter_map h (take (i + 1) xs) ≡ filter_map h (take i xs) ++ y ∷ []
  gives_more y e = one_more ∙ ap (λ (o : Option B). filter_map h (take i xs) ++ cons_option o []) e

  pub gives_none : h x ≡ None → filter_map h (take (i + 1) xs) ≡ filter_map h (take i xs)
  gives_none e = one_more ∙ ap (λ (o : Option B). filter_map h (take i xs) ++ cons_option o []) e ∙ append-nil (filter_map h (take i xs))
