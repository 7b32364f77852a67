-- Rows that are looked up by a number, in lists that grow, shrink or change.
use Rattle.std.proofs.Common.{◌≡◌, ℕ, Bool, true, false, cond, List, [], ◌∷◌, ◌++◌, map, filter, Option, Some, None, refl, sym, ap, subst, ◌∙◌}
use Rattle.std.specs.Prelude.{◌==◌, ◌&&◌, not, find}
use Rattle.std.specs.List.{list_any}
use Rattle.std.specs.Option.{option_map}
use Rattle.am_names.proofs.Basics.{neither_of_or, equal_by_test, differ_the_other_way}
use Rattle.am_machine.specs.{has, AreDifferent}

-- what is found unless it is taken away
pub some_unless : {X : Type 0} (b : Bool) (o : Option X) (row : X) → cond b None o ≡ Some row → (b ≡ false) × (o ≡ Some row)
some_unless true o row e = absurd cc
some_unless false o row e = (refl, e)

-- ---- one row more, the last

pub find_others : {X : Type 0} (test : X → Bool) (rows : List X) (new : X) → test new ≡ false → find test (rows ++ new ∷ []) ≡ find test rows
find_others test [] new other = rw other refl
find_others {X} test (x ∷ rows) new other = ap (λ (o : Option X). cond (test x) (Some x) o) (find_others test rows new other)

pub find_new : {X : Type 0} (test : X → Bool) (rows : List X) (new : X) → find test rows ≡ None → test new ≡ true → find test (rows ++ new ∷ []) ≡ Some new
find_new test [] new none passes = rw passes refl
find_new {X} test (x ∷ rows) new none passes = by (λ none. find_new test rows new none passes) (test x) none
  where
    by : (find test rows ≡ None → find test (rows ++ new ∷ []) ≡ Some new) → (b : Bool) → cond b (Some x) (find test rows) ≡ None → cond b (Some x) (find test (rows ++ new ∷ [])) ≡ Some new
    by later true none = absurd cc
    by later false none = later none

-- ---- rows that differ in a number

module _ {X : Type 0} (number : X → ℕ) where
  -- where the number isn't among the rows' no row has it
  pub absent : (n : ℕ) (rows : List X) → has n (map number rows) ≡ false → find (λ x. number x == n) rows ≡ None
  absent n [] h = refl
  absent n (x ∷ rows) h =
      let both = neither_of_or (number x == n) (has n (map number rows)) h in
      rw both.0 (absent n rows both.1)

  -- and no row has it that passes a test besides
  pub absent_and : (n : ℕ) (test : X → Bool) (rows : List X) → has n (map number rows) ≡ false → list_any (λ x. number x == n && test x) rows ≡ false
  absent_and n test [] h = refl
  absent_and n test (x ∷ rows) h =
      let both = neither_of_or (number x == n) (has n (map number rows)) h in
      rw both.0 (absent_and n test rows both.1)

  has_more : (n : ℕ) (rows : List X) (new : X) → has n (map number rows) ≡ false → (number new == n) ≡ false → has n (map number (rows ++ new ∷ [])) ≡ false
  has_more n [] new h other = rw other refl
  has_more n (x ∷ rows) new h other =
      let both = neither_of_or (number x == n) (has n (map number rows)) h in
      rw both.0 (has_more n rows new both.1 other)

  -- one row more, of a new number
  pub different_more : (rows : List X) (new : X) → AreDifferent (map number rows) → has (number new) (map number rows) ≡ false → AreDifferent (map number (rows ++ new ∷ []))
  different_more [] new h fresh = (refl, tt)
  different_more (x ∷ rows) new h fresh =
      let both = neither_of_or (number x == number new) (has (number new) (map number rows)) fresh in
      (has_more (number x) rows new h.0 (differ_the_other_way (number x) (number new) both.0), different_more rows new h.1 both.1)

  -- the rows of one number go: none has it then, and the others are found as before
  pub gone : (n : ℕ) (rows : List X) → has n (map number (filter (λ x. not (number x == n)) rows)) ≡ false
  gone n [] = refl
  gone n (x ∷ rows) = by (gone n rows) (number x == n) refl
    where
      by : has n (map number (filter (λ x. not (number x == n)) rows)) ≡ false → (b : Bool) → (number x == n) ≡ b → has n (map number (cond (not b) (x ∷ filter (λ x. not (number x == n)) rows) (filter (λ x. not (number x == n)) rows))) ≡ false
      by later true same = later
      by later false other = rw other later

  pub found_left : (n m : ℕ) (rows : List X) → (m == n) ≡ false → find (λ x. number x == m) (filter (λ x. not (number x == n)) rows) ≡ find (λ x. number x == m) rows
  found_left n m [] other = refl
  found_left n m (x ∷ rows) other = by (found_left n m rows other) (number x == n) refl
    where
      by : find (λ x. number x == m) (filter (λ x. not (number x == n)) rows) ≡ find (λ x. number x == m) rows → (b : Bool) → (number x == n) ≡ b → find (λ x. number x == m) (cond (not b) (x ∷ filter (λ x. not (number x == n)) rows) (filter (λ x. not (number x == n)) rows)) ≡ find (λ x. number x == m) (x ∷ rows)
      by later true same =
          let skipped : (number x == m) ≡ false = subst (λ (k : ℕ). (k == m) ≡ false) (sym (equal_by_test (number x) n same)) (differ_the_other_way m n other) in
          rw skipped later
      by later false differs = ap (λ (o : Option X). cond (number x == m) (Some x) o) later

  -- rows that change but for those of this number
  pub found_unchanged : (change : X → X) (n : ℕ) (rows : List X) → ((x : X) → number (change x) ≡ number x) → ((x : X) → (number x == n) ≡ true → change x ≡ x) →
      find (λ x. number x == n) (map change rows) ≡ find (λ x. number x == n) rows
  found_unchanged change n [] numbered same = refl
  found_unchanged change n (x ∷ rows) numbered same =
      ap (λ (k : ℕ). cond (k == n) (Some (change x)) (find (λ x. number x == n) (map change rows))) (numbered x) ∙ by (found_unchanged change n rows numbered same) (number x == n) refl
    where
      by : find (λ x. number x == n) (map change rows) ≡ find (λ x. number x == n) rows → (b : Bool) → (number x == n) ≡ b → cond b (Some (change x)) (find (λ x. number x == n) (map change rows)) ≡ cond b (Some x) (find (λ x. number x == n) rows)
      by later true here = ap (λ (y : X). Some y) (same x here)
      by later false other = later

  -- rows that change but for what is read of them
  pub read_unchanged : {Y : Type 0} (read : X → Y) (change : X → X) (n : ℕ) (rows : List X) → ((x : X) → number (change x) ≡ number x) → ((x : X) → read (change x) ≡ read x) →
      option_map read (find (λ x. number x == n) (map change rows)) ≡ option_map read (find (λ x. number x == n) rows)
  read_unchanged read change n [] numbered same = refl
  read_unchanged {Y} read change n (x ∷ rows) numbered same =
      ap (λ (k : ℕ). option_map read (cond (k == n) (Some (change x)) (find (λ x. number x == n) (map change rows)))) (numbered x) ∙ by (read_unchanged read change n rows numbered same) (number x == n)
    where
      by : option_map read (find (λ x. number x == n) (map change rows)) ≡ option_map read (find (λ x. number x == n) rows) → (b : Bool) → option_map read (cond b (Some (change x)) (find (λ x. number x == n) (map change rows))) ≡ option_map read (cond b (Some x) (find (λ x. number x == n) rows))
      by later true = ap (λ (y : Y). Some y) (same x)
      by later false = later
