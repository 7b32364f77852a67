-- Rows in rising order: where one stands, what is found there, and what one fact about each says.
use Rattle.std.proofs.Common.{◌≡◌, ◌≢◌, ℕ, zero, suc, ◌+◌, ◌<◌, ◌≤◌, Bool, true, false, cond, not, ◌==◌, ltb, List, [], ◌∷◌, length, get_or, slice_get, Option, Some, None, refl, sym, ap, ◌∙◌, arith}
use Rattle.std.specs.Prelude.{find, filter, nat_le, remove, position}
use Rattle.std.proofs.lemmas.Bool.{lt-ltb, le-ltb}
use Rattle.std.specs.List.{position_or_len}
use Rattle.std.proofs.lemmas.Bool.Decides.{nat_tests}
use Rattle.std.proofs.lemmas.List.Sums.{position_or_len_is}
use Rattle.std.specs.List.Sorted.{IsPartitionPoint}
use Rattle.am_names.specs.{RiseBy}
use Rattle.am_wait.proofs.FindLemmas.{absent}
use Rattle.am_wait.proofs.CallLemmas.{all_kept}

-- the row, if it has this number
abbrev pub if_has : {X : Type 0} → (X → ℕ) → ℕ → Option X → Option X
if_has key k None = None
if_has key k (Some row) = cond (key row == k) (Some row) None

module _ {X : Type 0} (key : X → ℕ) where
  pub rise_low : (low : ℕ) (rows : List X) → RiseBy key low rows → (j : ℕ) (d : X) → j < length rows → low ≤ key (get_or rows j d)
  rise_low low [] h j d less = absurd (omega arith)
  rise_low low (row ∷ rows) h zero d less = h.0
  rise_low low (row ∷ rows) h (suc j) d less = omega (arith, h.0, rise_low (key row + 1) rows h.1 j d (omega arith))

  pub rise_on : (low : ℕ) (rows : List X) → RiseBy key low rows → (i j : ℕ) (d : X) → i ≤ j → j < length rows → key (get_or rows i d) ≤ key (get_or rows j d)
  rise_on low [] h i j d le less = absurd (omega arith)
  rise_on low (row ∷ rows) h zero zero d le less = omega arith
  rise_on low (row ∷ rows) h zero (suc j) d le less = omega (arith, rise_low (key row + 1) rows h.1 j d (omega arith))
  rise_on low (row ∷ rows) h (suc i) zero d le less = absurd (omega arith)
  rise_on low (row ∷ rows) h (suc i) (suc j) d le less = rise_on (key row + 1) rows h.1 i j d (omega arith) (omega arith)

  -- the place between the lower rows and the others is that of the first that isn't lower
  pub point_is : (k i : ℕ) (rows : List X) → i ≤ length rows → IsPartitionPoint (λ row. ltb (key row) k ≡ true) (λ row. ltb (key row) k ≡ false) rows i → i ≡ position_or_len (λ row. nat_le k (key row)) rows
  point_is k i [] le h = omega arith
  point_is k i (row ∷ rows) le h =
      sym (position_or_len_is (λ r. nat_le k (key r)) (row ∷ rows) i row le (λ j less. grind (arith, nat_tests, h.0 j row (omega arith) less)) (λ less. grind (arith, nat_tests, h.1 i row (omega arith) less)))

  find_here_at : (k low p : ℕ) (row : X) (rows : List X) (b : Bool) → nat_le k (key row) ≡ b → RiseBy key (key row + 1) rows → find (λ r. key r == k) rows ≡ if_has key k (slice_get rows p) →
      find (λ r. key r == k) (row ∷ rows) ≡ if_has key k (slice_get (row ∷ rows) (cond (not b) (1 + p) 0))
  find_here_at k low p row rows true e h later =
      let none = absent key k (key row + 1) rows h (grind (arith, nat_tests, e)) in
      rw none refl
  find_here_at k low p row rows false e h later =
      let differs : (key row == k) ≡ false = grind (arith, nat_tests, e) in
      let further : 1 + p ≡ suc p = omega arith in
      rw (differs, further) later

  -- a search by halves finds what going through the rows finds
  pub found_at_its_point : (k low : ℕ) (rows : List X) → RiseBy key low rows → find (λ row. key row == k) rows ≡ if_has key k (slice_get rows (position_or_len (λ row. nat_le k (key row)) rows))
  found_at_its_point k low [] h = refl
  found_at_its_point k low (row ∷ rows) h = rw (find_here_at k low (position_or_len (λ r. nat_le k (key r)) rows) row rows (nat_le k (key row)) refl h.1 (found_at_its_point k (key row + 1) rows h.1)) refl

  -- what stands at the place of a number decides
  pub found_in_slice : (k low at : ℕ) (rows : List X) (o : Option X) → RiseBy key low rows → at ≡ position_or_len (λ row. nat_le k (key row)) rows → slice_get rows at ≡ o → find (λ row. key row == k) rows ≡ if_has key k o
  found_in_slice k low at rows o h e f = found_at_its_point k low rows h ∙ ap (λ i. if_has key k (slice_get rows i)) (sym e) ∙ ap (if_has key k) f

  taken_here_at : (k p : ℕ) (row : X) (rows : List X) (b : Bool) → nat_le k (key row) ≡ b → RiseBy key (key row + 1) rows → find (λ r. key r == k) rows ≡ if_has key k (slice_get rows p) → (find (λ r. key r == k) rows ≡ None → filter (λ r. not (key r == k)) rows ≡ rows) →
      (find (λ r. key r == k) rows ≢ None → remove rows p ≡ filter (λ r. not (key r == k)) rows) → find (λ r. key r == k) (row ∷ rows) ≢ None →
      remove (row ∷ rows) (cond (not b) (1 + p) 0) ≡ filter (λ r. not (key r == k)) (row ∷ rows)
  taken_here_at k p row rows true e h there rest later some =
      let none = absent key k (key row + 1) rows h (grind (arith, nat_tests, e)) in
      let same : (key row == k) ≡ true = grind (arith, nat_tests, none, some) in
      rw same (sym (rest none))
  taken_here_at k p row rows false e h there rest later some =
      let differs : (key row == k) ≡ false = grind (arith, nat_tests, e) in
      let further : 1 + p ≡ suc p = omega arith in
      rw (differs, further) (ap (λ others. row ∷ others) (later (rw differs at some)))

  -- the row at the place of its number is taken out, where there is one
  pub taken_at_its_point : (k low : ℕ) (rows : List X) → RiseBy key low rows → find (λ row. key row == k) rows ≢ None → remove rows (position_or_len (λ row. nat_le k (key row)) rows) ≡ filter (λ row. not (key row == k)) rows
  taken_at_its_point k low [] h some = absurd (some refl)
  taken_at_its_point k low (row ∷ rows) h some =
      taken_here_at k (position_or_len (λ r. nat_le k (key r)) rows) row rows (nat_le k (key row)) refl h.1 (found_at_its_point k (key row + 1) rows h.1) (λ none. all_kept (λ r. key r == k) rows none) (λ there. taken_at_its_point k (key row + 1) rows h.1 there) some

pub slice_none : {X : Type 0} (rows : List X) (at : ℕ) → length rows ≤ at → slice_get rows at ≡ None
slice_none [] at le = refl
slice_none (row ∷ rows) zero le = absurd (omega arith)
slice_none (row ∷ rows) (suc at) le = slice_none rows at (omega arith)

pub slice_some : {X : Type 0} (rows : List X) (at : ℕ) (row : X) → at < length rows → row ≡ get_or rows at row → slice_get rows at ≡ Some row
slice_some [] at row less e = absurd (omega arith)
slice_some (r ∷ rows) zero row less e = ap (λ x. Some x) (sym e)
slice_some (r ∷ rows) (suc at) row less e = slice_some rows at row (omega arith) e

module _ {X : Type 0} (key : X → ℕ) where
  pub found_none : (k low at : ℕ) (rows : List X) → RiseBy key low rows → at ≡ position_or_len (λ row. nat_le k (key row)) rows → length rows ≤ at → find (λ row. key row == k) rows ≡ None
  found_none k low at rows h e le = found_in_slice key k low at rows None h e (slice_none rows at le)

  pub found_other : (k low at : ℕ) (rows : List X) (row : X) → RiseBy key low rows → at ≡ position_or_len (λ row. nat_le k (key row)) rows → at < length rows → row ≡ get_or rows at row → (key row == k) ≡ false → find (λ row. key row == k) rows ≡ None
  found_other k low at rows row h e less f differs = found_in_slice key k low at rows (Some row) h e (slice_some rows at row less f) ∙ ap (λ b. cond b (Some row) None) differs

  pub found_row : (k low at : ℕ) (rows : List X) (row : X) → RiseBy key low rows → at ≡ position_or_len (λ row. nat_le k (key row)) rows → at < length rows → row ≡ get_or rows at row → (key row == k) ≡ true → find (λ row. key row == k) rows ≡ Some row
  found_row k low at rows row h e less f same = found_in_slice key k low at rows (Some row) h e (slice_some rows at row less f) ∙ ap (λ b. cond b (Some row) None) same

no_row : {X : Type 0} (test : X → Bool) (rows : List X) → find test rows ≡ None → position_or_len test rows ≡ length rows
no_row test [] h = refl
no_row test (row ∷ rows) h = by_test (test row) h (no_row test rows)
  where
    by_test : (b : Bool) → cond b (Some row) (find test rows) ≡ None → (find test rows ≡ None → position_or_len test rows ≡ length rows) → cond (not b) (1 + position_or_len test rows) 0 ≡ suc (length rows)
    by_test true h later = absurd cc
    by_test false h later = omega (arith, later h)

-- where nothing is found there is no place
pub no_place : {X : Type 0} (test : X → Bool) (rows : List X) → find test rows ≡ None → position test rows ≡ None
no_place test rows h = rw (le-ltb (position_or_len test rows) (length rows) (omega (arith, no_row test rows h))) refl

module _ {X : Type 0} (key : X → ℕ) where
  place_here_at : (k : ℕ) (row : X) (rows : List X) (p q : ℕ) (b : Bool) → nat_le k (key row) ≡ b → RiseBy key (key row + 1) rows → (find (λ r. key r == k) rows ≢ None → (p ≡ q) × (p < length rows)) → find (λ r. key r == k) (row ∷ rows) ≢ None →
      (cond (not (key row == k)) (1 + p) 0 ≡ cond (not b) (1 + q) 0) × (cond (not (key row == k)) (1 + p) 0 < suc (length rows))
  place_here_at k row rows p q true e h later some =
      let none = absent key k (key row + 1) rows h (grind (arith, nat_tests, e)) in
      let same : (key row == k) ≡ true = grind (arith, nat_tests, none, some) in
      rw same (refl, omega arith)
  place_here_at k row rows p q false e h later some =
      let differs : (key row == k) ≡ false = grind (arith, nat_tests, e) in
      let there = later (rw differs at some) in
      rw differs (ap (λ (n : ℕ). 1 + n) there.0, omega (arith, there.1))

  same_place : (k low : ℕ) (rows : List X) → RiseBy key low rows → find (λ row. key row == k) rows ≢ None →
      (position_or_len (λ row. key row == k) rows ≡ position_or_len (λ row. nat_le k (key row)) rows) × (position_or_len (λ row. key row == k) rows < length rows)
  same_place k low [] h some = absurd (some refl)
  same_place k low (row ∷ rows) h some = place_here_at k row rows _ _ (nat_le k (key row)) refl h.1 (λ there. same_place k (key row + 1) rows h.1 there) some

  -- a row that is there stands where a search by halves looks for it
  pub position_is_its_point : (k low : ℕ) (rows : List X) → RiseBy key low rows → find (λ row. key row == k) rows ≢ None → position (λ row. key row == k) rows ≡ Some (position_or_len (λ row. nat_le k (key row)) rows)
  position_is_its_point k low rows h some =
      let at = same_place k low rows h some in
      let less : ltb (position_or_len (λ row. key row == k) rows) (length rows) ≡ true = lt-ltb _ _ at.1 in
      rw less (ap (λ (n : ℕ). Some n) at.0)

  -- the others are as many as all, less the one that is there
  pub others_of : (k low : ℕ) (rows : List X) → RiseBy key low rows → find (λ row. key row == k) rows ≢ None → length (filter (λ row. not (key row == k)) rows) + 1 ≡ length rows
  others_of k low [] h some = absurd (some refl)
  others_of k low (row ∷ rows) h some = by_test (key row == k) refl some (λ there. others_of k (key row + 1) rows h.1 there)
    where
      by_test : (b : Bool) → (key row == k) ≡ b → cond b (Some row) (find (λ r. key r == k) rows) ≢ None → (find (λ r. key r == k) rows ≢ None → length (filter (λ r. not (key r == k)) rows) + 1 ≡ length rows) →
          length (cond (not b) (row ∷ filter (λ r. not (key r == k)) rows) (filter (λ r. not (key r == k)) rows)) + 1 ≡ suc (length rows)
      by_test true e some later =
          let none = absent key k (key row + 1) rows h.1 (grind (arith, nat_tests, e)) in
          rw (all_kept (λ r. key r == k) rows none) (omega arith)
      by_test false e some later = omega (arith, later some)
