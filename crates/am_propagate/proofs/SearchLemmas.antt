-- What a search by halves tells of mounts that rise.
use Rattle.std.proofs.Common.{◌≡◌, ◌≤◌, ◌<◌, ◌+◌, ℕ, zero, suc, Bool, true, false, List, [], ◌∷◌, length, get_or, Ok, Err, refl, sym, ap, ◌∙◌, arith, add-one}
use Rattle.std.specs.Prelude.{filter, nat_le, nat_lt}
use Rattle.std.specs.List.Sorted.{IsBinarySearchResult, IsNonDecreasingBy, IsStrictlyIncreasing}
use Rattle.std.specs.Ordering.{nat_cmp, ordering_index}
use Rattle.std.proofs.lemmas.Cmp.{ranked}
use Rattle.std.proofs.lemmas.List.{get_or_default}
use Rattle.std.proofs.lemmas.Bool.Decides.{nat_tests}
use Rattle.am_group.specs.{rank}
use Rattle.am_mount.proofs.RowLemmas.{RiseOn, RiseOn-lower}
use Rattle.am_propagate.specs.{count_up_to, copy_number}

rise_from : (n : ℕ) (xs : List ℕ) → IsStrictlyIncreasing (n ∷ xs) → RiseOn n (n ∷ xs)
rise_from n [] steps = (omega arith, tt)
rise_from n (m ∷ xs) steps =
    let first : n < m = steps 0 (omega arith) in
    let rest : RiseOn m (m ∷ xs) = rise_from m xs (λ k h. rw (add-one) (rw (add-one) at (steps (suc k) (omega arith)))) in
    (omega arith, RiseOn-lower (n + 1) m (m ∷ xs) (omega arith) rest)

pub rise_all : (xs : List ℕ) → IsStrictlyIncreasing xs → RiseOn 0 xs
rise_all [] steps = tt
rise_all (n ∷ xs) steps = RiseOn-lower 0 n (n ∷ xs) (omega arith) (rise_from n xs steps)

at_least : (low : ℕ) (xs : List ℕ) → RiseOn low xs → (i d : ℕ) → i < length xs → low ≤ get_or xs i d
at_least low [] rises i d h = absurd (omega arith)
at_least low (n ∷ xs) rises zero d h = rises.0
at_least low (n ∷ xs) rises (suc i) d h =
    let first : low ≤ n = rises.0 in
    let next = n + 1 in
    let rest : next ≤ get_or xs i d = at_least next xs rises.1 i d (omega arith) in
    omega arith

pairs_rise :
    (low : ℕ) (xs : List ℕ) → RiseOn low xs → (i j d : ℕ) → i < j → j < length xs →
    get_or xs i d < get_or xs j d
pairs_rise low [] rises i j d less h = absurd (omega arith)
pairs_rise low (n ∷ xs) rises i zero d less h = absurd (omega arith)
pairs_rise low (n ∷ xs) rises zero (suc j) d less h =
    let next = n + 1 in
    let rest : next ≤ get_or xs j d = at_least next xs rises.1 j d (omega arith) in
    omega arith
pairs_rise low (n ∷ xs) rises (suc i) (suc j) d less h =
    pairs_rise (n + 1) xs rises.1 i j d (omega arith) (omega arith)

-- as many pass as stand before the first that doesn't, where none behind it passes
count_split :
    (test : ℕ → Bool) (xs : List ℕ) (i : ℕ) → i ≤ length xs →
    ((j : ℕ) → j < i → test (get_or xs j 0) ≡ true) →
    ((j : ℕ) → i ≤ j → j < length xs → test (get_or xs j 0) ≡ false) → length (filter test xs) ≡ i
count_split test [] zero h before after = refl
count_split test [] (suc i) h before after = absurd (omega arith)
count_split test (x ∷ xs) zero h before after =
    rw (after 0 (omega arith) (omega arith))
    (count_split test xs zero (omega arith) (λ j less. absurd (omega arith)) (λ j le k. after (suc j) (omega arith) (omega arith)))
count_split test (x ∷ xs) (suc i) h before after =
    rw (before 0 (omega arith))
    (ap suc (count_split test xs i (omega arith) (λ j less. before (suc j) (omega arith)) (λ j le k. after (suc j) (omega arith) (omega arith))))

up_to_low : (x m : ℕ) → x ≤ m → nat_le x m ≡ true
up_to_low x m h = grind (arith, nat_tests)

up_to_high : (x m : ℕ) → m < x → nat_le x m ≡ false
up_to_high x m h = grind (arith, nat_tests)

below_low : (x m : ℕ) → x < m → nat_lt x m ≡ true
below_low x m h = grind (arith, nat_tests)

below_high : (x m : ℕ) → m ≤ x → nat_lt x m ≡ false
below_high x m h = grind (arith, nat_tests)

module _ (xs : List ℕ) (steps : IsStrictlyIncreasing xs) (m : ℕ) where
  comparisons_rise : IsNonDecreasingBy (λ (x : ℕ). ordering_index (nat_cmp x m)) xs
  comparisons_rise i j d le h =
      let up = pairs_rise 0 xs (rise_all xs steps) i j d in
      grind (arith, nat_tests, up, λ (same : i ≡ j). ap (λ (k : ℕ). get_or xs k d) same)

  here : (i : ℕ) → IsBinarySearchResult (λ (x : ℕ). nat_cmp x m) xs (Ok i) → get_or xs i 0 ≡ m
  here i equal = ranked _ m _ (sym (equal 0))

  before : (i : ℕ) → IsBinarySearchResult (λ (x : ℕ). nat_cmp x m) xs (Err i) → (j : ℕ) → j < length xs → j < i → get_or xs j 0 < m
  before i parted j h lt = ranked _ m _ (sym ((parted comparisons_rise).0 j 0 (omega arith) lt))

  after : (i : ℕ) → IsBinarySearchResult (λ (x : ℕ). nat_cmp x m) xs (Err i) → (j : ℕ) → j < length xs → i ≤ j → m < get_or xs j 0
  after i parted j h le = ranked _ m _ (sym ((parted comparisons_rise).1 j 0 le h))

  rise : RiseOn 0 xs
  rise = rise_all xs steps

  -- those before the place of the number are lower, and those behind it higher
  lower_before :
      (i : ℕ) → i < length xs → get_or xs i 0 ≡ m → (j : ℕ) → j < i → get_or xs j 0 < m
  lower_before i h own j lt =
      let up : get_or xs j 0 < get_or xs i 0 = pairs_rise 0 xs rise j i 0 lt h in
      omega arith

  higher_behind :
      (i : ℕ) → get_or xs i 0 ≡ m → (j : ℕ) → i < j → j < length xs → m < get_or xs j 0
  higher_behind i own j lt k =
      let up : get_or xs i 0 < get_or xs j 0 = pairs_rise 0 xs rise i j 0 lt k in
      omega arith

  -- so many have no higher number as stand up to its own place
  count_here : (i : ℕ) → i < length xs → get_or xs i 0 ≡ m → count_up_to m xs ≡ i + 1
  count_here i h own = count_split (λ x. nat_le x m) xs (i + 1) (omega arith) low high
    where
      low : (j : ℕ) → j < i + 1 → nat_le (get_or xs j 0) m ≡ true
      low j lt =
          let less = lower_before i h own j in
          up_to_low (get_or xs j 0) m (grind (arith, less, λ (same : j ≡ i). ap (λ (k : ℕ). get_or xs k 0) same))

      high : (j : ℕ) → i + 1 ≤ j → j < length xs → nat_le (get_or xs j 0) m ≡ false
      high j le k = up_to_high (get_or xs j 0) m (higher_behind i own j (omega arith) k)

  pub count_at : (i : ℕ) → i < length xs → m ≡ get_or xs i m → count_up_to m xs ≡ i + 1
  count_at i h is = count_here i h (get_or_default xs i 0 m h ∙ sym is)

  pub count_found :
      (i : ℕ) → i < length xs → IsBinarySearchResult (λ (x : ℕ). nat_cmp x m) xs (Ok i) → count_up_to m xs ≡ i + 1
  count_found i h equal = count_here i h (here i equal)

  pub count_absent :
      (i : ℕ) → i ≤ length xs → IsBinarySearchResult (λ (x : ℕ). nat_cmp x m) xs (Err i) → count_up_to m xs ≡ i
  count_absent i h parted = count_split (λ x. nat_le x m) xs i h low high
    where
      low : (j : ℕ) → j < i → nat_le (get_or xs j 0) m ≡ true
      low j lt =
          let less : get_or xs j 0 < m = before i parted j (omega arith) lt in
          up_to_low (get_or xs j 0) m (omega arith)

      high : (j : ℕ) → i ≤ j → j < length xs → nat_le (get_or xs j 0) m ≡ false
      high j le k = up_to_high (get_or xs j 0) m (after i parted j k le)

  pub rank_found :
      (i : ℕ) → i < length xs → IsBinarySearchResult (λ (x : ℕ). nat_cmp x m) xs (Ok i) → rank m xs ≡ i
  rank_found i h equal = count_split (λ x. nat_lt x m) xs i (omega arith) low high
    where
      own : get_or xs i 0 ≡ m
      own = here i equal

      low : (j : ℕ) → j < i → nat_lt (get_or xs j 0) m ≡ true
      low j lt = below_low (get_or xs j 0) m (lower_before i h own j lt)

      high : (j : ℕ) → i ≤ j → j < length xs → nat_lt (get_or xs j 0) m ≡ false
      high j le k =
          let more = higher_behind i own j in
          below_high (get_or xs j 0) m (grind (arith, more, λ (same : i ≡ j). ap (λ (k : ℕ). get_or xs k 0) same))

  pub rank_absent :
      (i : ℕ) → i ≤ length xs → IsBinarySearchResult (λ (x : ℕ). nat_cmp x m) xs (Err i) → rank m xs ≡ i
  rank_absent i h parted = count_split (λ x. nat_lt x m) xs i h low high
    where
      low : (j : ℕ) → j < i → nat_lt (get_or xs j 0) m ≡ true
      low j lt = below_low (get_or xs j 0) m (before i parted j (omega arith) lt)

      high : (j : ℕ) → i ≤ j → j < length xs → nat_lt (get_or xs j 0) m ≡ false
      high j le k =
          let more : m < get_or xs j 0 = after i parted j k le in
          below_high (get_or xs j 0) m (omega arith)

-- the copies are numbered in order of the mounts
pub counted_at :
    (last : ℕ) (xs : List ℕ) → IsStrictlyIncreasing xs → (i m n : ℕ) → i < length xs → m ≡ get_or xs i m →
    n ≡ last + i → n + 1 ≡ copy_number last xs m
counted_at last xs steps i m n h is at =
    let count : count_up_to m xs ≡ i + 1 = count_at xs steps m i h is in
    omega arith
