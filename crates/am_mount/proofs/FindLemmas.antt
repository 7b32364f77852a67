-- What a search by halves finds in rows that rise.
use Rattle.std.proofs.Common.{◌≡◌, true, false, ltb, ◌≢◌, ◌≤◌, ◌<◌, ◌+◌, ℕ, zero, suc, List, [], ◌∷◌, length, get_or, Some, None, Ok, Err, refl, sym, ap, ◌∙◌, arith}
use Rattle.std.specs.Prelude.{nat_le}
use Rattle.std.specs.List.Sorted.{IsBinarySearchResult, IsNonDecreasingBy, IsPartitionPoint}
use Rattle.std.specs.Ordering.{nat_cmp, ordering_index}
use Rattle.std.proofs.lemmas.Cmp.{ranked}
use Rattle.std.proofs.lemmas.List.Sums.{position_or_len_is}
use Rattle.std.proofs.lemmas.Bool.{eq-eqb, ne_eqb}
use Rattle.std.proofs.lemmas.Bool.Decides.{nat_tests}
use Rattle.am_names.specs.{MountRow}
use Rattle.am_mount.specs.{RiseFrom, IsRising, mount_row, rows_below}

-- the number of the mount at this index
abbrev mount_at : List MountRow → ℕ → MountRow → ℕ
mount_at rows i d = (get_or rows i d).mount

at_least :
    (low : ℕ) (rows : List MountRow) → RiseFrom low rows →
    (i : ℕ) (d : MountRow) → i < length rows → low ≤ mount_at rows i d
at_least low [] rises i d h = absurd (omega arith)
at_least low (row ∷ rows) rises zero d h = rises.0
at_least low (row ∷ rows) rises (suc i) d h =
    let first : low ≤ row.mount = rises.0 in
    let next = row.mount + 1 in
    let rest : next ≤ mount_at rows i d = at_least next rows rises.1 i d (omega arith) in
    omega arith

-- a greater index has a greater number
pub rows_rise :
    (low : ℕ) (rows : List MountRow) → RiseFrom low rows →
    (i j : ℕ) (d : MountRow) → i < j → j < length rows → mount_at rows i d < mount_at rows j d
rows_rise low [] rises i j d less h = absurd (omega arith)
rows_rise low (row ∷ rows) rises i zero d less h = absurd (omega arith)
rows_rise low (row ∷ rows) rises zero (suc j) d less h =
    let next = row.mount + 1 in
    let rest : next ≤ mount_at rows j d = at_least next rows rises.1 j d (omega arith) in
    omega arith
rows_rise low (row ∷ rows) rises (suc i) (suc j) d less h =
    rows_rise (row.mount + 1) rows rises.1 i j d (omega arith) (omega arith)

-- the row with the number is the one that is looked up
found_at :
    (low : ℕ) (rows : List MountRow) → RiseFrom low rows →
    (i m : ℕ) (d : MountRow) → i < length rows → mount_at rows i d ≡ m →
    mount_row rows m ≡ Some (get_or rows i d)
found_at low [] rises i m d h e = absurd (omega arith)
found_at low (row ∷ rows) rises zero m d h e = rw (eq-eqb row.mount m e) refl
found_at low (row ∷ rows) rises (suc i) m d h e =
    let next = row.mount + 1 in
    let rest : next ≤ mount_at rows i d = at_least next rows rises.1 i d (omega arith) in
    rw (ne_eqb row.mount m (λ same. omega arith))
    (found_at next rows rises.1 i m d (omega arith) e)

-- a row that stands somewhere is that of its number
pub found_in_place :
    (rows : List MountRow) → IsRising rows →
    (i m : ℕ) (row : MountRow) → i < length rows → row ≡ get_or rows i row → row.mount ≡ m →
    mount_row rows m ≡ Some row
found_in_place rows rises i m row h is at =
    found_at 0 rows rises i m row h (ap (λ (r : MountRow). r.mount) (sym is) ∙ at) ∙
    ap Some (sym is)

none_at :
    (rows : List MountRow) (m : ℕ) →
    ((i : ℕ) (d : MountRow) → i < length rows → mount_at rows i d ≢ m) → mount_row rows m ≡ None
none_at [] m others = refl
none_at (row ∷ rows) m others =
    rw (ne_eqb row.mount m (others 0 row (omega arith)))
    (none_at rows m (λ i d h. others (suc i) d (omega arith)))

module _ (rows : List MountRow) (rises : IsRising rows) (m : ℕ) where
  comparisons_rise :
      IsNonDecreasingBy (λ (row : MountRow). ordering_index (nat_cmp row.mount m)) rows
  comparisons_rise i j d le h =
      let up = rows_rise 0 rows rises i j d in
      grind (arith, nat_tests, up, λ (same : i ≡ j). ap (λ (k : ℕ). mount_at rows k d) same)

  pub index_found :
      (i : ℕ) → i < length rows →
      IsBinarySearchResult (λ (row : MountRow). nat_cmp row.mount m) rows (Ok i) →
      (d : MountRow) → (get_or rows i d).mount ≡ m
  index_found i lt equal d = ranked _ m _ (sym (equal d))

  pub found :
      (i : ℕ) → i < length rows →
      IsBinarySearchResult (λ (row : MountRow). nat_cmp row.mount m) rows (Ok i) →
      (d : MountRow) → mount_row rows m ≡ Some (get_or rows i d)
  found i lt equal d = found_at 0 rows rises i m d lt (index_found i lt equal d)

  -- where nothing is found, each number is another
  pub all_differ :
      (i : ℕ) → IsBinarySearchResult (λ (row : MountRow). nat_cmp row.mount m) rows (Err i) →
      (j : ℕ) (d : MountRow) → j < length rows → (get_or rows j d).mount ≢ m
  all_differ i parted j d h same = grind (arith, before j d, after j d h)
    where
      before : (j : ℕ) (d : MountRow) → j < i → mount_at rows j d < m
      before j d lt = ranked _ m _ (sym ((parted comparisons_rise).0 j d (omega arith) lt))

      after : (j : ℕ) (d : MountRow) → j < length rows → i ≤ j → m < mount_at rows j d
      after j d h le = ranked _ m _ (sym ((parted comparisons_rise).1 j d le h))

  pub absent :
      (i : ℕ) → IsBinarySearchResult (λ (row : MountRow). nat_cmp row.mount m) rows (Err i) →
      mount_row rows m ≡ None
  absent i parted = none_at rows m (all_differ i parted)

-- a number stands no lower than those in front of it
pub rows_on : (rows : List MountRow) → IsRising rows → IsNonDecreasingBy (λ (row : MountRow). row.mount) rows
rows_on rows rises i j d le h =
    let up = rows_rise 0 rows rises i j d in
    grind (arith, up, λ (same : i ≡ j). ap (λ (k : ℕ). mount_at rows k d) same)

-- the place between the lower numbers and the others is that of the first that isn't lower
pub point_is :
    (m i : ℕ) (rows : List MountRow) → i ≤ length rows →
    IsPartitionPoint (λ (row : MountRow). ltb row.mount m ≡ true) (λ row. ltb row.mount m ≡ false) rows i →
    i ≡ rows_below rows m
point_is m i [] le h = omega arith
point_is m i (row ∷ rows) le h =
    sym
    (position_or_len_is (λ (r : MountRow). nat_le m r.mount) (row ∷ rows) i row le
    (λ j less. grind (arith, nat_tests, h.0 j row (omega arith) less))
    (λ less. grind (arith, nat_tests, h.1 i row (omega arith) less)))
