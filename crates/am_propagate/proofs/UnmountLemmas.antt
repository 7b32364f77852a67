-- What an unmount removes: the mount itself, and the bare tops at the same place of the receivers.
use Rattle.std.proofs.Common.{◌≡◌, ◌≤◌, ◌<◌, ◌+◌, ℕ, Bool, true, false, cond, List, [], ◌∷◌, Option, Some, None, eqb, refl, sym, ap, subst, ⊎_elim, ◌∙◌, arith}
use Rattle.std.specs.Prelude.{◌==◌, filter_map}
use Rattle.std.specs.List.{dedup, cons_option}
use Rattle.std.specs.List.Sorted.{IsStrictlyIncreasing}
use Rattle.std.proofs.lemmas.Bool.{eqb-true, eq-eqb, ne_eqb, or_cases, and_parts, and_from}
use Rattle.std.proofs.lemmas.List.Kept.{Contains-dedup_nat, Contains-from_dedup}
use Rattle.am_group.proofs.ScanLemmas.{just_same}
use Rattle.am_names.proofs.Basics.{or_right, same_test}
use Rattle.am_names.specs.{MountRow, Position, is_among}
use Rattle.am_group.specs.{is_just, receivers_of}
use Rattle.am_mount.specs.{mount_row, mounts_where, top_of, HasRow, IsAt, IsTop}
use Rattle.am_mount.proofs.RowLemmas.{where_every, where_rises, top_is, IsTopOf, RiseOn}
use Rattle.am_propagate.specs.MountTable.{MountTable}
use Rattle.am_propagate.specs.{mountpoint_in, mountpoint_of, IsWhole, is_bare, is_top_at, if_bare, bare_top, goes_with}
use Rattle.am_propagate.proofs.RemovalLemmas.{among_from, among_contains}
use Rattle.am_propagate.proofs.SearchLemmas.{rise_all}

-- `dedup` keeps the numbers
pub dedup_among : (xs : List ℕ) (m : ℕ) → is_among (dedup eqb xs) m ≡ is_among xs m
dedup_among xs m = same_test _ _
    (λ h. among_from m xs (Contains-from_dedup eqb xs m (among_contains m (dedup eqb xs) h)))
    (λ h. among_from m (dedup eqb xs) (Contains-dedup_nat xs m (among_contains m xs h)))

-- ---- rising numbers that are the same stand in one list

none_below : (low c : ℕ) (xs : List ℕ) → RiseOn low xs → c < low → is_among xs c ≡ false
none_below low c [] rises below = refl
none_below low c (x ∷ xs) rises below =
    let first : low ≤ x = rises.0 in
    rw (ne_eqb x c (λ same. omega arith)) (none_below (x + 1) c xs rises.1 (omega arith))

head_among : (x : ℕ) (xs : List ℕ) → is_among (x ∷ xs) x ≡ true
head_among x xs = rw (eq-eqb x x refl) refl

not_below : (x y : ℕ) (xs ys : List ℕ) → RiseOn y (y ∷ ys) → ((c : ℕ) → is_among (x ∷ xs) c ≡ is_among (y ∷ ys) c) → x < y → ⊥
not_below x y xs ys rises same less =
    let no : true ≡ false = sym (head_among x xs) ∙ same x ∙ none_below y x (y ∷ ys) rises less in
    cc

rising_from : (low high : ℕ) (xs ys : List ℕ) → RiseOn low xs → RiseOn high ys → ((c : ℕ) → is_among xs c ≡ is_among ys c) → xs ≡ ys
rising_from low high [] [] up on same = refl
rising_from low high [] (y ∷ ys) up on same = let no : false ≡ true = same y ∙ head_among y ys in cc
rising_from low high (x ∷ xs) [] up on same = let no : true ≡ false = sym (head_among x xs) ∙ same x in cc
rising_from low high (x ∷ xs) (y ∷ ys) up on same =
    let up_x : RiseOn x (x ∷ xs) = (omega arith, up.1) in
    let up_y : RiseOn y (y ∷ ys) = (omega arith, on.1) in
    let heads : x ≡ y = between (not_below x y xs ys up_y same) (not_below y x ys xs up_x (λ c. sym (same c))) in
    let tails : (c : ℕ) → is_among xs c ≡ is_among ys c = λ c. tail c heads (x == c) refl in
    ap (λ (n : ℕ). n ∷ xs) heads ∙ ap (λ (ns : List ℕ). y ∷ ns) (rising_from (x + 1) (y + 1) xs ys up.1 on.1 tails)
  where
    between : (x < y → ⊥) → (y < x → ⊥) → x ≡ y
    between up down = grind (arith, up, down)

    tail : (c : ℕ) → x ≡ y → (b : Bool) → (x == c) ≡ b → is_among xs c ≡ is_among ys c
    tail c heads true e =
        let at : x ≡ c = eqb-true x c e in
        none_below (x + 1) c xs up.1 (omega arith) ∙ sym (none_below (y + 1) c ys on.1 (omega arith))
    tail c heads false e =
        let other : (y == c) ≡ false = subst (λ (n : ℕ). (n == c) ≡ false) heads e in
        let both = same c in
        rw (e, other) at both

pub rising_same : (xs ys : List ℕ) → IsStrictlyIncreasing xs → IsStrictlyIncreasing ys → ((c : ℕ) → is_among xs c ≡ is_among ys c) → xs ≡ ys
rising_same xs ys up on same = rising_from 0 0 xs ys (rise_all xs up) (rise_all ys on) same

-- ---- what goes

-- what a receiver gives is among what all give
mapped_from : (h : ℕ → Option ℕ) (rs : List ℕ) (r m : ℕ) → is_among rs r ≡ true → h r ≡ Some m → is_among (filter_map h rs) m ≡ true
mapped_from h [] r m e gives = absurd cc
mapped_from h (x ∷ rs) r m e gives = ⊎_elim
    (λ here. head (h x) (subst (λ (n : ℕ). h n ≡ Some m) (sym (eqb-true x r here)) gives))
    (λ later. put (h x) (mapped_from h rs r m later gives))
    (or_cases (x == r) (is_among rs r) e)
  where
    head : (o : Option ℕ) → o ≡ Some m → is_among (cons_option o (filter_map h rs)) m ≡ true
    head None e = absurd cc
    head (Some n) e = let same : n ≡ m = cc in rw (eq-eqb n m same) refl

    put : (o : Option ℕ) → is_among (filter_map h rs) m ≡ true → is_among (cons_option o (filter_map h rs)) m ≡ true
    put None e = e
    put (Some n) e = or_right (n == m) _ e

-- and what is among what all give is given by one of them
mapped_of : (h : ℕ → Option ℕ) (rs : List ℕ) (m : ℕ) → is_among (filter_map h rs) m ≡ true → (r : ℕ) × (is_among rs r ≡ true) × (h r ≡ Some m)
mapped_of h [] m e = absurd cc
mapped_of h (x ∷ rs) m e = go (h x) refl e (mapped_of h rs m)
  where
    later : (r : ℕ) × (is_among rs r ≡ true) × (h r ≡ Some m) → (r : ℕ) × (is_among (x ∷ rs) r ≡ true) × (h r ≡ Some m)
    later found = (found.0, or_right (x == found.0) _ found.1, found.2)

    go : (o : Option ℕ) → h x ≡ o → is_among (cons_option o (filter_map h rs)) m ≡ true → (is_among (filter_map h rs) m ≡ true → (r : ℕ) × (is_among rs r ≡ true) × (h r ≡ Some m)) → (r : ℕ) × (is_among (x ∷ rs) r ≡ true) × (h r ≡ Some m)
    go None f e ih = later (ih e)
    go (Some n) f e ih = ⊎_elim
        (λ here. (x, head_among x rs, f ∙ ap Some (eqb-true n m here)))
        (λ rest. later (ih rest))
        (or_cases (n == m) (is_among (filter_map h rs) m) e)

pub found_number : (rows : List MountRow) (m : ℕ) (row : MountRow) → mount_row rows m ≡ Some row → row.mount ≡ m
found_number [] m row e = absurd cc
found_number (r ∷ rows) m row e = go (r.mount == m) refl e (found_number rows m row)
  where
    go : (b : Bool) → (r.mount == m) ≡ b → cond b (Some r) (mount_row rows m) ≡ Some row → (mount_row rows m ≡ Some row → row.mount ≡ m) → row.mount ≡ m
    go true f e ih = let same : r ≡ row = cc in ap (λ (x : MountRow). x.mount) (sym same) ∙ eqb-true r.mount m f
    go false f e ih = ih e

module _ (t : MountTable) (whole : IsWhole t) (m : ℕ) (position : Position) where
  abbrev Goes : MountRow → Type 0
  Goes row = goes_with t m (Some position) row ≡ true

  abbrev pub rs : List ℕ
  rs = receivers_of t.groups position.mount

  abbrev pub going : List ℕ
  going = m ∷ filter_map (bare_top t position.place) rs

  bare_of : (o : Option ℕ) (c : ℕ) → if_bare t o ≡ Some c → (o ≡ Some c) × (is_bare t c ≡ true)
  bare_of None c e = absurd cc
  bare_of (Some n) c e = go (is_bare t n) refl e
    where
      go : (b : Bool) → is_bare t n ≡ b → cond b (Some n) None ≡ Some c → (Some n ≡ Some c) × (is_bare t c ≡ true)
      go true f e = (e, let same : n ≡ c = cc in subst (λ (x : ℕ). is_bare t x ≡ true) same f)
      go false f e = absurd cc

  itself_goes : mountpoint_of t m ≡ Some position → HasRow Goes t.rows m
  itself_goes at = go (mount_row t.rows m) refl at
    where
      go : (o : Option MountRow) → mount_row t.rows m ≡ o → mountpoint_in o ≡ Some position → HasRow Goes t.rows m
      go None e at = absurd cc
      go (Some row) e at = (row, e, rw (eq-eqb row.mount m (found_number t.rows m row e)) refl)

  -- the top at the place of a receiver goes, where nothing is mounted on it
  row_goes : (r c : ℕ) (row : MountRow) → is_among rs r ≡ true → top_of t.rows r position.place ≡ Some c → is_bare t c ≡ true → row.mount ≡ c → IsAt r position.place row → Goes row
  row_goes r c row among top bare number at =
      let just : is_just row.mount (top_of t.rows r position.place) ≡ true = ap (is_just row.mount) top ∙ eq-eqb c row.mount (sym number) in
      let on : is_top_at t rs position.place row.mount row.mountpoint ≡ true =
      ap (is_top_at t rs position.place row.mount) at ∙
      and_from (is_among rs r) (is_just row.mount (top_of t.rows r position.place)) among just in
      let free : is_bare t row.mount ≡ true = ap (is_bare t) number ∙ bare in
      or_right (row.mount == m) _ (and_from (is_top_at t rs position.place row.mount row.mountpoint) (is_bare t row.mount) on free)

  top_goes : (r c : ℕ) → is_among rs r ≡ true → bare_top t position.place r ≡ Some c → HasRow Goes t.rows c
  top_goes r c among gives =
      let bare = bare_of (top_of t.rows r position.place) c gives in
      let top : IsTop t.rows r position.place c = subst (IsTopOf t.rows r position.place) bare.0 (top_is t.rows whole.rising r position.place) in
      let row = top.is_there.0 in
      (row, top.is_there.1, row_goes r c row among bare.0 bare.1 (found_number t.rows c row top.is_there.1) top.is_there.2)

  copy_among : (c : ℕ) (row : MountRow) (o : Option Position) → row.mount ≡ c → is_top_at t rs position.place row.mount o ≡ true → is_bare t row.mount ≡ true → is_among (filter_map (bare_top t position.place) rs) c ≡ true
  copy_among c row None number on free = absurd cc
  copy_among c row (Some q) number on free =
      let parts = and_parts (is_among rs q.mount) (is_just row.mount (top_of t.rows q.mount position.place)) on in
      let top : top_of t.rows q.mount position.place ≡ Some row.mount = just_same row.mount (top_of t.rows q.mount position.place) parts.1 in
      let gives : bare_top t position.place q.mount ≡ Some row.mount = rw (top, free) refl in
      mapped_from (bare_top t position.place) rs q.mount c parts.0 (gives ∙ ap Some number)

  goes_among : (c : ℕ) → HasRow Goes t.rows c → is_among going c ≡ true
  goes_among c h =
      let row = h.0 in
      let number : row.mount ≡ c = found_number t.rows c row h.1 in
      ⊎_elim
      (λ same. let is : m ≡ c = sym (eqb-true row.mount m same) ∙ number in rw (eq-eqb m c is) refl)
      (λ copy.
      let parts = and_parts (is_top_at t rs position.place row.mount row.mountpoint) (is_bare t row.mount) copy in
      or_right (m == c) _ (copy_among c row row.mountpoint number parts.0 parts.1))
      (or_cases (row.mount == m) _ h.2)

  among_goes : mountpoint_of t m ≡ Some position → (c : ℕ) → is_among going c ≡ true → HasRow Goes t.rows c
  among_goes at c e = ⊎_elim
      (λ here. subst (HasRow Goes t.rows) (eqb-true m c here) (itself_goes at))
      (λ copy. let found = mapped_of (bare_top t position.place) rs c copy in top_goes found.0 c found.1 found.2)
      (or_cases (m == c) _ e)

  -- the rows that go are those of the mount and of the bare tops
  pub goes_is : mountpoint_of t m ≡ Some position → (c : ℕ) → is_among (mounts_where (goes_with t m (Some position)) t.rows) c ≡ is_among going c
  goes_is at c =
      let every = where_every (goes_with t m (Some position)) Goes (λ row. (λ e. e, λ e. e)) t.rows whole.rising c in
      same_test _ _
      (λ h. goes_among c (every.0 (among_contains c (mounts_where (goes_with t m (Some position)) t.rows) h)))
      (λ h. among_from c (mounts_where (goes_with t m (Some position)) t.rows) (every.1 (among_goes at c h)))

  pub goes_rise : IsStrictlyIncreasing (mounts_where (goes_with t m (Some position)) t.rows)
  goes_rise = where_rises (goes_with t m (Some position)) t.rows whole.rising
