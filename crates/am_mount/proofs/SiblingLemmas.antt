-- What the children of a parent, side by side, are left with.
use Rattle.std.proofs.Common.{◌≡◌, ◌≤◌, ◌<◌, ◌+◌, ◌-◌, ℕ, suc, Bool, true, false, cond, nat_eq, List, [], ◌∷◌, ◌++◌, Contains, length, take, drop, get_or, slice_get, Option, Some, None, option_map, Ok, Err, refl, sym, ap, subst, ◌∙◌, arith, eq-eqb, true≢false}
use Rattle.std.specs.Prelude.{◌==◌, ◌&&◌, filter, not, if◌then◌else◌}
use Rattle.std.specs.List.Sorted.{IsBinarySearchResult, IsNonDecreasingBy, IsStrictlyIncreasing}
use Rattle.std.specs.Ordering.{nat_cmp, ordering_index}
use Rattle.std.proofs.lemmas.Option.{slice_get_within, get_or_from_slice_get}
use Rattle.std.proofs.lemmas.Bool.Decides.{nat_tests}
use Rattle.std.proofs.lemmas.Cmp.{ranked}
use Rattle.std.proofs.lemmas.List.{get_or-map, length-map, map-append, take_more}
use Rattle.std.proofs.lemmas.List.Elements.{Contains-get_or, filter-append}
use Rattle.std.proofs.lemmas.List.Kept.{AllPairs-from_increasing}
use Rattle.am_names.proofs.LeaveLemmas.{Rise, others_at, others_none}
use Rattle.am_mount.specs.{but, last_of}
use Rattle.am_mount.specs.declared.siblings.Child.{Child}
use Rattle.am_mount.specs.Siblings.{but_child, is_placed, mounts_of, placed_of}
use Rattle.am_mount.proofs.IndexLemmas.{filter_snoc}
use Rattle.am_mount.proofs.RowLemmas.{last_of_append}
use Rattle.am_mount.proofs.TakeLemmas.{but_absent}

-- one child more
module _ (cs : List Child) (c : Child) where
  pub mounts_push : mounts_of (cs ++ c ∷ []) ≡ mounts_of cs ++ c.mount ∷ []
  mounts_push = map-append (λ (d : Child). d.mount) cs (c ∷ [])

  pub placed_push :
      (b : ℕ) →
      placed_of (cs ++ c ∷ []) b ≡
      (if nat_eq c.bucket b then placed_of cs b ++ c.mount ∷ [] else placed_of cs b)
  placed_push b =
      ap mounts_of (filter-append (is_placed b) cs (c ∷ [])) ∙
      map-append (λ (d : Child). d.mount) (filter (is_placed b) cs)
      (cond (c.bucket == b) (c ∷ []) []) ∙
      go (nat_eq c.bucket b)
    where
      go :
          (t : Bool) →
          placed_of cs b ++ mounts_of (cond t (c ∷ []) []) ≡
          cond t (placed_of cs b ++ c.mount ∷ []) (placed_of cs b)
      go true = refl
      go false = append_none (placed_of cs b)
        where
          append_none : (xs : List ℕ) → xs ++ [] ≡ xs
          append_none [] = refl
          append_none (x ∷ xs) = ap (λ (ys : List ℕ). x ∷ ys) (append_none xs)

-- one child less
pub mounts_but : (m : ℕ) (cs : List Child) → mounts_of (but_child m cs) ≡ but m (mounts_of cs)
mounts_but m [] = refl
mounts_but m (c ∷ cs) = go (c.mount == m) (mounts_but m cs)
  where
    go :
        (t : Bool) → mounts_of (but_child m cs) ≡ but m (mounts_of cs) →
        mounts_of (cond (not t) (c ∷ but_child m cs) (but_child m cs)) ≡
        cond (not t) (c.mount ∷ but m (mounts_of cs)) (but m (mounts_of cs))
    go true ih = ih
    go false ih = ap (λ (xs : List ℕ). c.mount ∷ xs) ih

pub placed_but :
    (m b : ℕ) (cs : List Child) → placed_of (but_child m cs) b ≡ but m (placed_of cs b)
placed_but m b [] = refl
placed_but m b (c ∷ cs) = go (c.mount == m) refl (c.bucket == b) refl (placed_but m b cs)
  where
    go :
        (s : Bool) → (c.mount == m) ≡ s → (t : Bool) → (c.bucket == b) ≡ t →
        placed_of (but_child m cs) b ≡ but m (placed_of cs b) →
        placed_of (cond (not s) (c ∷ but_child m cs) (but_child m cs)) b ≡
        but m (mounts_of (cond t (c ∷ filter (is_placed b) cs) (filter (is_placed b) cs)))
    go true own true here ih =
        ih ∙ sym (ap (λ (t : Bool). cond (not t) (c.mount ∷ but m (placed_of cs b)) (but m (placed_of cs b))) own)
    go true own false here ih = ih
    go false own true here ih =
        ap (λ (t : Bool). mounts_of (cond t (c ∷ filter (is_placed b) (but_child m cs)) (filter (is_placed b) (but_child m cs)))) here ∙
        ap (λ (xs : List ℕ). c.mount ∷ xs) ih ∙
        sym (ap (λ (t : Bool). cond (not t) (c.mount ∷ but m (placed_of cs b)) (but m (placed_of cs b))) own)
    go false own false here ih =
        ap (λ (t : Bool). mounts_of (cond t (c ∷ filter (is_placed b) (but_child m cs)) (filter (is_placed b) (but_child m cs)))) here ∙
        ih

-- a mount that is at places of one bucket is left out there, and nowhere else
pub placed_but_one :
    (b m : ℕ) (cs : List Child) → ((c : ℕ) → Contains (placed_of cs c) m → c ≡ b) → (c : ℕ) →
    placed_of (but_child m cs) c ≡ (if nat_eq b c then but m (placed_of cs c) else placed_of cs c)
placed_but_one b m cs nowhere_else c = placed_but m c cs ∙ go (nat_eq b c) refl
  where
    go :
        (t : Bool) → nat_eq b c ≡ t →
        but m (placed_of cs c) ≡ cond t (but m (placed_of cs c)) (placed_of cs c)
    go true here = refl
    go false elsewhere =
        but_absent m (placed_of cs c)
        (λ k within same.
        let has : Contains (placed_of cs c) m =
        subst (Contains (placed_of cs c)) same (Contains-get_or (placed_of cs c) k 0 within) in
        absurd (true≢false (sym (eq-eqb b c (sym (nowhere_else c has))) ∙ elsewhere)))

-- a child of some
a_child : (i : ℕ) (cs : List Child) → i < length cs → Child
a_child i [] less = absurd (grind (arith, less))
a_child i (c ∷ cs) less = c

-- what a search by halves finds in mounts that rise
module _ (m : ℕ) (cs : List Child) (up : IsStrictlyIncreasing (mounts_of cs)) where
  number_at :
      (i : ℕ) (d : Child) → i < length cs → get_or (mounts_of cs) i 0 ≡ (get_or cs i d).mount
  number_at i d within = get_or-map (λ (c : Child). c.mount) cs i d 0 within

  many : length (mounts_of cs) ≡ length cs
  many = length-map cs (λ (c : Child). c.mount)

  rise : Rise (λ (c : Child). c.mount) cs
  rise i j d less within =
      let up : get_or (mounts_of cs) i 0 < get_or (mounts_of cs) j 0 =
      AllPairs-from_increasing (mounts_of cs) up i j 0 less (grind (arith, many, within)) in
      let first = number_at i d (omega arith) in
      let second = number_at j d within in
      grind (arith, up, first, second)

  comparisons_rise :
      IsNonDecreasingBy (λ (c : Child). ordering_index (nat_cmp c.mount m)) cs
  comparisons_rise i j d le within =
      let up = rise i j d in
      grind (arith, nat_tests, up, λ (same : i ≡ j). ap (λ (k : ℕ). (get_or cs k d).mount) same)

  -- the child that stands at this index
  child_at :
      (i : ℕ) (d : Child) → i < length cs → (get_or cs i d).mount ≡ m →
      take i cs ++ drop (suc i) cs ≡ but_child m cs
  child_at i d within stands = sym (others_at (λ (c : Child). c.mount) cs rise i m d within stands)

  -- the child that stands last
  pub child_newest :
      option_map (λ (c : Child). c.mount) (slice_get cs (length cs - 1)) ≡ Some m →
      (length cs - 1 < length cs) × (take (length cs - 1) cs ++ drop (suc (length cs - 1)) cs ≡ but_child m cs)
  child_newest newest = go (slice_get cs (length cs - 1)) refl newest
    where
      go :
          (o : Option Child) → slice_get cs (length cs - 1) ≡ o →
          option_map (λ (c : Child). c.mount) o ≡ Some m →
          (length cs - 1 < length cs) × (take (length cs - 1) cs ++ drop (suc (length cs - 1)) cs ≡ but_child m cs)
      go None stands own = absurd cc
      go (Some c) stands own =
          let at = length cs - 1 in
          let within : at < length cs = slice_get_within cs at c stands in
          let mine : c.mount ≡ m = cc in (
            within,
            child_at at c within
                (ap (λ (d : Child). d.mount) (get_or_from_slice_get cs at c c stands) ∙ mine),
          )

  pub child_found :
      (i : ℕ) → i < length cs →
      IsBinarySearchResult (λ (c : Child). nat_cmp c.mount m) cs (Ok i) →
      take i cs ++ drop (suc i) cs ≡ but_child m cs
  child_found i within equal =
      let d : Child = a_child i cs within in child_at i d within (ranked _ m _ (sym (equal d)))

  pub child_unfound :
      (i : ℕ) → IsBinarySearchResult (λ (c : Child). nat_cmp c.mount m) cs (Err i) →
      but_child m cs ≡ cs
  child_unfound i parted =
      others_none (λ (c : Child). c.mount) cs m
      (λ k d within same.
      let before : k < i → (get_or cs k d).mount < m =
      λ less. ranked _ m _ (sym ((parted comparisons_rise).0 k d (omega arith) less)) in
      let behind : i ≤ k → m < (get_or cs k d).mount =
      λ le. ranked _ m _ (sym ((parted comparisons_rise).1 k d le within)) in
      grind (arith, before, behind, same))

-- the last that passes of those at places of a bucket, one child more
pub last_placed :
    (f : ℕ → Bool) (b : ℕ) (cs : List Child) (i : ℕ) (c : Child) → i < length cs → c ≡ get_or cs i c →
    last_of (filter f (placed_of (take (i + 1) cs) b)) ≡
    cond ((c.bucket == b) && f c.mount) (Some c.mount) (last_of (filter f (placed_of (take i cs) b)))
last_placed f b cs i c within is =
    ap (λ (ds : List Child). last_of (filter f (placed_of ds b)))
    (take_more cs i c within ∙ ap (λ (d : Child). take i cs ++ d ∷ []) (sym is)) ∙
    ap (λ (xs : List ℕ). last_of (filter f xs)) (placed_push (take i cs) c b) ∙
    go (nat_eq c.bucket b)
  where
    xs : List ℕ
    xs = placed_of (take i cs) b

    go :
        (t : Bool) →
        last_of (filter f (cond t (xs ++ c.mount ∷ []) xs)) ≡
        cond (t && f c.mount) (Some c.mount) (last_of (filter f xs))
    go true = ap last_of (filter_snoc f xs c.mount) ∙ last_of_append (filter f xs) (f c.mount) c.mount
    go false = refl
