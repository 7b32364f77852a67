-- The mounts whose home is one of some peer groups, and the groups that are met to find them.
use Rattle.std.proofs.Common.{◌≡◌, ◌+◌, ℕ, zero, suc, Bool, true, false, cond, ◌&&◌, List, [], ◌∷◌, get_or, Option, Some, None, refl, sym, ap, ◌∙◌, arith}
use Rattle.std.specs.Prelude.{◌==◌, filter, flat_map, is_none, is_some, not}
use Rattle.std.specs.Option.{option_or}
use Rattle.std.specs.List.Sorted.{IsNonDecreasing, IsPermutation, IsStrictlyIncreasing}
use Rattle.std.proofs.lemmas.List.Kept.{IsNonDecreasingBy-filter, AllPairs-from_increasing}
use Rattle.am_names.specs.{MemberRow, GroupRow}
use Rattle.am_names.specs.PeerGroups.{PeerGroups}
use Rattle.am_index.proofs.RowLemmas.{number_found}
use Rattle.am_group.specs.{AreMet, IsOrderly, count, group_in, group_of, group_row, groups_under, has_master, home_in, homed_at, is_at_or_under, is_in, is_just, is_one_of, member_row, mounts_where, under_these}
use Rattle.am_group.proofs.CountLemmas.{count-append, count-filter, count_among, count_permuted, numbered_counted, same_counts, tally}
use Rattle.am_group.proofs.IndexedLemmas.{where_rises}

-- numbers that rise don't fall
pub never_falls : (xs : List ℕ) → IsStrictlyIncreasing xs → IsNonDecreasing xs
never_falls xs up = λ i j d le within.
    let less = AllPairs-from_increasing xs up i j d in
    grind (arith, less, λ (same : i ≡ j). ap (λ (k : ℕ). get_or xs k d) same)

-- the groups met, in rising order, are those under the first
pub met_sorted :
    (s : PeerGroups) → IsOrderly s → (own : ℕ) (met sorted : List ℕ) → AreMet s own met → IsPermutation met sorted →
    IsNonDecreasing sorted → ((g : ℕ) → is_at_or_under s own g ≡ true → is_some (group_row s.groups g) ≡ true) →
    sorted ≡ groups_under s own
met_sorted s orderly own met sorted are moves ordered stands =
    same_counts sorted (groups_under s own) ordered
    (never_falls (groups_under s own) (where_rises (λ (row : GroupRow). row.group) test s.groups orderly.groups_rising))
    (λ g.
    count_permuted g met sorted moves ∙ are g ∙
    go g (is_at_or_under s own g) refl (group_row s.groups g) refl ∙
    sym (numbered_counted (λ (row : GroupRow). row.group) test g 0 s.groups orderly.groups_rising))
  where
    test : GroupRow → Bool
    test row = is_at_or_under s own row.group

    go :
        (g : ℕ) (b : Bool) → is_at_or_under s own g ≡ b → (o : Option GroupRow) → group_row s.groups g ≡ o →
        cond b 1 0 ≡ tally test o
    go g true e None f = let bad : false ≡ true = sym (ap is_some f) ∙ stands g e in absurd cc
    go g false e None f = refl
    go g b e (Some row) f =
        ap (λ (c : Bool). cond c 1 0) (sym e ∙ ap (is_at_or_under s own) (sym (group_found s.groups g row f)))
      where
        group_found : (rows : List GroupRow) (n : ℕ) (r : GroupRow) → group_row rows n ≡ Some r → r.group ≡ n
        group_found rows n r found = number_found (λ (x : GroupRow). x.group) rows n r found

-- how often the home of a mount is among some groups
abbrev home_count : Option ℕ → List ℕ → ℕ
home_count None groups = 0
home_count (Some h) groups = count h groups

module _ (s : PeerGroups) (orderly : IsOrderly s) where
  -- a mount is listed once at its home
  homed_counted :
      (g c : ℕ) → count c (homed_at s g) ≡ tally (λ row. is_just g (home_in row)) (member_row s.members c)
  homed_counted g c =
      count-append c (mounts_where (is_in g) s.members) (filter (λ m. is_none (group_of s m)) (mounts_where (has_master g) s.members)) ∙
      ap (λ (n : ℕ). n + count c (filter (λ m. is_none (group_of s m)) (mounts_where (has_master g) s.members)))
      (numbered_counted (λ (row : MemberRow). row.mount) (is_in g) c 0 s.members orderly.rising) ∙
      ap (λ (n : ℕ). tally (is_in g) (member_row s.members c) + n)
      (count-filter (λ m. is_none (group_of s m)) c (mounts_where (has_master g) s.members) ∙
      ap (λ (n : ℕ). cond (is_none (group_of s c)) n 0)
      (numbered_counted (λ (row : MemberRow). row.mount) (has_master g) c 0 s.members orderly.rising)) ∙
      go (member_row s.members c)
    where
      by_group :
          (o m : Option ℕ) →
          cond (is_just g o) 1 0 + cond (is_none o) (cond (is_just g m) 1 0) 0 ≡ cond (is_just g (option_or o m)) 1 0
      by_group None m = omega arith
      by_group (Some h) m = omega arith

      go :
          (o : Option MemberRow) →
          tally (is_in g) o + cond (is_none (group_in o)) (tally (has_master g) o) 0 ≡
          tally (λ row. is_just g (home_in row)) o
      go None = refl
      go (Some row) = by_group row.group row.master

  abbrev home_at : Option MemberRow → Option ℕ
  home_at None = None
  home_at (Some row) = home_in row

  homes_counted :
      (c : ℕ) (groups : List ℕ) →
      count c (flat_map (homed_at s) groups) ≡ home_count (home_at (member_row s.members c)) groups
  homes_counted c [] = none (home_at (member_row s.members c))
    where
      none : (o : Option ℕ) → 0 ≡ home_count o []
      none None = refl
      none (Some h) = refl
  homes_counted c (g ∷ groups) =
      count-append c (homed_at s g) (flat_map (homed_at s) groups) ∙
      ap (λ (n : ℕ). n + count c (flat_map (homed_at s) groups)) (homed_counted g c) ∙
      ap (λ (n : ℕ). tally (λ row. is_just g (home_in row)) (member_row s.members c) + n) (homes_counted c groups) ∙
      go (member_row s.members c)
    where
      by_home : (o : Option ℕ) → cond (is_just g o) 1 0 + home_count o groups ≡ home_count o (g ∷ groups)
      by_home None = refl
      by_home (Some h) = either (h == g)
        where
          either : (b : Bool) → cond b 1 0 + count h groups ≡ cond b (suc (count h groups)) (count h groups)
          either true = omega arith
          either false = omega arith

      go :
          (o : Option MemberRow) →
          tally (λ row. is_just g (home_in row)) o + home_count (home_at o) groups ≡ home_count (home_at o) (g ∷ groups)
      go None = refl
      go (Some row) = by_home (home_in row)

  -- so the others among them, in rising order, are those whose home is one of the groups
  pub homes_sorted :
      (mount : ℕ) (groups sorted : List ℕ) → IsStrictlyIncreasing groups →
      IsPermutation (flat_map (homed_at s) groups) sorted → IsNonDecreasing sorted →
      filter (λ x. not (x == mount)) sorted ≡ under_these groups mount s.members
  homes_sorted mount groups sorted up moves ordered =
      same_counts (filter (λ x. not (x == mount)) sorted) (under_these groups mount s.members)
      (IsNonDecreasingBy-filter (λ (x : ℕ). x) (λ x. not (x == mount)) sorted ordered)
      (never_falls (under_these groups mount s.members) (where_rises (λ (row : MemberRow). row.mount) test s.members orderly.rising))
      (λ c.
      count-filter (λ x. not (x == mount)) c sorted ∙
      ap (λ (n : ℕ). cond (not (c == mount)) n 0) (count_permuted c (flat_map (homed_at s) groups) sorted moves ∙ homes_counted c groups) ∙
      go c (member_row s.members c) refl ∙
      sym (numbered_counted (λ (row : MemberRow). row.mount) test c 0 s.members orderly.rising))
    where
      test : MemberRow → Bool
      test row = not (row.mount == mount) && is_one_of groups (home_in row)

      by_home : (a : Bool) (o : Option ℕ) → cond a (home_count o groups) 0 ≡ cond (a && is_one_of groups o) 1 0
      by_home true None = refl
      by_home true (Some h) = count_among groups up h
      by_home false o = refl

      go :
          (c : ℕ) (o : Option MemberRow) → member_row s.members c ≡ o →
          cond (not (c == mount)) (home_count (home_at o) groups) 0 ≡ tally test o
      go c None e = none (not (c == mount))
        where
          none : (b : Bool) → cond b zero zero ≡ zero
          none true = refl
          none false = refl
      go c (Some row) e =
          by_home (not (c == mount)) (home_in row) ∙
          ap (λ (m : ℕ). cond (not (m == mount) && is_one_of groups (home_in row)) 1 0) (sym (number_found (λ (x : MemberRow). x.mount) s.members c row e))

-- the groups under one rise
pub under_rises : (s : PeerGroups) → IsOrderly s → (own : ℕ) → IsStrictlyIncreasing (groups_under s own)
under_rises s orderly own =
    where_rises (λ (row : GroupRow). row.group) (λ row. is_at_or_under s own row.group) s.groups orderly.groups_rising
