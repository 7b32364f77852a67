-- The paths by their buckets.
use Rattle.std.proofs.Common.{◌≡◌, ◌≤◌, ◌<◌, ◌+◌, ℕ, Bool, true, false, cond, ◌==◌, ◌||◌, List, [], ◌∷◌, length, Some, None, refl, sym, ap, subst, ◌∙◌, arith}
use Rattle.std.specs.Prelude.{nat_eq}
use Rattle.std.specs.List.{list_any, AllByRecursion, IsDistinct}
use Rattle.std.specs.Map.{lookup, keys_of}
use Rattle.std.proofs.lemmas.Bool.Decides.{nat_tests, Decides-eqb}
use Rattle.am_names.specs.{same_names}
use Rattle.am_names.proofs.PathLemmas.{same_names-Decides}
use Rattle.am_ordered.specs.{insert_entry, shift_remove_entry}
use Rattle.am_daemon.specs.Known.{bucket_of, in_bucket, counted, CountsOneMore, AreCounts}

abbrev Pairs : Type 0
Pairs = List (ℕ × List (List ℕ))

-- 1 where the path is in the bucket
abbrev one_in : List (List ℕ) → ℕ → ℕ
one_in path b = cond (bucket_of path == b) 1 0

in_turn : (n k l m : ℕ) → n ≡ k + l → n + m ≡ (k + m) + l
in_turn n k l m e = omega (arith, e)

-- ---- one that goes

-- the path of the file system is one of those in its bucket
one_gone :
    (fs : ℕ) (path : List (List ℕ)) (pairs : Pairs) → lookup (nat_eq fs) pairs ≡ Some path → (b : ℕ) →
    in_bucket pairs b ≡ in_bucket (shift_remove_entry (nat_eq fs) pairs) b + one_in path b
one_gone fs path [] found b = absurd cc
one_gone fs path (pair ∷ pairs) found b = by (nat_eq fs pair.0) found (λ f. one_gone fs path pairs f b)
  where
    left : Pairs
    left = shift_remove_entry (nat_eq fs) pairs

    by :
        (t : Bool) → cond t (Some pair.1) (lookup (nat_eq fs) pairs) ≡ Some path →
        (lookup (nat_eq fs) pairs ≡ Some path → in_bucket pairs b ≡ in_bucket left b + one_in path b) →
        in_bucket pairs b + one_in pair.1 b ≡ in_bucket (cond t pairs (pair ∷ left)) b + one_in path b
    by true f later =
        let is : pair.1 ≡ path = cc in
        ap (λ (p : List (List ℕ)). in_bucket pairs b + one_in p b) is
    by false f later = in_turn _ _ _ (one_in pair.1 b) (later f)

-- where the file system has no path none goes
pub none_gone :
    (fs : ℕ) (pairs : Pairs) → lookup (nat_eq fs) pairs ≡ None →
    shift_remove_entry (nat_eq fs) pairs ≡ pairs
none_gone fs [] none = refl
none_gone fs (pair ∷ pairs) none = by (nat_eq fs pair.0) none (none_gone fs pairs)
  where
    left : Pairs
    left = shift_remove_entry (nat_eq fs) pairs

    by :
        (t : Bool) → cond t (Some pair.1) (lookup (nat_eq fs) pairs) ≡ None →
        (lookup (nat_eq fs) pairs ≡ None → left ≡ pairs) → cond t pairs (pair ∷ left) ≡ pair ∷ pairs
    by true none later = absurd cc
    by false none later = ap (λ (ps : Pairs). pair ∷ ps) (later none)

none_among :
    (fs : ℕ) (pairs : Pairs) → AllByRecursion (λ key. nat_eq fs key ≡ false) (keys_of pairs) →
    lookup (nat_eq fs) pairs ≡ None
none_among fs [] all = refl
none_among fs (pair ∷ pairs) all = rw all.0 (none_among fs pairs all.1)

-- the file system has no path then
pub gone_for_good :
    (fs : ℕ) (pairs : Pairs) → IsDistinct nat_eq (keys_of pairs) →
    lookup (nat_eq fs) (shift_remove_entry (nat_eq fs) pairs) ≡ None
unfolding IsDistinct
gone_for_good fs [] distinct = refl
gone_for_good fs (pair ∷ pairs) distinct = by (nat_eq fs pair.0) refl (gone_for_good fs pairs distinct.1)
  where
    left : Pairs
    left = shift_remove_entry (nat_eq fs) pairs

    by :
        (t : Bool) → nat_eq fs pair.0 ≡ t → lookup (nat_eq fs) left ≡ None →
        lookup (nat_eq fs) (cond t pairs (pair ∷ left)) ≡ None
    by true is later =
        let same : pair.0 ≡ fs = grind (arith, nat_tests, is) in
        none_among fs pairs
        (subst (λ (n : ℕ). AllByRecursion (λ key. nat_eq n key ≡ false) (keys_of pairs)) same distinct.0)
    by false is later = rw is later

-- the same number less leaves the same
less_the_same : (a b c d k : ℕ) → a ≡ b → a ≡ c + k → b ≡ d + k → c ≡ d
less_the_same a b c d k e f g = omega (arith, e, f, g)

pub counts_gone :
    (fs : ℕ) (path : List (List ℕ)) (pairs : Pairs) (old new : List (ℕ × ℕ)) →
    lookup (nat_eq fs) pairs ≡ Some path → AreCounts old pairs →
    CountsOneMore (bucket_of path) new old → AreCounts new (shift_remove_entry (nat_eq fs) pairs)
counts_gone fs path pairs old new found agree down b =
    less_the_same (counted old b) (in_bucket pairs b) _ _ (one_in path b) (agree b) (down b)
    (one_gone fs path pairs found b)

positive_where_one_more : (n k l : ℕ) → n ≡ k + l → l ≡ 1 → 0 < n
positive_where_one_more n k l e f = omega (arith, e, f)

-- a path that is there is counted
pub counted_there :
    (fs : ℕ) (path : List (List ℕ)) (pairs : Pairs) (counts : List (ℕ × ℕ)) →
    lookup (nat_eq fs) pairs ≡ Some path → AreCounts counts pairs → 0 < counted counts (bucket_of path)
counted_there fs path pairs counts found agree =
    let b = bucket_of path in
    positive_where_one_more _ _ (one_in path b) (agree b ∙ one_gone fs path pairs found b)
    (ap (λ (t : Bool). cond t 1 0) ((Decides-eqb b b).1 refl))

-- ---- one that comes

one_come :
    (fs : ℕ) (path : List (List ℕ)) (pairs : Pairs) → lookup (nat_eq fs) pairs ≡ None → (b : ℕ) →
    in_bucket (insert_entry nat_eq pairs fs path) b ≡ in_bucket pairs b + one_in path b
one_come fs path [] none b = refl
one_come fs path (pair ∷ pairs) none b = by (nat_eq fs pair.0) none (λ f. one_come fs path pairs f b)
  where
    more : Pairs
    more = insert_entry nat_eq pairs fs path

    by :
        (t : Bool) → cond t (Some pair.1) (lookup (nat_eq fs) pairs) ≡ None →
        (lookup (nat_eq fs) pairs ≡ None → in_bucket more b ≡ in_bucket pairs b + one_in path b) →
        in_bucket (cond t ((pair.0, path) ∷ pairs) (pair ∷ more)) b ≡
        (in_bucket pairs b + one_in pair.1 b) + one_in path b
    by true none later = absurd cc
    by false none later = in_turn _ _ _ (one_in pair.1 b) (later none)

pub counts_come :
    (fs : ℕ) (path : List (List ℕ)) (pairs : Pairs) (old new : List (ℕ × ℕ)) →
    lookup (nat_eq fs) pairs ≡ None → AreCounts old pairs →
    CountsOneMore (bucket_of path) old new → AreCounts new (insert_entry nat_eq pairs fs path)
counts_come fs path pairs old new none agree up b =
    up b ∙ ap (λ (n : ℕ). n + one_in path b) (agree b) ∙ sym (one_come fs path pairs none b)

at_most_one : (t : Bool) → cond t 1 0 ≤ 1
at_most_one true = omega arith
at_most_one false = omega arith

-- no more are counted than there are
pub no_more_than_all : (pairs : Pairs) (b : ℕ) → in_bucket pairs b ≤ length pairs
no_more_than_all [] b = omega arith
no_more_than_all (pair ∷ pairs) b =
    let later = no_more_than_all pairs b in
    let one = at_most_one (bucket_of pair.1 == b) in
    omega (arith, later, one)

-- ---- a path that is looked for

-- a path whose bucket is empty is not there
pub none_in_bucket :
    (path : List (List ℕ)) (pairs : Pairs) → in_bucket pairs (bucket_of path) ≡ 0 →
    list_any (λ row. same_names row.1 path) pairs ≡ false
none_in_bucket path [] none = refl
none_in_bucket path (pair ∷ pairs) none =
    by (same_names pair.1 path) refl (none_in_bucket path pairs (omega (arith, none)))
  where
    others : Bool
    others = list_any (λ (row : ℕ × List (List ℕ)). same_names row.1 path) pairs

    its : same_names pair.1 path ≡ true → one_in pair.1 (bucket_of path) ≡ 1
    its same =
        let is : bucket_of pair.1 ≡ bucket_of path = ap bucket_of ((same_names-Decides pair.1 path).0 same) in
        ap (λ (t : Bool). cond t 1 0) ((Decides-eqb (bucket_of pair.1) (bucket_of path)).1 is)

    by : (t : Bool) → same_names pair.1 path ≡ t → others ≡ false → (t || others) ≡ false
    by true same later = let one = its same in absurd (omega (arith, none, one))
    by false same later = later
