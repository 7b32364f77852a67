-- What is lower or higher than all of some numbers, which stand in order, isn't among them.
use Rattle.std.proofs.Common.{◌≡◌, ◌≢◌, ◌≤◌, ◌<◌, ◌-◌, ℕ, suc, Bool, true, false, cond, List, [], ◌∷◌, length, get_or, Some, refl, sym, arith}
use Rattle.std.specs.Prelude.{◌==◌, nat_lt}
use Rattle.std.specs.Bool.{OnTrue}
use Rattle.std.specs.List.{slice_get}
use Rattle.std.specs.List.Sorted.{IsNonDecreasing}
use Rattle.std.specs.declared.cmp.Ordering.TheVariants.{Less, Equal, Greater}
use Rattle.std.specs.Ordering.{nat_cmp, is_lt}
use Rattle.std.proofs.lemmas.Bool.{ne_eqb}
use Rattle.std.proofs.lemmas.Bool.Decides.{nat_tests}
use Rattle.std.proofs.lemmas.Option.{get_or_from_slice_get}
use Rattle.am_names.specs.{is_among}

none_among :
    (xs : List ℕ) (n d : ℕ) → ((k : ℕ) → k < length xs → get_or xs k d ≢ n) → is_among xs n ≡ false
none_among [] n d others = refl
none_among (x ∷ xs) n d others =
    rw (ne_eqb x n (others 0 (omega arith)))
    (none_among xs n d (λ k within. others (suc k) (omega arith)))

less_by_test : (m n : ℕ) → is_lt (nat_cmp m n) ≡ true → m < n
less_by_test m n e = go (nat_lt m n) (m == n) refl e
  where
    go : (a b : Bool) → nat_lt m n ≡ a → is_lt (cond a Less (cond b Equal Greater)) ≡ true → m < n
    go true b t e = grind (arith, nat_tests)
    go false true t e = absurd cc
    go false false t e = absurd cc

pub none_below_first :
    (xs : List ℕ) (n first : ℕ) → IsNonDecreasing xs → slice_get xs 0 ≡ Some first →
    is_lt (nat_cmp n first) ≡ true → is_among xs n ≡ false
none_below_first xs n first up there test =
    let less : n < first = less_by_test n first test in
    let own : get_or xs 0 first ≡ first = get_or_from_slice_get xs 0 first first there in
    none_among xs n first (λ k within same.
    let lowest : get_or xs 0 first ≤ get_or xs k first = up 0 k first (omega arith) within in
    omega arith)

pub none_above_last :
    (xs : List ℕ) (n last : ℕ) → IsNonDecreasing xs → slice_get xs (length xs - 1) ≡ Some last →
    (b : Bool) → b ≡ is_lt (nat_cmp last n) → OnTrue b (is_among xs n ≡ false)
none_above_last xs n last up there false test = tt
none_above_last xs n last up there true test =
    let less : last < n = less_by_test last n (sym test) in
    let own : get_or xs (length xs - 1) last ≡ last = get_or_from_slice_get xs (length xs - 1) last last there in
    none_among xs n last (λ k within same.
    let highest : get_or xs k last ≤ get_or xs (length xs - 1) last = up k (length xs - 1) last (omega arith) (omega arith) in
    omega arith)
