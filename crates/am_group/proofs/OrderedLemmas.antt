-- The peer groups that receivers are in, in order of number and each once.
use Rattle.std.proofs.Common.{◌≡◌, ℕ, Bool, true, false, cond, eqb, ◌||◌, ◌&&◌, List, [], ◌∷◌, get_or, Some, refl, sym, ap, ◌∙◌, arith}
use Rattle.std.specs.Prelude.{filter, not, is_some, ◌==◌}
use Rattle.std.specs.List.{Contains, dedup}
use Rattle.std.specs.List.Sorted.{IsNonDecreasing, IsStrictlyIncreasing}
use Rattle.std.proofs.lemmas.List.Kept.{AllPairs-from_increasing, Contains-dedup_nat, Contains-from_dedup, IsStrictlyIncreasing-filter}
use Rattle.am_names.proofs.Basics.{equal_either_way, same_test}
use Rattle.am_names.specs.{GroupRow, is_among}
use Rattle.am_names.specs.PeerGroups.{PeerGroups}
use Rattle.am_group.specs.{AreOfReceivers, IsOrderly, group_of, group_row, group_numbers, has_receiver, is_just, receiving_groups}
use Rattle.am_group.proofs.CountLemmas.{count_among, same_counts}
use Rattle.am_group.proofs.GoneLemmas.{among_kept}
use Rattle.am_group.proofs.ReceiverLemmas.{has_from_Contains, Contains_from_has}
use Rattle.am_group.proofs.ScanLemmas.{has, just_same}
use Rattle.am_group.proofs.UnderLemmas.{receiving_rise}

has_among : (x : ℕ) (xs : List ℕ) → has x xs ≡ is_among xs x
has_among x [] = refl
has_among x (y ∷ xs) =
    ap (λ (b : Bool). b || has x xs) (equal_either_way x y) ∙ ap (λ (b : Bool). (y == x) || b) (has_among x xs)

-- `dedup` keeps the numbers
pub dedup_among : (xs : List ℕ) (g : ℕ) → is_among (dedup eqb xs) g ≡ is_among xs g
dedup_among xs g = same_test _ _
    (λ h. from xs (Contains-from_dedup eqb xs g (to (dedup eqb xs) h)))
    (λ h. from (dedup eqb xs) (Contains-dedup_nat xs g (to xs h)))
  where
    from : (ys : List ℕ) → Contains ys g → is_among ys g ≡ true
    from ys h = sym (has_among g ys) ∙ has_from_Contains g ys h

    to : (ys : List ℕ) → is_among ys g ≡ true → Contains ys g
    to ys h = Contains_from_has g ys (has_among g ys ∙ h)

-- numbers that rise don't fall
pub not_falling : (xs : List ℕ) → IsStrictlyIncreasing xs → IsNonDecreasing xs
not_falling xs up i j d le within =
    let less = AllPairs-from_increasing xs up i j d in
    grind (arith, less, λ (same : i ≡ j). ap (λ (k : ℕ). get_or xs k d) same)

-- the peer group of a receiver has a row
receiver_named :
    (s : PeerGroups) → IsOrderly s → (receivers : List ℕ) (g : ℕ) → has_receiver s receivers g ≡ true →
    is_some (group_row s.groups g) ≡ true
receiver_named s orderly [] g h = absurd cc
receiver_named s orderly (r ∷ receivers) g h = go (is_just g (group_of s r)) refl h (receiver_named s orderly receivers g)
  where
    go : (b : Bool) → is_just g (group_of s r) ≡ b → (b || has_receiver s receivers g) ≡ true → (has_receiver s receivers g ≡ true → is_some (group_row s.groups g) ≡ true) → is_some (group_row s.groups g) ≡ true
    go true e h ih = orderly.group_named r g (just_same g (group_of s r) e)
    go false e h ih = ih h

row_among : (rows : List GroupRow) (g : ℕ) → is_some (group_row rows g) ≡ is_among (group_numbers rows) g
row_among [] g = refl
row_among (r ∷ rows) g = go (r.group == g) (row_among rows g)
  where
    go : (b : Bool) → is_some (group_row rows g) ≡ is_among (group_numbers rows) g → is_some (cond b (Some r) (group_row rows g)) ≡ (b || is_among (group_numbers rows) g)
    go true ih = refl
    go false ih = ih

-- the groups of receivers without the own, in order, are those for which a mount makes fresh ones
pub receiving_listed :
    (s : PeerGroups) → IsOrderly s → (receivers : List ℕ) (own : ℕ) (groups : List ℕ) →
    IsStrictlyIncreasing groups → AreOfReceivers s receivers groups →
    filter (λ g. not (g == own)) groups ≡ receiving_groups s receivers own
receiving_listed s orderly receivers own groups up are =
    let kept = IsStrictlyIncreasing-filter (λ g. not (g == own)) groups up in
    let other = receiving_rise s orderly receivers own in
    same_counts _ _ (not_falling _ kept) (not_falling _ other)
    (λ c. count_among _ kept c ∙ ap (λ (b : Bool). cond b 1 0) (same c) ∙ sym (count_among _ other c))
  where
    turn : (h o n : Bool) → (h ≡ true → n ≡ true) → (h && o) ≡ (n && (o && h))
    turn true true n then = rw (then refl) refl
    turn true false true then = refl
    turn true false false then = refl
    turn false true true then = refl
    turn false true false then = refl
    turn false false true then = refl
    turn false false false then = refl

    same : (c : ℕ) → is_among (filter (λ g. not (g == own)) groups) c ≡ is_among (receiving_groups s receivers own) c
    same c =
        among_kept (λ g. not (g == own)) groups c ∙
        ap (λ (b : Bool). b && not (c == own)) (are c) ∙
        turn (has_receiver s receivers c) (not (c == own)) (is_among (group_numbers s.groups) c)
        (λ h. sym (row_among s.groups c) ∙ receiver_named s orderly receivers c h) ∙
        sym (among_kept (λ g. not (g == own) && has_receiver s receivers g) (group_numbers s.groups) c)
