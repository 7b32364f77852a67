-- The one list that is put into another, and taken out of it, a number at a time.
use Rattle.std.proofs.Common.{◌≡◌, ◌≤◌, ◌<◌, ◌+◌, ◌-◌, ℕ, zero, suc, Bool, true, false, cond, not, ◌&&◌, ◌||◌, List, [], ◌∷◌, length, take, drop, get_or, refl, sym, ap, subst, ◌∙◌, arith}
use Rattle.std.specs.Prelude.{nat_eq, ◌==◌}
use Rattle.std.specs.List.Sorted.{IsStrictlyIncreasing}
use Rattle.std.proofs.lemmas.List.{take_more, drop_more}
use Rattle.am_names.proofs.Basics.{or_false, equal_either_way}
use Rattle.am_names.specs.{is_among}
use Rattle.am_index.specs.{Index, ListsRise, Parts, PutsInto, SameLists, TakesFrom, but, has, listed, with}
use Rattle.am_index.proofs.SetLemmas.{among_append, but_has, but_rises, with_has, with_rises}

-- the first of the one list stand in the other too
pub record JoinsFirst (count from to : ℕ) (old new : Index) : Type 0 where
  pub rising : ListsRise new
  pub source : listed new from ≡ listed old from
  pub has : (n x : ℕ) → has new n x ≡ (has old n x || (to == n && is_among (take count (listed old from)) x))

-- the last of the one list, from this place on, are out of the other
pub record PartsLast (left from to : ℕ) (old new : Index) : Type 0 where
  pub rising : ListsRise new
  pub source : listed new from ≡ listed old from
  pub has : (n x : ℕ) → has new n x ≡ (has old n x && not (to == n && is_among (drop left (listed old from)) x))

and_true : (b : Bool) → (b && true) ≡ b
and_true true = refl
and_true false = refl

pub same_rise : (old new : Index) → SameLists old new → ListsRise old → ListsRise new
same_rise old new same rise = λ n. subst (λ (xs : List ℕ). IsStrictlyIncreasing xs) (sym (same n)) (rise n)

pub joins_more :
    (count from to item : ℕ) (old mid room new : Index) → (to == from) ≡ false → count < length (listed old from) →
    item ≡ get_or (listed mid from) count item → JoinsFirst count from to old mid → SameLists mid room →
    PutsInto (λ n. nat_eq to n) item room new → JoinsFirst (count + 1) from to old new
joins_more count from to item old mid room new others within is first same puts = record {
  rising = λ n. subst (λ (xs : List ℕ). IsStrictlyIncreasing xs) (sym (puts n)) (rising n (nat_eq to n) (same_rise mid room same first.rising n));
  source = puts from ∙ ap (λ (b : Bool). cond b (with item (listed room from)) (listed room from)) others ∙ same from ∙ first.source;
  has = λ n x.
      ap (λ (xs : List ℕ). is_among xs x) (puts n) ∙ step n x (to == n) ∙
      ap (λ (b : Bool). has mid n x || (to == n && b)) refl ∙
      ap (λ (b : Bool). b || (to == n && (item == x))) (first.has n x) ∙
      together (has old n x) (to == n) (is_among (take count (listed old from)) x) (item == x) ∙
      ap (λ (b : Bool). has old n x || (to == n && b)) (sym (longer x));
}
  where
    rising : (n : ℕ) (b : Bool) → IsStrictlyIncreasing (listed room n) → IsStrictlyIncreasing (cond b (with item (listed room n)) (listed room n))
    rising n true up = with_rises item (listed room n) up
    rising n false up = up

    step :
        (n x : ℕ) (b : Bool) →
        is_among (cond b (with item (listed room n)) (listed room n)) x ≡ (has mid n x || (b && (item == x)))
    step n x true = with_has item (listed room n) x ∙ ap (λ (xs : List ℕ). is_among xs x || (item == x)) (same n)
    step n x false = ap (λ (xs : List ℕ). is_among xs x) (same n) ∙ sym (or_false (has mid n x))

    together : (a b c d : Bool) → ((a || (b && c)) || (b && d)) ≡ (a || (b && (c || d)))
    together true b c d = refl
    together false true c d = refl
    together false false c d = refl

    own : item ≡ get_or (listed old from) count item
    own = is ∙ ap (λ (xs : List ℕ). get_or xs count item) first.source

    longer : (x : ℕ) → is_among (take (count + 1) (listed old from)) x ≡ (is_among (take count (listed old from)) x || (item == x))
    longer x =
        ap (λ (xs : List ℕ). is_among xs x) (take_more (listed old from) count item within) ∙
        among_append (take count (listed old from)) (get_or (listed old from) count item ∷ []) x ∙
        ap (λ (y : ℕ). is_among (take count (listed old from)) x || ((y == x) || false)) (sym own) ∙
        ap (λ (b : Bool). is_among (take count (listed old from)) x || b) (or_false (item == x))

-- where the room is refused for one, those before it are taken out again
pub joins_back :
    (count from to : ℕ) (old mid same new : Index) → (to == from) ≡ false → JoinsFirst count from to old mid → SameLists mid same →
    Parts from to same new → Parts from to old new
joins_back count from to old mid same new others first equal parts = record {
  rising = parts.rising;
  has = λ n x.
      parts.has n x ∙
      ap (λ (xs : List ℕ). is_among xs x && not (to == n && has same from x)) (equal n) ∙
      ap (λ (xs : List ℕ). has mid n x && not (to == n && is_among xs x)) (equal from ∙ first.source) ∙
      ap (λ (b : Bool). b && not (to == n && has old from x)) (first.has n x) ∙
      go (has old n x) (to == n) (is_among (take count (listed old from)) x) refl (has old from x) (front count (listed old from) x);
}
  where
    front : (k : ℕ) (xs : List ℕ) (x : ℕ) → is_among (take k xs) x ≡ true → is_among xs x ≡ true
    front zero xs x e = absurd cc
    front (suc k) [] x e = absurd cc
    front (suc k) (y ∷ ys) x e = here (y == x) e (front k ys x)
      where
        here : (b : Bool) → (b || is_among (take k ys) x) ≡ true → (is_among (take k ys) x ≡ true → is_among ys x ≡ true) → (b || is_among ys x) ≡ true
        here true e ih = refl
        here false e ih = ih e

    go :
        {t : Bool} (a b c : Bool) → t ≡ c → (d : Bool) → (t ≡ true → d ≡ true) →
        ((a || (b && c)) && not (b && d)) ≡ (a && not (b && d))
    go true b c e d into = refl
    go false false c e d into = refl
    go false true false e d into = refl
    go false true true e true into = refl
    go false true true e false into = let bad : false ≡ true = into e in absurd cc

pub parts_more :
    (left from to item : ℕ) (old mid new : Index) → (to == from) ≡ false → 0 < left → left ≤ length (listed old from) →
    item ≡ get_or (listed mid from) (left - 1) item → PartsLast left from to old mid →
    TakesFrom (λ n. nat_eq to n) item mid new → PartsLast (left - 1) from to old new
parts_more left from to item old mid new others some within is last takes = record {
  rising = λ n. subst (λ (xs : List ℕ). IsStrictlyIncreasing xs) (sym (takes n)) (rising n (nat_eq to n) (last.rising n));
  source = takes from ∙ ap (λ (b : Bool). cond b (but item (listed mid from)) (listed mid from)) others ∙ last.source;
  has = λ n x.
      ap (λ (xs : List ℕ). is_among xs x) (takes n) ∙ step n x (to == n) ∙
      ap (λ (b : Bool). b && not (to == n && (item == x))) (last.has n x) ∙
      together (has old n x) (to == n) (is_among (drop left (listed old from)) x) (item == x) ∙
      ap (λ (b : Bool). has old n x && not (to == n && b)) (sym (earlier x));
}
  where
    rising : (n : ℕ) (b : Bool) → IsStrictlyIncreasing (listed mid n) → IsStrictlyIncreasing (cond b (but item (listed mid n)) (listed mid n))
    rising n true up = but_rises item (listed mid n) up
    rising n false up = up

    step :
        (n x : ℕ) (b : Bool) →
        is_among (cond b (but item (listed mid n)) (listed mid n)) x ≡ (has mid n x && not (b && (item == x)))
    step n x true = but_has item (listed mid n) x ∙ ap (λ (b : Bool). has mid n x && not b) (equal_either_way x item)
    step n x false = sym (and_true (has mid n x))

    together : (a b c d : Bool) → ((a && not (b && c)) && not (b && d)) ≡ (a && not (b && (d || c)))
    together false b c d = refl
    together true false c d = refl
    together true true true true = refl
    together true true true false = refl
    together true true false true = refl
    together true true false false = refl

    own : item ≡ get_or (listed old from) (left - 1) item
    own = is ∙ ap (λ (xs : List ℕ). get_or xs (left - 1) item) last.source

    earlier : (x : ℕ) → is_among (drop (left - 1) (listed old from)) x ≡ ((item == x) || is_among (drop left (listed old from)) x)
    earlier x =
        let next : (left - 1) + 1 ≡ left = omega arith in
        ap (λ (xs : List ℕ). is_among xs x) (drop_more (listed old from) (left - 1) item (omega arith)) ∙
        ap (λ (y : ℕ). (y == x) || is_among (drop ((left - 1) + 1) (listed old from)) x) (sym own) ∙
        ap (λ (k : ℕ). (item == x) || is_among (drop k (listed old from)) x) next
