-- What is left of rows where those with some numbers go, which stand side by side.
use Rattle.std.proofs.Common.{◌≡◌, ◌≢◌, ◌<◌, ◌+◌, ◌++◌, ◌∷◌, [], ℕ, suc, Bool, true, false, List, length, take, drop, get_or, refl, sym, ap, ◌∙◌, arith}
use Rattle.std.specs.Prelude.{map, filter, not, ◌==◌}
use Rattle.std.specs.List.{list_any}
use Rattle.std.proofs.lemmas.Bool.{eq-eqb, ne_eqb}
use Rattle.std.proofs.lemmas.List.{length-take, length-drop, length-map, get_or-take, get_or-drop, get_or-map, take-append-drop, drop-drop}
use Rattle.std.proofs.lemmas.List.Elements.{filter-append}
use Rattle.std.proofs.lemmas.List.Folds.{list_any_at}

none_there : (ns : List ℕ) (n : ℕ) → ((k : ℕ) → k < length ns → get_or ns k 0 ≢ n) → list_any (λ other. other == n) ns ≡ false
none_there [] n others = refl
none_there (x ∷ ns) n others =
    rw (ne_eqb x n (others 0 (omega arith))) (none_there ns n (λ k within. others (suc k) (omega arith)))

module _ {X : Type 0} (test : X → Bool) where
  -- where all pass, all are left
  all_left : (xs : List X) → ((i : ℕ) (d : X) → i < length xs → test (get_or xs i d) ≡ true) → filter test xs ≡ xs
  all_left [] each = refl
  all_left (x ∷ xs) each =
      rw (each 0 x (omega arith)) (ap (λ (l : List X). x ∷ l) (all_left xs (λ i d less. each (suc i) d (omega arith))))

  -- where none passes, none is left
  none_left : (xs : List X) → ((i : ℕ) (d : X) → i < length xs → test (get_or xs i d) ≡ false) → filter test xs ≡ []
  none_left [] each = refl
  none_left (x ∷ xs) each = rw (each 0 x (omega arith)) (none_left xs (λ i d less. each (suc i) d (omega arith)))

-- the rows stand in order of number, and those from this place on have these numbers
module _ {X : Type 0} (number : X → ℕ) (xs : List X)
    (rises : (i j : ℕ) (d : X) → i < j → j < length xs → number (get_or xs i d) < number (get_or xs j d))
    (gone : List ℕ) (at : ℕ) (stand : map number (take (length gone) (drop at xs)) ≡ gone) where
  abbrev stays : X → Bool
  stays x = not (list_any (λ other. other == number x) gone)

  long : length (take (length gone) (drop at xs)) ≡ length gone
  long = sym (length-map (take (length gone) (drop at xs)) number) ∙ ap length stand

  within : (k : ℕ) → k < length gone → at + k < length xs
  within k less =
      let shown = sym (length-take (length gone) (drop at xs)) ∙ long in
      let left = length-drop at xs in
      grind (arith, shown, left)

  numbered : (k : ℕ) (d : X) → k < length gone → get_or gone k 0 ≡ number (get_or xs (at + k) d)
  numbered k d less =
      ap (λ (ns : List ℕ). get_or ns k 0) (sym stand) ∙
      get_or-map number (take (length gone) (drop at xs)) k d 0 (omega (arith, long)) ∙
      ap number (get_or-take (length gone) (drop at xs) k d less ∙ get_or-drop at xs k d)

  before : filter stays (take at xs) ≡ take at xs
  before = all_left stays (take at xs) (λ i d less.
      let short = length-take at xs in
      let here : get_or (take at xs) i d ≡ get_or xs i d = get_or-take at xs i d (grind (arith, short, less)) in
      let none : list_any (λ other. other == number (get_or xs i d)) gone ≡ false =
      none_there gone (number (get_or xs i d)) (λ k inside same.
      let up = rises i (at + k) d (grind (arith, short, less)) (within k inside) in
      let is = numbered k d inside in
      omega (arith, up, is, same)) in
      rw (here, none) refl)

  among : filter stays (take (length gone) (drop at xs)) ≡ []
  among = none_left stays (take (length gone) (drop at xs)) (λ i d less.
      let inside : i < length gone = omega (arith, long, less) in
      let here : get_or (take (length gone) (drop at xs)) i d ≡ get_or xs (at + i) d =
      get_or-take (length gone) (drop at xs) i d inside ∙ get_or-drop at xs i d in
      let there : list_any (λ other. other == number (get_or xs (at + i) d)) gone ≡ true =
      list_any_at (λ other. other == number (get_or xs (at + i) d)) gone i 0 inside
      (eq-eqb (get_or gone i 0) (number (get_or xs (at + i) d)) (numbered i d inside)) in
      rw (here, there) refl)

  behind : filter stays (drop (at + length gone) xs) ≡ drop (at + length gone) xs
  behind = all_left stays (drop (at + length gone) xs) (λ i d less.
      let short = length-drop (at + length gone) xs in
      let here : get_or (drop (at + length gone) xs) i d ≡ get_or xs (at + length gone + i) d = get_or-drop (at + length gone) xs i d in
      let none : list_any (λ other. other == number (get_or xs (at + length gone + i) d)) gone ≡ false =
      none_there gone (number (get_or xs (at + length gone + i) d)) (λ k inside same.
      let up = rises (at + k) (at + length gone + i) d (omega (arith, inside)) (grind (arith, short, less)) in
      let is = numbered k d inside in
      omega (arith, up, is, same)) in
      rw (here, none) refl)

  -- those in front of them and those behind them are left
  pub block_left : take at xs ++ drop (at + length gone) xs ≡ filter stays xs
  block_left =
      let whole : xs ≡ take at xs ++ (take (length gone) (drop at xs) ++ drop (at + length gone) xs) =
      sym (take-append-drop at xs) ∙
      ap (λ (l : List X). take at xs ++ l)
      (sym (take-append-drop (length gone) (drop at xs)) ∙
      ap (λ (l : List X). take (length gone) (drop at xs) ++ l) (drop-drop (length gone) at xs)) in
      sym (ap (filter stays) whole ∙
      filter-append stays (take at xs) (take (length gone) (drop at xs) ++ drop (at + length gone) xs) ∙
      rw (filter-append stays (take (length gone) (drop at xs)) (drop (at + length gone) xs), before, among, behind) refl)
