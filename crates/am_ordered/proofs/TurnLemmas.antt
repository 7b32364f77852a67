-- Lists behind a place, and lists of which some rows come before the others or behind them.
use Rattle.std.proofs.Common.{◌≡◌, ◌≤◌, ◌+◌, ◌-◌, ℕ, zero, suc, List, [], ◌∷◌, ◌++◌, length, drop, take, refl, sym, ap, subst, ◌∙◌, arith}
use Rattle.std.proofs.Math.ListN.{drop_of_length-le}
use Rattle.std.specs.List.{insert}
use Rattle.std.proofs.Math.Seq.{take-append_seam, take-append-add}
use Rattle.std.proofs.lemmas.List.{length-drop, length-take-le, length-append, append-nil, take_rest, take-append-le, drop-drop}

module _ {X : Type 0} where
  -- what is left of the rows where so many from this index on go
  abbrev left_out : ℕ → ℕ → List X → List X
  left_out index count xs = take index xs ++ drop (index + count) xs

  -- what goes behind the first rows goes from the others
  pub removed_behind : (gone index count : ℕ) (xs : List X) → gone ≤ length xs →
      drop gone (take (gone + index) xs ++ drop (gone + index + count) xs) ≡ take index (drop gone xs) ++ drop (index + count) (drop gone xs)
  removed_behind zero index count xs within = let e : 0 + index ≡ index = omega arith in rw e refl
  removed_behind (suc gone) index count [] within = absurd (omega arith)
  removed_behind (suc gone) index count (x ∷ xs) within =
      let e : suc gone + index ≡ suc (gone + index) = omega arith in
      let more : suc (gone + index) + count ≡ suc (gone + index + count) = omega arith in
      rw (e, more) (removed_behind gone index count xs (omega arith))

  -- ---- rows that were written behind the first ones

  passed : (count : ℕ) (ms ts : List X) → drop (length ms + count) (ms ++ ts) ≡ drop count ts
  passed count [] ts = let e : 0 + count ≡ count = omega arith in rw e refl
  passed count (m ∷ ms) ts = let e : suc (length ms) + count ≡ suc (length ms + count) = omega arith in rw e (passed count ms ts)

  -- the rows behind the first ones, as a write through them leaves them
  written_behind : (xs ts : List X) (gone count : ℕ) → gone ≤ length xs → length ts ≡ length xs - gone →
      drop (gone + count) (take (length xs) ((take gone xs ++ (ts ++ drop (length xs - gone) (drop gone xs)))
      ++ drop (length (take gone xs ++ (ts ++ drop (length xs - gone) (drop gone xs)))) xs)) ≡ drop count ts
  written_behind xs ts gone count within long =
      let none : drop (length xs - gone) (drop gone xs) ≡ [] = drop_of_length-le (drop gone xs) (subst (λ (n : ℕ). n ≤ length xs - gone) (sym (length-drop gone xs)) (omega arith)) in
      let before : length (take gone xs) ≡ gone = length-take-le gone xs within in
      let whole : ts ++ drop (length xs - gone) (drop gone xs) ≡ ts = ap (λ (l : List X). ts ++ l) none ∙ append-nil ts in
      let all : length (take gone xs ++ ts) ≡ length xs = length-append (take gone xs) ts ∙ (rw (before, long) (omega (within, arith))) in
      rw (whole) (ap (λ (n : ℕ). drop (gone + count) (take n ((take gone xs ++ ts) ++ drop (length (take gone xs ++ ts)) xs))) (sym all)
      ∙ ap (drop (gone + count)) (take-append_seam (take gone xs ++ ts) (drop (length (take gone xs ++ ts)) xs))
      ∙ ap (λ (n : ℕ). drop (n + count) (take gone xs ++ ts)) (sym before)
      ∙ passed count (take gone xs) ts)

  brought_in : (vs ts : List X) (gone index count : ℕ) → gone + index + count ≤ length vs →
      length ts ≡ length (take (length vs - gone) (drop gone vs)) →
      drop count ts ≡ left_out index count (take (length vs - gone) (drop gone vs)) →
      drop (gone + count) (take (length vs) ((take gone vs ++ (ts ++ drop (length vs - gone) (drop gone vs)))
      ++ drop (length (take gone vs ++ (ts ++ drop (length vs - gone) (drop gone vs)))) vs)) ≡ left_out index count (drop gone vs)
  brought_in vs ts gone index count within long e =
      written_behind vs ts gone count (grind (arith, within)) (long ∙ ap (λ (l : List X). length l) (take_rest vs gone) ∙ length-drop gone vs)
      ∙ e ∙ ap (left_out index count) (take_rest vs gone)

  -- some of the rows behind the first ones come before them
  pub brought : (xs vs ts : List X) (gone index count n : ℕ) → vs ≡ xs → length vs ≡ n → gone + index + count ≤ n →
      length ts ≡ length (take (length vs - gone) (drop gone vs)) →
      drop count ts ≡ left_out index count (take (length vs - gone) (drop gone vs)) →
      drop (gone + count) (take n ((take gone vs ++ (ts ++ drop (length vs - gone) (drop gone vs)))
      ++ drop (length (take gone vs ++ (ts ++ drop (length vs - gone) (drop gone vs)))) xs)) ≡ left_out index count (drop gone xs)
  brought xs vs ts gone index count n same len within long e =
      subst (λ (l : List X). drop (gone + count) (take n ((take gone vs ++ (ts ++ drop (length vs - gone) (drop gone vs)))
      ++ drop (length (take gone vs ++ (ts ++ drop (length vs - gone) (drop gone vs)))) l)) ≡ left_out index count (drop gone l)) same
      (subst (λ (k : ℕ). drop (gone + count) (take k ((take gone vs ++ (ts ++ drop (length vs - gone) (drop gone vs)))
      ++ drop (length (take gone vs ++ (ts ++ drop (length vs - gone) (drop gone vs)))) vs)) ≡ left_out index count (drop gone vs)) len
      (brought_in vs ts gone index count (subst (λ (k : ℕ). gone + index + count ≤ k) (sym len) within) long e))

  -- some of the rows behind the first ones come last, whatever is behind all of them
  pub turned_back : (xs ts rest : List X) (index count : ℕ) → index + count ≤ length xs →
      length ts ≡ length (take (length xs - index) (drop index xs)) →
      take (length (take (length xs - index) (drop index xs)) - count) ts
      ≡ drop count (take (length xs - index) (drop index xs)) →
      take (length xs - count) (take index xs ++ (ts ++ rest)) ≡ left_out index count xs
  turned_back xs ts rest index count within long e =
      let same : take (length xs - index) (drop index xs) ≡ drop index xs = take_rest xs index in
      let behind : length (drop index xs) ≡ length xs - index = length-drop index xs in
      let before : length (take index xs) ≡ index = length-take-le index xs (omega (within, arith)) in
      let left : ℕ = length (drop index xs) - count in
      let all : length ts ≡ length (drop index xs) = long ∙ ap (λ (l : List X). length l) same in
      let stay : length xs - count ≡ length (take index xs) + left =
      rw (before, behind) (omega (within, arith)) in
      ap (λ (n : ℕ). take n (take index xs ++ (ts ++ rest))) stay
      ∙ take-append-add (take index xs) (ts ++ rest) left
      ∙ ap (λ (l : List X). take index xs ++ l)
      (take-append-le left ts rest (omega (all, arith))
      ∙ subst (λ (l : List X). take (length l - count) ts ≡ drop count l) same e
      ∙ drop-drop count index xs)

  -- a row that comes among those behind the first ones
  pub inserted_behind : (gone place : ℕ) (xs : List X) (x : X) → gone ≤ length xs → drop gone (insert xs (gone + place) x) ≡ insert (drop gone xs) place x
  inserted_behind zero place xs x within = let e : 0 + place ≡ place = omega arith in rw e refl
  inserted_behind (suc gone) place [] x within = absurd (omega arith)
  inserted_behind (suc gone) place (y ∷ xs) x within =
      let e : suc gone + place ≡ suc (gone + place) = omega arith in
      rw e (inserted_behind gone place xs x (omega arith))
