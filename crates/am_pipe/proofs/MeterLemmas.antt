-- Each step on the numbers of a pipe keeps their rule.
use Rattle.std.proofs.Common.{◌≡◌, ◌≢◌, ◌<◌, ℕ, zero, suc, ◌+◌, ◌^◌, ◌%◌, List, [], ◌∷◌, length, refl, ap, ◌∙◌}
use Rattle.std.proofs.Common.{arith}
use Rattle.std.proofs.Math.Nat.{mod-add-mod}
use Rattle.std.specs.Prelude.{slice_index, slice_set}
use mathlib.Core.Option.{Option, some}
use lib.ListN.{get_elem?}
use Rattle.atomic_table.specs.Table.{State, Me, Allows, Arrives, Splits, opening, keeps}
use Rattle.am_pipe.specs.{MeterView, IsMeter, freed_one, fresh_view, put_one, total}
use Rattle.am_pipe.proofs.CountLemmas.{total_set, total_snoc}

abbrev took_of : MeterView → ℕ
took_of v = v.took

abbrev put_of : MeterView → ℕ
put_of v = v.put

-- the word of a step is the one that is meant
abbrev Is : ℕ → ℕ → Type 0
Is word meant = word ≡ meant

-- a number that is written is there
set_there : (ws : List ℕ) (i n : ℕ) → i < length ws → slice_index (slice_set ws i n) i ≡ n
set_there [] i n small = absurd (omega arith)
set_there (x ∷ xs) zero n small = refl
set_there (x ∷ xs) (suc i) n small = set_there xs i n (omega arith)

-- and no other is changed
set_other : (ws : List ℕ) (i j n : ℕ) → i ≢ j → slice_index (slice_set ws i n) j ≡ slice_index ws j
set_other [] i j n off = refl
set_other (x ∷ xs) zero zero n off = absurd (off refl)
set_other (x ∷ xs) zero (suc j) n off = refl
set_other (x ∷ xs) (suc i) zero n off = refl
set_other (x ∷ xs) (suc i) (suc j) n off = set_other xs i j n (λ e. off (ap suc e))

set_wide : (ws : List ℕ) (i n : ℕ) → length (slice_set ws i n) ≡ length ws
set_wide [] i n = refl
set_wide (x ∷ xs) zero n = refl
set_wide (x ∷ xs) (suc i) n = ap suc (set_wide xs i n)

-- a number that is written again as it was
set_same : (ws : List ℕ) (i j : ℕ) → slice_index (slice_set ws i (slice_index ws i)) j ≡ slice_index ws j
set_same [] i j = refl
set_same (x ∷ xs) zero zero = refl
set_same (x ∷ xs) zero (suc j) = refl
set_same (x ∷ xs) (suc i) zero = refl
set_same (x ∷ xs) (suc i) (suc j) = set_same xs i j

module _ {S : Type 0} where
  -- a step that counts nothing
  pub looks_on : (s : State S MeterView) (id : ℕ) (v w : MeterView) (ws : List ℕ)
      (homes : List (Option S)) → IsMeter s → get_elem? s.views id ≡ some v
      → w.took ≡ v.took → w.put ≡ v.put
      → length ws ≡ length s.words → slice_index ws 0 ≡ slice_index s.words 0
      → slice_index ws 2 ≡ slice_index s.words 2
      → IsMeter (record { words = ws; homes = homes; views = slice_set s.views id w })
  looks_on s id v w ws homes h at took put wide first third = record {
    wide = wide ∙ h.wide;
    counted = first ∙ h.counted
        ∙ ap (λ n. n % 2 ^ 64) (let t = total_set took_of s.views id v w at in omega (arith, t, took));
    given = third ∙ h.given
        ∙ ap (λ n. n % 2 ^ 64) (let t = total_set put_of s.views id v w at in omega (arith, t, put));
  }

  -- a read of the number that is meant, of which the view learns what it doesn't count
  pub reads : (learn : MeterView → ℕ → MeterView)
      → ((v : MeterView) (n : ℕ) → (learn v n).took ≡ v.took)
      → ((v : MeterView) (n : ℕ) → (learn v n).put ≡ v.put)
      → (word meant slots id : ℕ) (me : Me S MeterView) → word ≡ meant
      → Allows IsMeter slots id me word (λ n. n) (λ n me'. (word ≡ meant) × (me'.0 ≡ learn me.0 n))
  reads learn took put word meant slots id me is s h len at small =
      let n = slice_index s.words word in (
        learn me.0 n,
        keeps,
        tt,
        looks_on s id me.0 (learn me.0 n) (slice_set s.words word n) s.homes h at (took me.0 n)
            (put me.0 n) (set_wide s.words word n) (set_same s.words word 0)
            (set_same s.words word 2),
        (is, refl),
      )

  pub counts : (slots id : ℕ) (me : Me S MeterView)
      → Allows IsMeter slots id me 0 (λ n. (n + 1) % 2 ^ 64) (λ n me'. Is 0 0 × (me'.0 ≡ freed_one me.0))
  counts slots id me s h len at small =
      let n = slice_index s.words 0 in
      let w = freed_one me.0 in
      let next = (n + 1) % 2 ^ 64 in (
        w,
        keeps,
        tt,
        record {
          wide = set_wide s.words 0 next ∙ h.wide;
          counted = set_there s.words 0 next (omega (arith, h.wide))
              ∙ ap (λ (k : ℕ). (k + 1) % 2 ^ 64) h.counted
              ∙ mod-add-mod (total took_of s.views) (2 ^ 64) 1
              ∙ ap (λ (k : ℕ). k % 2 ^ 64)
              (let t = total_set took_of s.views id me.0 w at in omega (arith, t));
          given = set_other s.words 0 2 next (λ e. omega arith) ∙ h.given
              ∙ ap (λ (k : ℕ). k % 2 ^ 64)
              (let t = total_set put_of s.views id me.0 w at in omega (arith, t));
        },
        (refl, refl),
      )

  pub gives : (slots id : ℕ) (me : Me S MeterView)
      → Allows IsMeter slots id me 2 (λ n. (n + 1) % 2 ^ 64) (λ n me'. Is 2 2 × (me'.0 ≡ put_one me.0))
  gives slots id me s h len at small =
      let n = slice_index s.words 2 in
      let w = put_one me.0 in
      let next = (n + 1) % 2 ^ 64 in (
        w,
        keeps,
        tt,
        record {
          wide = set_wide s.words 2 next ∙ h.wide;
          counted = set_other s.words 2 0 next (λ e. omega arith) ∙ h.counted
              ∙ ap (λ (k : ℕ). k % 2 ^ 64)
              (let t = total_set took_of s.views id me.0 w at in omega (arith, t));
          given = set_there s.words 2 next (omega (arith, h.wide))
              ∙ ap (λ (k : ℕ). (k + 1) % 2 ^ 64) h.given
              ∙ mod-add-mod (total put_of s.views) (2 ^ 64) 1
              ∙ ap (λ (k : ℕ). k % 2 ^ 64)
              (let t = total_set put_of s.views id me.0 w at in omega (arith, t));
        },
        (refl, refl),
      )

  -- a new seat writes 1 as the second number
  pub closes : (word new slots : ℕ) → word ≡ 1 → new ≡ 1
      → Arrives {S = S} IsMeter slots word (λ _. new) (λ n me'. (word ≡ 1) × (new ≡ 1))
  closes word new slots is one s h len small = (
    fresh_view,
    keeps,
    tt,
    record {
      wide = set_wide s.words word new ∙ h.wide;
      counted = set_other s.words word 0 new (λ e. omega (arith, e, is)) ∙ h.counted
          ∙ ap (λ n. n % 2 ^ 64)
          (let t = total_snoc took_of s.views fresh_view in omega (arith, t));
      given = set_other s.words word 2 new (λ e. omega (arith, e, is)) ∙ h.given
          ∙ ap (λ n. n % 2 ^ 64)
          (let t = total_snoc put_of s.views fresh_view in omega (arith, t));
    },
    (is, one),
  )

  pub splits : (id : ℕ) (v : MeterView) → Splits {S = S} IsMeter id v v fresh_view
  splits id v s h at = record {
    wide = h.wide;
    counted = h.counted
        ∙ ap (λ n. n % 2 ^ 64)
        (let t = total_set took_of s.views id v v at in
        let u = total_snoc took_of (slice_set s.views id v) fresh_view in
        omega (arith, t, u));
    given = h.given
        ∙ ap (λ n. n % 2 ^ 64)
        (let t = total_set put_of s.views id v v at in
        let u = total_snoc put_of (slice_set s.views id v) fresh_view in
        omega (arith, t, u));
  }

  pub opens : (xs : List S) → IsMeter (opening (0 ∷ 0 ∷ 0 ∷ []) xs fresh_view)
  opens xs = record { wide = refl; counted = refl; given = refl }
