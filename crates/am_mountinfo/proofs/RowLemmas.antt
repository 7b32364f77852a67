-- The texts of rows that are put out one by one.
use Rattle.std.proofs.Common.{◌≡◌, ◌+◌, ◌<◌, ◌≤◌, ℕ, List, [], ◌++◌, length, take, get_or, Option, Some, None, refl, sym, ap, ◌∙◌, arith}
use Rattle.std.specs.List.{flat_map, slice_get}
use Rattle.std.proofs.lemmas.List.{take_more, flat_map_more}
use Rattle.std.proofs.lemmas.Option.{get_or_from_slice_get, slice_get_cases}
use Rattle.am_mountinfo.specs.{row_note}

-- one element more
pub text_more : {X : Type 0} (text : X → List ℕ) (rows : List X) (i : ℕ) (d : X) → i < length rows → flat_map text (take i rows) ++ text (get_or rows i d) ≡ flat_map text (take (i + 1) rows)
text_more text rows i d inside =
    flat_map_more text [] (take i rows) (get_or rows i d) ∙ ap (flat_map text) (sym (take_more rows i d inside))

-- one row more, which is there
pub row_more : {X : Type 0} (note : X → List ℕ) (rows : List X) (i : ℕ) → i < length rows → flat_map note (take i rows) ++ row_note note (slice_get rows i) ≡ flat_map note (take (i + 1) rows)
row_more {X} note rows i inside = by_row (slice_get rows i) refl
  where
    by_row : (o : Option X) → slice_get rows i ≡ o → flat_map note (take i rows) ++ row_note note o ≡ flat_map note (take (i + 1) rows)
    by_row None e = let past : length rows ≤ i = grind (arith, slice_get_cases) in absurd (omega (arith, inside, past))
    by_row (Some row) e =
        ap (λ (r : X). flat_map note (take i rows) ++ note r) (sym (get_or_from_slice_get rows i row row e))
        ∙ text_more note rows i row inside
