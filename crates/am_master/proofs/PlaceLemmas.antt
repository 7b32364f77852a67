-- The places of the lines by the texts of their points.
use Rattle.std.proofs.Common.{◌≡◌, ◌+◌, ℕ, Bool, true, false, ◌||◌, cond, List, [], ◌∷◌, ◌++◌, length, refl, sym, ap, ◌∙◌, append_assoc, arith}
use Rattle.std.proofs.lemmas.List.{append-nil}
use Rattle.std.proofs.lemmas.List.Elements.{All-head, All-push, All-tail}
use Rattle.std.specs.Prelude.{All, Option, Some, find}
use Rattle.std.specs.Option.{option_map}
use Rattle.std.specs.Str.{bytes_eq}
use Rattle.std.specs.List.{list_all, list_any, enumerate_from}
use Rattle.std.specs.Map.{lookup}
use Rattle.am_names.specs.{IsCanonical, is_name, names_of, same_names, text_of}
use Rattle.am_names.proofs.PathLemmas.{names_back, canonical_text, texts_tell}
use Rattle.am_master.specs.{Point, Placed, ArePoints, IsNamed, has_point, is_placed, is_taken, line_at, placed_at, placed_from, point_texts, texts_of}
use Rattle.am_master.specs.declared.point.Point.TheVariants.{Direct, Indirect}
use Rattle.am_master.specs.MasterRow.{MasterRow}

-- ---- a text that a line has

module _ (text : List ℕ) where
  -- the index has just the texts of the lines
  listed_from : (at : ℕ) (rows : List MasterRow) → list_any (λ (p : Placed). bytes_eq text p.0) (placed_from at rows) ≡ list_any (bytes_eq text) (texts_of rows)
  listed_from at [] = refl
  listed_from at (row ∷ rows) = by row.point (listed_from (at + 1) rows)
    where
      by : (point : Point) → list_any (λ (p : Placed). bytes_eq text p.0) (placed_from (at + 1) rows) ≡ list_any (bytes_eq text) (texts_of rows) →
          list_any (λ (p : Placed). bytes_eq text p.0) (placed_at at point ++ placed_from (at + 1) rows) ≡ list_any (bytes_eq text) (point_texts point ++ texts_of rows)
      by Direct rest = rest
      by (Indirect names) rest = ap (λ (b : Bool). bytes_eq text (text_of names) || b) rest

  pub listed : (points : List Placed) (rows : List MasterRow) → ArePoints points rows → list_any (λ (p : Placed). bytes_eq text p.0) points ≡ list_any (bytes_eq text) (texts_of rows)
  listed points rows h = ap (list_any (λ (p : Placed). bytes_eq text p.0)) h.placed ∙ listed_from 0 rows

pub not_placed : (points : List Placed) (rows : List MasterRow) (point : Point) → ArePoints points rows → is_taken rows point ≡ false → is_placed points point ≡ false
not_placed points rows Direct h free = refl
not_placed points rows (Indirect names) h free = listed (text_of names) points rows h ∙ free

-- ---- a line more

later : (at : ℕ) (first : MasterRow) (rows : List MasterRow) (point : Point) → placed_at (at + 1 + length rows) point ≡ placed_at (at + length (first ∷ rows)) point
later at first rows point =
    let same : at + 1 + length rows ≡ at + length (first ∷ rows) = omega arith in
    ap (λ (place : ℕ). placed_at place point) same

one_more_from : (at : ℕ) (rows : List MasterRow) (row : MasterRow) → placed_from at (rows ++ row ∷ []) ≡ placed_from at rows ++ placed_at (at + length rows) row.point
one_more_from at [] row =
    let here : at + 0 ≡ at = omega arith in
    append-nil (placed_at at row.point) ∙ ap (λ (place : ℕ). placed_at place row.point) (sym here)
one_more_from at (first ∷ rows) row =
    ap (λ (points : List Placed). placed_at at first.point ++ points) (one_more_from (at + 1) rows row ∙ ap (λ (points : List Placed). placed_from (at + 1) rows ++ points) (later at first rows row.point))
    ∙ sym (append_assoc (placed_at at first.point) (placed_from (at + 1) rows) (placed_at (at + length (first ∷ rows)) row.point))

pub one_more_point : (points : List Placed) (rows : List MasterRow) (row : MasterRow) (at : ℕ) → ArePoints points rows → at ≡ length rows → IsNamed row.point → ArePoints (points ++ placed_at at row.point) (rows ++ row ∷ [])
one_more_point points rows row at h e named =
    let last : at ≡ 0 + length rows = omega (arith, e) in
    record {
      placed = ap (λ (ps : List Placed). ps ++ placed_at at row.point) h.placed ∙ ap (λ (place : ℕ). placed_from 0 rows ++ placed_at place row.point) last ∙ sym (one_more_from 0 rows row);
      named = All-push (λ (r : MasterRow). IsNamed r.point) rows row h.named named;
    }

-- ---- the line that is found

-- a canonical text is that of the names where they are its own
tells : (text : List ℕ) (names : List (List ℕ)) → IsCanonical text → list_all is_name names ≡ true → bytes_eq text (text_of names) ≡ same_names names (names_of text)
tells text names h named = texts_tell text (text_of names) names _ h (canonical_text names named) (names_back names named) refl

-- the place of the first of these lines whose point is the path
found_from : List (List ℕ) → ℕ → List MasterRow → Option ℕ
found_from path at rows = option_map (λ line. line.0) (find (λ line. has_point path line.1.point) (enumerate_from at rows))

line_from : (text : List ℕ) (at : ℕ) (rows : List MasterRow) → IsCanonical text → All (λ (r : MasterRow). IsNamed r.point) rows → lookup (bytes_eq text) (placed_from at rows) ≡ found_from (names_of text) at rows
unfolding found_from
line_from text at [] h named = refl
line_from text at (row ∷ rows) h named = by row.point (All-head (λ (r : MasterRow). IsNamed r.point) row rows named) (line_from text (at + 1) rows h (All-tail (λ (r : MasterRow). IsNamed r.point) row rows named))
  where
    by : (point : Point) → IsNamed point → lookup (bytes_eq text) (placed_from (at + 1) rows) ≡ option_map (λ line. line.0) (find (λ line. has_point (names_of text) line.1.point) (enumerate_from (at + 1) rows)) →
        lookup (bytes_eq text) (placed_at at point ++ placed_from (at + 1) rows)
        ≡ option_map (λ line. line.0) (cond (has_point (names_of text) point) (Some (at, row)) (find (λ line. has_point (names_of text) line.1.point) (enumerate_from (at + 1) rows)))
    by Direct n rest = rest
    by (Indirect names) n rest = either (same_names names (names_of text)) (tells text names h n)
      where
        either : (b : Bool) → bytes_eq text (text_of names) ≡ b →
            cond (bytes_eq text (text_of names)) (Some at) (lookup (bytes_eq text) (placed_from (at + 1) rows))
            ≡ option_map (λ line. line.0) (cond b (Some (at, row)) (find (λ line. has_point (names_of text) line.1.point) (enumerate_from (at + 1) rows)))
        either true e = rw e refl
        either false e = rw e rest

pub line_is_at : (text : List ℕ) (points : List Placed) (rows : List MasterRow) → IsCanonical text → ArePoints points rows → lookup (bytes_eq text) points ≡ line_at rows (names_of text)
unfolding found_from
line_is_at text points rows h p = ap (lookup (bytes_eq text)) p.placed ∙ line_from text 0 rows h p.named
