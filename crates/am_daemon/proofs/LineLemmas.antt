-- The line whose point a path is, by its place, beside its map.
use Rattle.std.proofs.Common.{◌≡◌, ◌+◌, ℕ, Bool, true, false, List, [], ◌∷◌, refl, sym, ap, ◌∙◌, arith, suc, inl, inr, ◌⊎◌}
use Rattle.std.specs.Prelude.{Option, Some, None, find, slice_get, zip}
use Rattle.std.specs.Option.{option_map}
use Rattle.std.specs.List.{enumerate_from}
use Rattle.am_names.proofs.Basics.{some_injective, none_is_not_some}
use Rattle.am_map.specs.{Row}
use Rattle.am_master.specs.{line_at, has_point as is_point}
use Rattle.am_master.specs.declared.point.Point.{Point}
use Rattle.am_master.specs.declared.point.Point.TheVariants.{Direct, Indirect}
use Rattle.am_master.specs.MasterRow.{MasterRow}
use Rattle.am_daemon.specs.{Line, has_point}

-- both crates say alike what point a path is
same_point : (path : List (List ℕ)) (point : Point) → is_point path point ≡ has_point path point
same_point path Direct = refl
same_point path (Indirect names) = refl

-- the first of the lines from a place on whose point is the path, and so beside their maps
abbrev pub place_from : List (List ℕ) → ℕ → List MasterRow → Option ℕ
place_from path at rows =
    option_map (λ line. line.0) (find (λ line. is_point path line.1.point) (enumerate_from at rows))

abbrev pub line_from : List (List ℕ) → ℕ → List MasterRow → List (List Row) → Option Line
line_from path at rows maps =
    find (λ line. has_point path line.1.0.point) (enumerate_from at (zip rows maps))

-- a line that is found, with the map at its place, if there is one
record IsFound (path : List (List ℕ)) (at : ℕ) (rows : List MasterRow) (maps : List (List Row)) (nth : ℕ) (row : MasterRow) : Type 0 where
  place : place_from path at rows ≡ Some (at + nth)
  row_is : slice_get rows nth ≡ Some row
  beside : line_from path at rows maps ≡ option_map (λ rows_of_map. (at + nth, (row, rows_of_map))) (slice_get maps nth)

-- no line is found
record IsNone (path : List (List ℕ)) (at : ℕ) (rows : List MasterRow) (maps : List (List Row)) : Type 0 where
  place : place_from path at rows ≡ None
  beside : line_from path at rows maps ≡ None

-- whatever the maps are, no line is found, or the same one is
abbrev Comes : List (List ℕ) → ℕ → List MasterRow → Type 0
Comes path at rows =
    ((maps : List (List Row)) → IsNone path at rows maps)
    ⊎ ((nth : ℕ) × (row : MasterRow) × ((maps : List (List Row)) → IsFound path at rows maps nth row))

module _ (path : List (List ℕ)) where
  here : (at : ℕ) (row : MasterRow) (rows : List MasterRow) (maps : List (List Row)) → is_point path row.point ≡ true → IsFound path at (row ∷ rows) maps 0 row
  here at row rows maps e =
      let same : at ≡ at + 0 = omega arith in
      record {
        place = rw e (ap (λ (n : ℕ). Some n) same);
        row_is = refl;
        beside = beside_of maps;
      }
    where
      beside_of : (ms : List (List Row)) → line_from path at (row ∷ rows) ms ≡ option_map (λ rows_of_map. (at + 0, (row, rows_of_map))) (slice_get ms 0)
      beside_of [] = refl
      beside_of (m ∷ ms) =
          let same : at ≡ at + 0 = omega arith in
          let is : has_point path row.point ≡ true = sym (same_point path row.point) ∙ e in
          rw is (ap (λ (n : ℕ). Some (n, (row, m))) same)

  later_found : (at : ℕ) (row : MasterRow) (rows : List MasterRow) (maps : List (List Row)) (nth : ℕ) (r : MasterRow) → is_point path row.point ≡ false → ((ms : List (List Row)) → IsFound path (at + 1) rows ms nth r) → IsFound path at (row ∷ rows) maps (suc nth) r
  later_found at row rows maps nth r e more =
      let same : at + 1 + nth ≡ at + suc nth = omega arith in
      record {
        place = rw e ((more maps).place ∙ ap (λ (n : ℕ). Some n) same);
        row_is = (more maps).row_is;
        beside = beside_of maps;
      }
    where
      beside_of : (ms : List (List Row)) → line_from path at (row ∷ rows) ms ≡ option_map (λ rows_of_map. (at + suc nth, (r, rows_of_map))) (slice_get ms (suc nth))
      beside_of [] = refl
      beside_of (m ∷ ms) =
          let same : at + 1 + nth ≡ at + suc nth = omega arith in
          let is : has_point path row.point ≡ false = sym (same_point path row.point) ∙ e in
          rw is ((more ms).beside ∙ ap (λ (n : ℕ). option_map (λ rows_of_map. (n, (r, rows_of_map))) (slice_get ms nth)) same)

  later_none : (at : ℕ) (row : MasterRow) (rows : List MasterRow) (maps : List (List Row)) → is_point path row.point ≡ false → ((ms : List (List Row)) → IsNone path (at + 1) rows ms) → IsNone path at (row ∷ rows) maps
  later_none at row rows maps e more = record {
    place = rw e (more maps).place;
    beside = beside_of maps;
  }
    where
      beside_of : (ms : List (List Row)) → line_from path at (row ∷ rows) ms ≡ None
      beside_of [] = refl
      beside_of (m ∷ ms) =
          let is : has_point path row.point ≡ false = sym (same_point path row.point) ∙ e in
          rw is (more ms).beside

  comes : (at : ℕ) (rows : List MasterRow) → Comes path at rows
  comes at [] = inl (λ maps. record { place = refl; beside = refl })
  comes at (row ∷ rows) = by (is_point path row.point) refl (comes (at + 1) rows)
    where
      by : (b : Bool) → is_point path row.point ≡ b → Comes path (at + 1) rows → Comes path at (row ∷ rows)
      by true e rest = inr (0, row, λ maps. here at row rows maps e)
      by false e (inl none) = inl (λ maps. later_none at row rows maps e none)
      by false e (inr found) = inr (suc found.0, found.1, λ maps. later_found at row rows maps found.0 found.1 e found.2)

-- no line is found, so none is beside its map
pub no_line : (path : List (List ℕ)) (rows : List MasterRow) (maps : List (List Row)) → line_at rows path ≡ None → line_from path 0 rows maps ≡ None
no_line path rows maps e = by (comes path 0 rows)
  where
    by : Comes path 0 rows → line_from path 0 rows maps ≡ None
    by (inl none) = (none maps).beside
    by (inr found) = absurd (none_is_not_some _ (sym e ∙ (found.2 maps).place))

-- the line at a place, beside the map at this place, if there is one
pub record IsLine (path : List (List ℕ)) (rows : List MasterRow) (maps : List (List Row)) (at : ℕ) (row : MasterRow) : Type 0 where
  pub row_is : slice_get rows at ≡ Some row
  pub beside : line_from path 0 rows maps ≡ option_map (λ rows_of_map. (at, (row, rows_of_map))) (slice_get maps at)

pub line_is : (path : List (List ℕ)) (rows : List MasterRow) (maps : List (List Row)) (at : ℕ) → line_at rows path ≡ Some at → (row : MasterRow) × IsLine path rows maps at row
line_is path rows maps at e = by (comes path 0 rows)
  where
    by : Comes path 0 rows → (row : MasterRow) × IsLine path rows maps at row
    by (inl none) = absurd (none_is_not_some _ (sym (none maps).place ∙ e))
    by (inr found) =
        let place : 0 + found.0 ≡ at = some_injective (sym (found.2 maps).place ∙ e) in
        let nth : found.0 ≡ at = omega (arith, place) in (
          found.1,
          record {
            row_is = ap (λ (n : ℕ). slice_get rows n) (sym nth) ∙ (found.2 maps).row_is;
            beside = (found.2 maps).beside ∙ ap (λ (n : ℕ). option_map (λ rows_of_map. (n, (found.1, rows_of_map))) (slice_get maps found.0)) place ∙ ap (λ (n : ℕ). option_map (λ rows_of_map. (at, (found.1, rows_of_map))) (slice_get maps n)) nth;
          },
        )

pub none_beside : (path : List (List ℕ)) (rows : List MasterRow) (maps : List (List Row)) (at : ℕ) (row : MasterRow) → IsLine path rows maps at row → slice_get maps at ≡ None → line_from path 0 rows maps ≡ None
none_beside path rows maps at row line none = line.beside ∙ ap (option_map (λ rows_of_map. (at, (row, rows_of_map)))) none

pub one_beside : (path : List (List ℕ)) (rows : List MasterRow) (maps : List (List Row)) (at : ℕ) (row lent : MasterRow) (map : List Row) → IsLine path rows maps at row → slice_get rows at ≡ Some lent → slice_get maps at ≡ Some map → line_from path 0 rows maps ≡ Some (at, (lent, map))
one_beside path rows maps at row lent map line row_is map_is =
    let same : row ≡ lent = some_injective (sym line.row_is ∙ row_is) in
    line.beside ∙ ap (option_map (λ rows_of_map. (at, (row, rows_of_map)))) map_is ∙ ap (λ (r : MasterRow). Some (at, (r, map))) same
