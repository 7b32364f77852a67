-- The places of the lines by the texts of their points, for the code alone (auto.master(5),
-- "FORMAT").
use Rattle.std.specs.Prelude.{◌≡◌, ◌+◌, ℕ, Bool, true, false, All, List, [], ◌∷◌, ◌++◌, ⊤}
use Rattle.std.specs.Str.{bytes_eq}
use Rattle.std.specs.List.{list_all, list_any}
use Rattle.am_names.specs.{is_name, text_of}
use Rattle.am_master.specs.declared.point.Point.{Point}
use Rattle.am_master.specs.declared.point.Point.TheVariants.{Direct, Indirect}
use Rattle.am_master.specs.MasterRow.{MasterRow}

-- the canonical text of a point and the place of its line
abbrev pub Placed : Type 0
Placed = List ℕ × ℕ

-- an indirect point with the place of its line; `/-` has no text
abbrev pub placed_at : ℕ → Point → List Placed
placed_at at Direct = []
placed_at at (Indirect names) = (text_of names, at) ∷ []

-- the points of lines that stand from this place on
abbrev pub placed_from : ℕ → List MasterRow → List Placed
placed_from at [] = []
placed_from at (row ∷ rows) = placed_at at row.point ++ placed_from (at + 1) rows

-- the point has one of the texts
abbrev pub is_placed : List Placed → Point → Bool
is_placed points Direct = false
is_placed points (Indirect names) = list_any (λ p. bytes_eq (text_of names) p.0) points

-- a path that has a canonical text
abbrev pub IsNamed : Point → Type 0
IsNamed Direct = ⊤
IsNamed (Indirect names) = list_all is_name names ≡ true

-- these are just the points of the lines
pub record ArePoints (points : List Placed) (rows : List MasterRow) : Type 0 where
  pub placed : points ≡ placed_from 0 rows
  pub named : All (λ row. IsNamed row.point) rows
