-- The mount points that lines have (auto.master(5), "FORMAT").
use Rattle.std.specs.Prelude.{ℕ, Bool, false, List, [], ◌∷◌, Option, find}
use Rattle.std.specs.Str.{bytes_eq}
use Rattle.std.specs.List.{list_any, flat_map, enumerate_from}
use Rattle.std.specs.Option.{option_map}
use Rattle.am_names.specs.{same_names, text_of}
use Rattle.am_master.specs.declared.point.Point.{Point}
use Rattle.am_master.specs.declared.point.Point.TheVariants.{Direct, Indirect}
use Rattle.am_master.specs.MasterRow.{MasterRow}

-- the canonical text of an indirect point; `/-` has none
abbrev pub point_texts : Point → List (List ℕ)
point_texts Direct = []
point_texts (Indirect names) = text_of names ∷ []

-- the canonical texts of the lines' points
abbrev pub texts_of : List MasterRow → List (List ℕ)
texts_of rows = flat_map (λ row. point_texts row.point) rows

-- the point has one of these texts
abbrev pub is_listed : List (List ℕ) → Point → Bool
is_listed texts Direct = false
is_listed texts (Indirect names) = list_any (bytes_eq (text_of names)) texts

-- the point is this path
abbrev pub has_point : List (List ℕ) → Point → Bool
has_point path Direct = false
has_point path (Indirect names) = same_names names path

-- the place among the lines, from 0, of the first whose point is this path
abbrev pub line_at : List MasterRow → List (List ℕ) → Option ℕ
line_at rows path =
    option_map (λ line. line.0)
    (find (λ line. has_point path line.1.point) (enumerate_from 0 rows))
