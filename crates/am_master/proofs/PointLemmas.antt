-- A mount point that a line above has.
use Rattle.std.proofs.Common.{◌≡◌, ℕ, Bool, false, List, [], ◌∷◌, ◌++◌, refl, sym, ap, ◌∙◌}
use Rattle.std.specs.Prelude.{Result, Ok, Err, if◌then◌else◌}
use Rattle.std.specs.Str.{bytes_eq}
use Rattle.std.specs.List.{list_any}
use Rattle.am_names.specs.{path_read, text_of}
use Rattle.am_lines.specs.{statement_of_words}
use Rattle.am_master.specs.{MasterFaultKind, texts_of, is_direct, below_root, is_taken, served_read, row_of, added, line_added}
use Rattle.am_master.specs.declared.fault.MasterFaultKind.TheVariants.{Twice}
use Rattle.am_master.specs.declared.point.Point.TheVariants.{Indirect}
use Rattle.am_master.specs.MasterRow.{MasterRow}
use Rattle.am_master.specs.Grammar.{ServedPoint}

-- a line with the point of an indirect map
pub line_is : (above : List MasterRow) (number : ℕ) (ws : List (List ℕ)) (first : List ℕ) (others : List (List ℕ)) (names : List (List ℕ)) (taken : Bool) →
    statement_of_words number ws ≡ record { number = number; first = first; others = others } ∷ [] → is_direct first ≡ false → below_root (path_read first) ≡ Ok names →
    is_taken above (Indirect names) ≡ taken →
    line_added above (statement_of_words number ws) ≡ added above (row_of number (if taken then Err Twice else Ok (Indirect names)) (served_read others))
line_is above number ws first others names taken said direct read t = ap (line_added above) said ∙ rw (direct, read, t) refl

-- the point was looked for by its canonical text
pub taken_is : (above : List MasterRow) (names : List (List ℕ)) (text : List ℕ) (found taken : Bool) → text ≡ text_of names → found ≡ list_any (bytes_eq text) (texts_of above) → found ≡ taken → is_taken above (Indirect names) ≡ taken
taken_is above names text found taken spelled says is = ap (λ (t : List ℕ). list_any (bytes_eq t) (texts_of above)) (sym spelled) ∙ sym says ∙ is

-- a new point, and what the words behind it are read as
pub row_added : (above : List MasterRow) (number : ℕ) (names : List (List ℕ)) (read : Result ServedPoint MasterFaultKind) (s : ServedPoint) (place : List (List ℕ)) → read ≡ Ok s → place ≡ names →
    added above (row_of number (Ok (Indirect names)) read) ≡ Ok (above ++ record { point = Indirect place; map = s.map; timeout = s.timeout; line = number } ∷ [])
row_added above number names read s place e same =
    rw e (ap (λ (ns : List (List ℕ)). Ok (above ++ record { point = Indirect ns; map = s.map; timeout = s.timeout; line = number } ∷ [])) (sym same))
