-- A head that is gathered line by line: own choice (docs/FORMATS.md, "Sessions").
use Rattle.std.specs.Prelude.{ℕ, Bool, true, false, not, is_some, List, [], ◌∷◌, ◌++◌, codes, if◌then◌else◌}
use Rattle.am_lines.specs.{words_of}
use Rattle.am_script.specs.Sections.{are_only, is_end, map_name}

-- its lines, each with its line feed, and whether a section is open behind them
pub record Gathered : Type 0 where
  pub text : List ℕ
  pub within : Bool

abbrev pub nothing_gathered : Gathered
nothing_gathered = record { text = []; within = false }

-- a line with these words opens a section: `master` or `map NAME`
abbrev pub opens_section : List (List ℕ) → Bool
opens_section words = if are_only (codes "master") words then true else is_some (map_name words)

-- a section is open behind a line that stands in one, or in none
abbrev pub within_behind : Bool → List ℕ → Bool
within_behind true line = not (is_end line)
within_behind false line = opens_section (words_of line)

-- one line more
abbrev pub with_line : Gathered → List ℕ → Gathered
with_line head line = record {
  text = head.text ++ (line ++ 10 ∷ []);
  within = within_behind head.within line;
}

-- the line ends the head: outside of sections it is `events`
abbrev pub ends_head : Gathered → List ℕ → Bool
ends_head head line = if head.within then false else are_only (codes "events") (words_of line)
