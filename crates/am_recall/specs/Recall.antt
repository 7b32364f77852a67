-- What is recalled of a text that came in pieces: own choice (docs/FORMATS.md, "Below a fault").
use Rattle.std.specs.Prelude.{◌≡◌, ◌≤◌, ◌+◌, ◌-◌, ℕ, false, List, drop, Bool}
use Rattle.std.specs.Vec.{vec_capacity, vec_len}
use Rattle.am_recall.specs.declared.recalled.Recalled.{Recalled}
use Rattle.am_recall.specs.Lines.{LeavesLines, raw_lines}

-- what is recalled is what is left of this text behind some lines, unless it is lost
abbrev pub IsOf : Recalled → List ℕ → Type 0
IsOf r text = r.is_lost ≡ false → LeavesLines r.above text r.kept.items

-- the last piece had no byte
abbrev pub is_ended : Recalled → Bool
is_ended r = r.is_ended

-- there is room for so many bytes more, so that none has to be left out for them
pub record HasRoom (r : Recalled) (bytes : ℕ) : Type 0 where
  pub found : r.is_lost ≡ false
  pub few : vec_len r.kept + bytes ≤ 1048576
  pub room : vec_len r.kept + bytes ≤ vec_capacity r.kept

-- no line more is left out, and nothing is lost
pub record LosesNothing (old new : Recalled) : Type 0 where
  pub found : new.is_lost ≡ false
  pub above : new.above ≡ old.above

-- these are the lines of what is recalled, from the line of this number on, counted from 1 in the whole text
abbrev pub lines_left_at : Recalled → ℕ → List (List ℕ)
lines_left_at r number = drop (number - r.above - 1) (raw_lines r.kept.items)
