-- What lines that are left make of a head that was taken so far. For the code
-- alone: own choice.
use Rattle.std.specs.Prelude.{◌≡◌, ℕ, ◌+◌, List, length, drop, Option, None, Some, if◌then◌else◌}
use Rattle.am_script.specs.declared.heading.Stage.{Stage}
use Rattle.am_script.specs.declared.heading.Stage.TheVariants as stages
use Rattle.am_script.specs.Sections.{Section, Part, parts_in, parts_of_lines}
use Rattle.am_script.specs.Head.{Head, Headed, is_map, head_of, limits_then, negative_then, master_then, maps_then}
use Rattle.am_script.specs.Heading.{HeadSoFar}

-- what a head goes on as that has said this, outside of sections
abbrev pub stage_then : Stage → Head → List Part → Headed
stage_then stages.Start said parts = limits_then said parts
stage_then stages.Limited said parts = negative_then said parts
stage_then stages.Lasting said parts = master_then said parts
stage_then stages.Mastered said parts = maps_then said parts

-- the same in a section
abbrev pub section_then : Section → Head → List Part → Headed
section_then section said parts = if is_map section then maps_then said parts else master_then said parts

-- how a head goes that has said this, in this section or outside of any, where these lines are left
abbrev pub left_in : Option Section → HeadSoFar → ℕ → List (List ℕ) → Headed
left_in None head before lines = stage_then head.stage head.said (parts_in None before lines)
left_in (Some section) head before lines = section_then section head.said (parts_in (Some section) before lines)

-- how the head goes whose lines so far say this, where these lines are left
abbrev pub head_left : HeadSoFar → ℕ → List (List ℕ) → Headed
head_left head before lines = left_in head.within head before lines

-- of all lines so many are taken, which say this, and these are left
pub record IsLeft (all : List (List ℕ)) (head : HeadSoFar) (number : ℕ) (rest : List (List ℕ)) : Type 0 where
  pub goes : head_of (parts_of_lines all) ≡ head_left head number rest
  pub behind : drop number all ≡ rest
  pub counted : length all ≡ number + length rest
