-- What is expected of the lines of a head outside of its sections: own choice (docs/FORMATS.md, "The
-- head").
use Rattle.std.specs.Prelude.{◌≡◌, ℕ, Bool, false, true, not, ◌&&◌, ◌||◌, is_some, List, [], ◌∷◌, codes, bytes_eq, drop, Option, None, Some, if◌then◌else◌}
use Rattle.std.specs.List.{list_any}
use Rattle.am_script.specs.Head.{is_limits, is_negative}
use Rattle.am_script.specs.Limits.{limits_read, negative_read}
use Rattle.am_script.specs.Sections.{section_opened, are_only, is_end}
use Rattle.am_diagnosis.specs.declared.expected.Expected.{Expected}
use Rattle.am_diagnosis.specs.declared.expected.Expected.TheVariants.{Part, Order, SectionEnd}
use Rattle.am_diagnosis.specs.declared.misfit.Misfit.{Misfit}
use Rattle.am_diagnosis.specs.Parameters.{part_parameters}
use Rattle.am_diagnosis.specs.Misfits.{Words, misfit_at, misfit_in}

-- this is the first of the words
abbrev pub begins_with_word : List ℕ → Words → Bool
begins_with_word text [] = false
begins_with_word text (word ∷ words) = bytes_eq word text

-- where a line with these words is no part of a head, wherever it stands
abbrev pub part_misfit : Words → Option Misfit
part_misfit words = misfit_in Part part_parameters words

-- the words open a section
abbrev pub is_section : Words → Bool
is_section words = is_some (section_opened 0 words)

-- a line with these words is a part of a head: limits, how long failures last, the first line of a
-- section, or `events`
abbrev pub is_part : Words → Bool
is_part words =
    (is_limits words && is_some (limits_read (drop 1 words)))
    || (is_negative words && is_some (negative_read (drop 1 words)))
    || is_section words
    || are_only (codes "events") words

-- the same as a fact
abbrev pub IsPart : Words → Type 0
IsPart words = is_part words ≡ true

-- What was expected in place of a part that can't stand there, above these lines: below the first
-- line of a section its end, if no line ends it, else a part in its order.
abbrev pub misplaced : Words → List (List ℕ) → Expected
misplaced words below = if is_section words && not (list_any is_end below) then SectionEnd else Order

-- the misfit, or this was expected in place of the first word
abbrev pub or_at_first : Option Misfit → Expected → Misfit
or_at_first (Some misfit) expected = misfit
or_at_first None expected = misfit_at 0 expected

-- Where a line with these words, above these lines, isn't what may stand there in a head. Where
-- `limits` or `negative` may stand, the fault of their line is another.
abbrev pub section_misfit : Words → List (List ℕ) → Misfit
section_misfit words below =
    if is_limits words || is_negative words then misfit_at 0 Order
    else or_at_first (part_misfit words) (misplaced words below)
