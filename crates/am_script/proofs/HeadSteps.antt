-- A head that is read line by line goes as its parts say.
use Rattle.std.proofs.Common.{◌≡◌, ◌+◌, ℕ, Bool, true, false, cond, List, [], ◌∷◌, ◌++◌, Option, Some, None, refl, sym, ap, ◌∙◌}
use Rattle.std.specs.Option.{option_map}
use Rattle.std.specs.Prelude.{codes, drop, Result, Ok, Err, if◌then◌else◌}
use Rattle.am_names.specs.declared.limits.Limits.{Limits}
use Rattle.am_master.specs.MasterRow.{MasterRow}
use Rattle.am_script.specs.{ScriptFault, Stage, fault_at, is_long, are_skipped, limits_read, negative_read, Section, Part, Alone, Whole, Unended, Long, parts_in, part_by, with_line, is_end, are_only, map_name, Headed, Begins, Ends, Faulty, is_limits, is_negative, with_negative, limits_by, negative_by, negative_then, master_by, section_read, bad_section, too_long, stage_then, section_then, left_in, head_left, HeadSoFar, Taken, GoesOn, EventsBegin, HeadFault, after_line, after_short_line, after_words, after_lone_line, after_limits, after_negative, after_events, may_open, closed, mastered, first_open}
use Rattle.am_script.specs.declared.heading.Stage.TheVariants as stages
use Rattle.am_script.specs.declared.fault.ScriptFaultKind.TheVariants.{BadSection, LongLine}
use Rattle.am_lines.specs.{words_of}
use Rattle.am_script.specs.Head.{Head}

-- what follows a line by what it makes of the head
abbrev pub follows : Taken → ℕ → (HeadSoFar → Headed) → Headed
follows (GoesOn next) number others = others next
follows (EventsBegin head) number others = Begins head.said number
follows (HeadFault fault) number others = Faulty fault

-- two functions of choices by the same tests
choose : {A B T : Type 0} (f : A → T) (g : B → T) (b : Bool) (p q : A) (x y : B) → f p ≡ g x → f q ≡ g y → f (if b then p else q) ≡ g (if b then x else y)
choose f g true p q x y h k = h
choose f g false p q x y h k = k

-- ---- in a section

master_ends : (read : Result (List MasterRow) ScriptFault) (first number : ℕ) (head : HeadSoFar) (lines : List (List ℕ)) →
    master_by read first head.said (parts_in None number lines) ≡ follows (mastered read head first) number (λ next. head_left next number lines)
master_ends (Ok rows) first number head lines = refl
master_ends (Err fault) first number head lines = refl

section_ends : (first : ℕ) (name : Option (List ℕ)) (text : List ℕ) (number : ℕ) (head : HeadSoFar) (lines : List (List ℕ)) →
    section_then (record { first = first; name = name; text = text }) head.said (Whole (record { first = first; name = name; text = text }) ∷ parts_in None number lines)
    ≡ follows (closed head (record { first = first; name = name; text = text })) number (λ next. head_left next number lines)
section_ends first None text number head lines = master_ends (section_read (record { first = first; name = None; text = text })) first number head lines
section_ends first (Some name) text number head lines = refl

section_long : (first : ℕ) (name : Option (List ℕ)) (text : List ℕ) (number : ℕ) (said : Head) →
    section_then (record { first = first; name = name; text = text }) said (Unended (record { first = first; name = name; text = text }) (Some number) ∷ []) ≡ too_long number
section_long first None text number said = refl
section_long first (Some name) text number said = refl

-- ---- outside of sections

stage_long : (stage : Stage) (said : Head) (number : ℕ) → stage_then stage said (Long number ∷ []) ≡ too_long number
stage_long stages.Start said number = refl
stage_long stages.Limited said number = refl
stage_long stages.Lasting said number = refl
stage_long stages.Mastered said number = refl

-- the parts from an open section on begin with it
open_parts : (P : List Part → Type 0) (first : ℕ) (name : Option (List ℕ)) →
    ((text : List ℕ) (long : Option ℕ) (parts : List Part) → P (Unended (record { first = first; name = name; text = text }) long ∷ parts)) →
    ((text : List ℕ) (parts : List Part) → P (Whole (record { first = first; name = name; text = text }) ∷ parts)) →
    (text : List ℕ) (number : ℕ) (lines : List (List ℕ)) → P (parts_in (Some (record { first = first; name = name; text = text })) number lines)
open_parts P first name cut whole text number [] = cut text None []
open_parts P first name cut whole text number (line ∷ lines) =
    elim (is_long line) as (λ b. P (cond b (Unended (record { first = first; name = name; text = text }) (Some (number + 1)) ∷ []) (cond (is_end line) (Whole (record { first = first; name = name; text = text }) ∷ parts_in None (number + 1) lines) (parts_in (Some (with_line (record { first = first; name = name; text = text }) line)) (number + 1) lines)))) [
      | true ↦ cut text (Some (number + 1)) []
      | false ↦ elim (is_end line) as (λ e. P (cond e (Whole (record { first = first; name = name; text = text }) ∷ parts_in None (number + 1) lines) (parts_in (Some (with_line (record { first = first; name = name; text = text }) line)) (number + 1) lines))) [
        | true ↦ whole text (parts_in None (number + 1) lines)
        | false ↦ open_parts P first name cut whole (text ++ line ++ 10 ∷ []) (number + 1) lines
      ]
    ]

abbrev OpensAs : Stage → ℕ → Option (List ℕ) → Head → List Part → Type 0
OpensAs stage first name said parts =
    stage_then stage said parts
    ≡ (if may_open stage (record { first = first; name = name; text = [] }) then section_then (record { first = first; name = name; text = [] }) said parts else bad_section first)

opens_as : (stage : Stage) (first : ℕ) (name : Option (List ℕ)) (said : Head) (number : ℕ) (lines : List (List ℕ)) →
    OpensAs stage first name said (parts_in (Some (record { first = first; name = name; text = [] })) number lines)
opens_as stages.Start first None said number lines = open_parts (OpensAs stages.Start first None said) first None (λ text long parts. refl) (λ text parts. refl) [] number lines
opens_as stages.Start first (Some name) said number lines = open_parts (OpensAs stages.Start first (Some name) said) first (Some name) (λ text long parts. refl) (λ text parts. refl) [] number lines
opens_as stages.Limited first None said number lines = open_parts (OpensAs stages.Limited first None said) first None (λ text long parts. refl) (λ text parts. refl) [] number lines
opens_as stages.Limited first (Some name) said number lines = open_parts (OpensAs stages.Limited first (Some name) said) first (Some name) (λ text long parts. refl) (λ text parts. refl) [] number lines
opens_as stages.Lasting first None said number lines = open_parts (OpensAs stages.Lasting first None said) first None (λ text long parts. refl) (λ text parts. refl) [] number lines
opens_as stages.Lasting first (Some name) said number lines = open_parts (OpensAs stages.Lasting first (Some name) said) first (Some name) (λ text long parts. refl) (λ text parts. refl) [] number lines
opens_as stages.Mastered first None said number lines = open_parts (OpensAs stages.Mastered first None said) first None (λ text long parts. refl) (λ text parts. refl) [] number lines
opens_as stages.Mastered first (Some name) said number lines = open_parts (OpensAs stages.Mastered first (Some name) said) first (Some name) (λ text long parts. refl) (λ text parts. refl) [] number lines

section_begins : (b : Bool) (first : ℕ) (name : Option (List ℕ)) (head : HeadSoFar) (number : ℕ) (lines : List (List ℕ)) →
    (if b then section_then (record { first = first; name = name; text = [] }) head.said (parts_in (Some (record { first = first; name = name; text = [] })) number lines) else bad_section first)
    ≡ follows (if b then GoesOn (record head { within = Some (record { first = first; name = name; text = [] }) }) else HeadFault (fault_at first BadSection)) number (λ next. head_left next number lines)
section_begins true first name head number lines = refl
section_begins false first name head number lines = refl

events_step : (b : Bool) (head : HeadSoFar) (number : ℕ) (others : HeadSoFar → Headed) →
    (if b then Begins head.said number else bad_section number) ≡ follows (if b then EventsBegin head else HeadFault (fault_at number BadSection)) number others
events_step true head number others = refl
events_step false head number others = refl

limits_step : (limits : Option Limits) (head : HeadSoFar) (number : ℕ) (lines : List (List ℕ)) → head.within ≡ None →
    limits_by limits number head.said (parts_in None number lines) ≡ follows (after_limits head number limits) number (λ next. head_left next number lines)
limits_step (Some limits) head number lines outside = ap (λ (w : Option Section). left_in w (record head { stage = stages.Limited; said = record head.said { limits = limits } }) number lines) (sym outside)
limits_step None head number lines outside = refl

negative_step : (seconds : Option ℕ) (head : HeadSoFar) (number : ℕ) (lines : List (List ℕ)) → head.within ≡ None →
    negative_by seconds number head.said (parts_in None number lines) ≡ follows (after_negative head number seconds) number (λ next. head_left next number lines)
negative_step (Some seconds) head number lines outside = ap (λ (w : Option Section). left_in w (record head { stage = stages.Lasting; said = with_negative head.said seconds }) number lines) (sym outside)
negative_step None head number lines outside = refl

-- neither limits nor a section
later_step : (head : HeadSoFar) (number : ℕ) (words : List (List ℕ)) (lines : List (List ℕ)) → head.within ≡ None →
    negative_then head.said (Alone number words ∷ parts_in None number lines)
    ≡ follows (if is_negative words then after_negative head number (negative_read (drop 1 words)) else after_events head number words) number (λ next. head_left next number lines)
later_step head number words lines outside =
    choose (λ (h : Headed). h) (λ (t : Taken). follows t number (λ next. head_left next number lines)) (is_negative words) _ _ _ _
    (negative_step (negative_read (drop 1 words)) head number lines outside)
    (events_step (are_only (codes "events") words) head number _)

alone_step : (stage : Stage) (head : HeadSoFar) (number : ℕ) (words : List (List ℕ)) (lines : List (List ℕ)) → head.within ≡ None →
    stage_then stage head.said (Alone number words ∷ parts_in None number lines) ≡ follows (after_lone_line (record head { stage = stage }) number words) number (λ next. head_left next number lines)
alone_step stages.Start head number words lines outside =
    choose (λ (h : Headed). h) (λ (t : Taken). follows t number (λ next. head_left next number lines)) (is_limits words) _ _ _ _
    (limits_step (limits_read (drop 1 words)) (record head { stage = stages.Start }) number lines outside)
    (later_step (record head { stage = stages.Start }) number words lines outside)
alone_step stages.Limited head number words lines outside = later_step (record head { stage = stages.Limited }) number words lines outside
alone_step stages.Lasting head number words lines outside = events_step (are_only (codes "events") words) (record head { stage = stages.Lasting }) number _
alone_step stages.Mastered head number words lines outside = events_step (are_only (codes "events") words) (record head { stage = stages.Mastered }) number _

abbrev opened_by : Bool → Option (List ℕ) → ℕ → Option Section
opened_by is_master name number =
    if is_master then Some (record { first = number; name = None; text = [] })
    else option_map (λ (n : List ℕ). record { first = number; name = Some n; text = [] }) name

words_step : (is_master : Bool) (name : Option (List ℕ)) (head : HeadSoFar) (number : ℕ) (words : List (List ℕ)) (lines : List (List ℕ)) → head.within ≡ None →
    stage_then head.stage head.said (part_by (opened_by is_master name number) number words (λ s. parts_in (Some s) number lines) (parts_in None number lines)) ≡ follows (after_words (opened_by is_master name number) head number words) number (λ next. head_left next number lines)
words_step true name head number words lines outside =
    opens_as head.stage number None head.said number lines ∙ section_begins (may_open head.stage (record { first = number; name = None; text = [] })) number None head number lines
words_step false (Some name) head number words lines outside =
    opens_as head.stage number (Some name) head.said number lines ∙ section_begins (may_open head.stage (record { first = number; name = Some name; text = [] })) number (Some name) head number lines
words_step false None head number words lines outside = alone_step head.stage head number words lines outside

-- ---- any line

left_step : (within : Option Section) (head : HeadSoFar) (before : ℕ) (line : List ℕ) (lines : List (List ℕ)) → head.within ≡ within →
    left_in within head before (line ∷ lines) ≡ follows (if is_long line then HeadFault (fault_at (before + 1) LongLine) else after_short_line within head (before + 1) line) (before + 1) (λ next. head_left next (before + 1) lines)
left_step None head before line lines outside =
    let words = words_of line in
    let next = λ (t : Taken). follows t (before + 1) (λ (n : HeadSoFar). head_left n (before + 1) lines) in
    choose (stage_then head.stage head.said) next (is_long line) _ _ _ _
    (stage_long head.stage head.said (before + 1))
    (choose (stage_then head.stage head.said) next (are_skipped words) _ _ _ _
    (ap (λ (w : Option Section). left_in w head (before + 1) lines) (sym outside))
    (words_step (are_only (codes "master") words) (map_name words) head (before + 1) words lines outside))
left_step (Some section) head before line lines inside =
    let next = λ (t : Taken). follows t (before + 1) (λ (n : HeadSoFar). head_left n (before + 1) lines) in
    choose (section_then section head.said) next (is_long line) _ _ _ _
    (section_long section.first section.name section.text (before + 1) head.said)
    (choose (section_then section head.said) next (is_end line) _ _ _ _
    (section_ends section.first section.name section.text (before + 1) head lines)
    refl)

-- the first of the lines that are left is taken
pub head_step : (head : HeadSoFar) (before : ℕ) (line : List ℕ) (lines : List (List ℕ)) →
    head_left head before (line ∷ lines) ≡ follows (after_line head (before + 1) line) (before + 1) (λ next. head_left next (before + 1) lines)
head_step head before line lines = left_step head.within head before line lines refl

stage_ends : (stage : Stage) (said : Head) → stage_then stage said [] ≡ Ends None
stage_ends stages.Start said = refl
stage_ends stages.Limited said = refl
stage_ends stages.Lasting said = refl
stage_ends stages.Mastered said = refl

open_ends : (first : ℕ) (name : Option (List ℕ)) (text : List ℕ) (said : Head) →
    section_then (record { first = first; name = name; text = text }) said (Unended (record { first = first; name = name; text = text }) None ∷ []) ≡ Ends (Some first)
open_ends first None text said = refl
open_ends first (Some name) text said = refl

left_ends : (within : Option Section) (head : HeadSoFar) (number : ℕ) → left_in within head number [] ≡ Ends (first_open within)
left_ends None head number = stage_ends head.stage head.said
left_ends (Some section) head number = open_ends section.first section.name section.text head.said

-- no line is left
pub head_ends_so : (head : HeadSoFar) (number : ℕ) → head_left head number [] ≡ Ends (first_open head.within)
head_ends_so head number = left_ends head.within head number
