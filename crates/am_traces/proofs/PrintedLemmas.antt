-- A printed trace says what is seen of its events.
use Rattle.std.proofs.Common.{◌≡◌, ℕ, ◌^◌, ◌<◌, true, false, List, [], ◌∷◌, ◌++◌, length, refl, sym, subst, arith, rules, inl, inr}
use Rattle.std.specs.Prelude.{codes, decimal, ◌==◌}
use Rattle.std.specs.List.{list_all}
use Rattle.std.proofs.lemmas.Bool.Decides.{nat_tests}
use Rattle.std.proofs.lemmas.List.{append_assoc}
use Rattle.std.proofs.lemmas.List.Elements.{All-append, All-cons}
use Rattle.std.proofs.lemmas.List.Splits.{slice_split_at}
use Rattle.std.proofs.lemmas.Fmt.{digits_decimal, decimal_nonempty}
use Rattle.am_names.proofs.Basics.{left_of_and, right_of_and}
use Rattle.am_lines.specs.{is_digit, is_line_feed}
use Rattle.am_script.specs.{EndsNoLine, Shown, answer_text, lines_of}
use Rattle.am_state.specs.{Obs}
use Rattle.am_views.specs.{TraceStyle, event_text, number_part, obs_text, obs_lines, shown_text, printed_trace}
use Rattle.am_views.specs.declared.trace.TraceStyle.TheVariants.{WithNumbers, Plain}
use Rattle.am_traces.specs.Says.{IsObs, is_indented, IsTraceOf}
use Rattle.am_traces.specs.Printed.{AreOnLines, IsOnLines, AllOnLines, seen_in}
use Rattle.am_traces.proofs.NumberLemmas.{own}

-- ---- no line ends in it

no_end : EndsNoLine []
no_end = search rules

one_byte : (b : ℕ) (text : List ℕ) → is_line_feed b ≡ false → EndsNoLine text → EndsNoLine (b ∷ text)
one_byte b text e h = All-cons (λ b. is_line_feed b ≡ false) b text e h

joined : (one other : List ℕ) → EndsNoLine one → EndsNoLine other → EndsNoLine (one ++ other)
joined one other g h = All-append (λ b. is_line_feed b ≡ false) one other g h

digit_ends_none : (b : ℕ) → is_digit b ≡ true → is_line_feed b ≡ false
digit_ends_none b h = grind (arith, nat_tests)

digits_end_none : (ds : List ℕ) → list_all is_digit ds ≡ true → EndsNoLine ds
digits_end_none [] h = no_end
digits_end_none (d ∷ ds) h =
    one_byte d ds (digit_ends_none d (left_of_and (is_digit d) (list_all is_digit ds) h))
    (digits_end_none ds (right_of_and (is_digit d) (list_all is_digit ds) h))

number_ends_none : (n : ℕ) → n < 2 ^ 64 → EndsNoLine (decimal n)
number_ends_none n h = digits_end_none (decimal n) (digits_decimal own n h)

digit_is_no_blank : (b : ℕ) → is_digit b ≡ true → (b == 32) ≡ false
digit_is_no_blank b h = grind (arith, nat_tests)

not_indented : (ds text : List ℕ) → list_all is_digit ds ≡ true → 0 < length ds → is_indented (ds ++ text) ≡ false
not_indented [] text h some = absurd (omega arith)
not_indented (d ∷ ds) text h some = digit_is_no_blank d (left_of_and (is_digit d) (list_all is_digit ds) h)

-- ---- a line, and others below it

plain : (line rest : List ℕ) (seen : List Obs) → EndsNoLine line → is_indented line ≡ false → IsTraceOf (lines_of rest) seen → IsTraceOf (lines_of (line ++ 10 ∷ rest)) seen
plain line rest seen whole i h =
    subst (λ (l : List (List ℕ)). IsTraceOf l seen) (sym (slice_split_at is_line_feed line 10 rest whole refl)) (inl (i, h))

said : (obs : Obs) (rest : List ℕ) (seen : List Obs) → IsObs obs → EndsNoLine (obs_text obs) → IsTraceOf (lines_of rest) seen → IsTraceOf (lines_of ((codes "  " ++ obs_text obs) ++ 10 ∷ rest)) (obs ∷ seen)
said obs rest seen is whole h =
    let line : EndsNoLine (codes "  " ++ obs_text obs) = one_byte 32 (codes " " ++ obs_text obs) refl (one_byte 32 (obs_text obs) refl whole) in
    subst (λ (l : List (List ℕ)). IsTraceOf l (obs ∷ seen)) (sym (slice_split_at is_line_feed (codes "  " ++ obs_text obs) 10 rest line refl))
    (inr (record { indented = refl; obs = obs; others = seen; parted = refl; says = record { is_one = is; printed = refl }; follow = h }))

all_said : (seen : List Obs) (rest : List ℕ) (others : List Obs) → AreOnLines seen → IsTraceOf (lines_of rest) others → IsTraceOf (lines_of (obs_lines seen ++ rest)) (seen ++ others)
all_said [] rest others are h = h
all_said (obs ∷ seen) rest others are h =
    let e : obs_lines (obs ∷ seen) ++ rest ≡ (codes "  " ++ obs_text obs) ++ 10 ∷ (obs_lines seen ++ rest) = simp append_assoc in
    subst (λ (t : List ℕ). IsTraceOf (lines_of t) (obs ∷ (seen ++ others))) (sym e)
    (said obs (obs_lines seen ++ rest) (seen ++ others) are.0.0 are.0.1 (all_said seen rest others are.1 h))

-- the number before an event, if there is one
number_part_ends_none : (style : TraceStyle) (n : ℕ) → n < 2 ^ 64 → EndsNoLine (number_part style n)
number_part_ends_none WithNumbers n h = number_ends_none n h
number_part_ends_none Plain n h = no_end

event_is_not_indented : (style : TraceStyle) (n : ℕ) (text : List ℕ) → n < 2 ^ 64 → is_indented (number_part style n ++ (codes ": " ++ text)) ≡ false
event_is_not_indented WithNumbers n text h = not_indented (decimal n) (codes ": " ++ text) (digits_decimal own n h) (decimal_nonempty n h)
event_is_not_indented Plain n text h = refl

shown : (style : TraceStyle) (row : Shown) (rest : List ℕ) (others : List Obs) → IsOnLines row → IsTraceOf (lines_of rest) others → IsTraceOf (lines_of (shown_text style row ++ rest)) (row.seen ++ others)
shown style row rest others is h =
    let number : List ℕ = number_part style row.asked.line in
    let event : List ℕ = event_text row.asked.event in
    let asked : List ℕ = number ++ (codes ": " ++ event) in
    let count : List ℕ = codes " : " ++ decimal (length row.seen) in
    let told : List ℕ = codes "= " ++ (answer_text row.answer ++ count) in
    let below : List ℕ = obs_lines row.seen ++ rest in
    let e : shown_text style row ++ rest ≡ asked ++ 10 ∷ (told ++ 10 ∷ below) = simp append_assoc in
    let asked_whole : EndsNoLine asked =
    joined number (codes ": " ++ event) (number_part_ends_none style row.asked.line is.number) (one_byte 58 (codes " " ++ event) refl (one_byte 32 event refl is.asked)) in
    let counted : EndsNoLine count = one_byte 32 (codes ": " ++ decimal (length row.seen)) refl (one_byte 58 (codes " " ++ decimal (length row.seen)) refl (one_byte 32 (decimal (length row.seen)) refl (number_ends_none (length row.seen) is.count))) in
    let answer : EndsNoLine (answer_text row.answer ++ count) = joined (answer_text row.answer) count is.told counted in
    let told_whole : EndsNoLine told = one_byte 61 (codes " " ++ (answer_text row.answer ++ count)) refl (one_byte 32 (answer_text row.answer ++ count) refl answer) in
    subst (λ (t : List ℕ). IsTraceOf (lines_of t) (row.seen ++ others)) (sym e)
    (plain asked (told ++ 10 ∷ below) (row.seen ++ others) asked_whole (event_is_not_indented style row.asked.line event is.number)
    (plain told below (row.seen ++ others) told_whole refl (all_said row.seen rest others is.seen h)))

pub printed_says : (style : TraceStyle) (rows : List Shown) → AllOnLines rows → IsTraceOf (lines_of (printed_trace style rows)) (seen_in rows)
printed_says style [] h = inl (refl, refl)
printed_says style (row ∷ rows) h = shown style row (printed_trace style rows) (seen_in rows) h.0 (printed_says style rows h.1)
