-- A text is cut at its line feeds. The last line is the last of the rest.
use Rattle.std.proofs.Common.{◌≡◌, ◌<◌, ◌≤◌, ◌+◌, ℕ, cond, ltb, List, [], ◌∷◌, ◌++◌, length, take, drop, Some, None, refl, arith, ap, subst, ◌∙◌}
use Rattle.std.specs.Prelude.{position, Option, IfNone, IfSome}
use Rattle.std.specs.Borrow.{Bor}
use Rattle.std.specs.Option.{option_copied}
use Rattle.std.specs.List.{position_or_len, after_first}
use Rattle.std.proofs.lemmas.Grind.{common_steps}
use Rattle.std.proofs.lemmas.Option.{cond_some}
use Rattle.std.proofs.lemmas.Bool.{ltb-true, eqb-true}
use Rattle.std.proofs.lemmas.Bool.Decides.{nat_tests}
use Rattle.std.proofs.lemmas.List.Sums.{split_at_first, fails_before_first, passes_at_first}
use Rattle.std.proofs.lemmas.List.Splits.{length-slice_split}
use Rattle.am_lines.specs.{is_line_feed}
use Rattle.am_script.specs.{lines_of, lines_in, size_in, EndsNoLine, IsCut, last_of, cut_line}

last_more : (line : List ℕ) (lines : List (List ℕ)) → 0 < length lines → last_of (line ∷ lines) ≡ last_of lines
last_more line [] h = absurd (omega arith)
last_more line (next ∷ lines) h = refl

pub cut_line_more : (text line after : List ℕ) → lines_of text ≡ line ∷ lines_of after → cut_line text ≡ cut_line after
cut_line_more text line after e =
    let some : 0 < length (lines_of after) = omega (arith, length-slice_split is_line_feed after) in
    ap last_of e ∙ last_more line (lines_of after) some

pub cut_line_last : (text line : List ℕ) → lines_of text ≡ line ∷ [] → cut_line text ≡ line
cut_line_last text line e = ap last_of e

-- ---- at its first line feed

-- the first line and what stands behind it
pub first_and_rest : (text line : List ℕ) (rest : Option (Bor (List ℕ))) → IfNone rest (lines_of text ≡ line ∷ []) → IfSome rest (λ r. lines_of text ≡ line ∷ lines_of r.now) → lines_of text ≡ line ∷ lines_in (option_copied rest)
first_and_rest text line None alone cut = alone
first_and_rest text line (Some r) alone cut = cut

pub sizes_within : (text line : List ℕ) (rest : Option (Bor (List ℕ))) → IfNone rest (line ≡ text) → IfSome rest (λ r. 1 + length line + length r.now ≤ length text) → size_in (option_copied rest) + length line ≤ length text
sizes_within text line None whole shorter = omega (arith, ap length whole)
sizes_within text line (Some r) whole shorter = omega (arith, shorter)

not_below : (at len : ℕ) → cond (ltb at len) (Some at) None ≡ None → len ≤ at
not_below at len e = grind (arith, nat_tests)

pub ends_none : (bytes : List ℕ) → position is_line_feed bytes ≡ None → EndsNoLine bytes
ends_none bytes e = λ k d h.
    let past = not_below (position_or_len is_line_feed bytes) (length bytes) e in
    fails_before_first is_line_feed bytes k d (omega (arith, past, h))

cut_first : (text : List ℕ) → position_or_len is_line_feed text < length text → IsCut text (take (position_or_len is_line_feed text) text) (drop (position_or_len is_line_feed text + 1) text)
cut_first text h = record {
  parts = split_at_first is_line_feed text 0 h ∙ ap (λ (b : ℕ). take (position_or_len is_line_feed text) text ++ b ∷ after_first is_line_feed text) (eqb-true _ 10 (passes_at_first is_line_feed text 0 h));
  whole = λ k d m. let fails = fails_before_first is_line_feed text k d (grind (arith, common_steps)) in grind (arith, common_steps);
}

pub cut_at : (text : List ℕ) (at : ℕ) → position is_line_feed text ≡ Some at → IsCut text (take at text) (drop (at + 1) text)
cut_at text at e =
    let h = cond_some (ltb (position_or_len is_line_feed text) (length text)) (position_or_len is_line_feed text) at e in
    subst (λ (i : ℕ). IsCut text (take i text) (drop (i + 1) text)) h.1 (cut_first text (ltb-true _ _ h.0))
