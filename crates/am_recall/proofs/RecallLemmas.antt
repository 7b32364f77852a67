-- Lines that are left out of a text.
use Rattle.std.proofs.Common.{◌≡◌, ◌≤◌, ◌<◌, ◌+◌, ◌-◌, ℕ, zero, suc, false, ltb, List, [], ◌∷◌, ◌++◌, length, take, drop, Some, refl, sym, ap, subst, ◌∙◌, append_assoc, append-nil, arith}
use Rattle.std.specs.Prelude.{position}
use Rattle.std.specs.List.{All, position_or_len, before_first, after_first}
use Rattle.std.proofs.lemmas.Option.{cond_some}
use Rattle.std.proofs.lemmas.Bool.{ltb-true}
use Rattle.std.proofs.lemmas.List.{drop-drop}
use Rattle.std.proofs.lemmas.List.Splits.{slice_split_at}
use Rattle.std.proofs.lemmas.List.Sums.{split_at_first, fails_before_first, passes_at_first}
use Rattle.std.proofs.lemmas.Grind.{common_steps}
use Rattle.am_lines.specs.{is_line_feed}
use Rattle.am_recall.specs.Lines.{LeavesLines, raw_lines}

-- a line feed stands within the bytes
pub place_within : (bytes : List ℕ) (at : ℕ) → position is_line_feed bytes ≡ Some at → at < length bytes
place_within bytes at e =
    let h = cond_some (ltb (position_or_len is_line_feed bytes) (length bytes)) (position_or_len is_line_feed bytes) at e in
    subst (λ (i : ℕ). i < length bytes) h.1 (ltb-true _ _ h.0)

-- the first line ends at the first line feed, whatever follows the bytes
pub cut_more : (bytes : List ℕ) (at : ℕ) → position is_line_feed bytes ≡ Some at → (more : List ℕ) → raw_lines (bytes ++ more) ≡ take at bytes ∷ raw_lines (drop (at + 1) bytes ++ more)
cut_more bytes at e more =
    let p = is_line_feed in
    let h = cond_some (ltb (position_or_len p bytes) (length bytes)) (position_or_len p bytes) at e in
    let l : position_or_len p bytes < length bytes = ltb-true _ _ h.0 in
    let front : All (λ x. p x ≡ false) (before_first p bytes) = λ k d m. let k' = fails_before_first p bytes k d (grind (arith, common_steps)) in grind (arith, common_steps) in
    subst (λ (i : ℕ). raw_lines (bytes ++ more) ≡ take i bytes ∷ raw_lines (drop (i + 1) bytes ++ more)) h.1
    (ap (λ (t : List ℕ). raw_lines (t ++ more)) (split_at_first p bytes 0 l)
    ∙ ap raw_lines (append_assoc (before_first p bytes) _ more)
    ∙ slice_split_at p (before_first p bytes) _ (after_first p bytes ++ more) front (passes_at_first p bytes 0 l))

-- one line more is left out
pub leaves_more : (lines at place : ℕ) (text : List ℕ) → LeavesLines lines text (drop at text) → position is_line_feed (drop at text) ≡ Some place → LeavesLines (lines + 1) text (drop (at + (place + 1)) text)
leaves_more lines at place text h e more =
    sym (drop-drop 1 lines (raw_lines (text ++ more)))
    ∙ ap (drop 1) (h more ∙ cut_more (drop at text) place e more)
    ∙ ap (λ (t : List ℕ). raw_lines (t ++ more)) (drop-drop (place + 1) at text)

-- the lines of the text from one of them on
pub lines_from : (above number : ℕ) (text kept : List ℕ) → LeavesLines above text kept → above < number → drop (number - above - 1) (raw_lines kept) ≡ drop (number - 1) (raw_lines text)
lines_from above number text kept h within =
    let all : drop above (raw_lines text) ≡ raw_lines kept =
    ap (λ (t : List ℕ). drop above (raw_lines t)) (sym (append-nil text)) ∙ h [] ∙ ap raw_lines (append-nil kept) in
    let far : above + (number - above - 1) ≡ number - 1 = omega (arith, within) in
    ap (drop (number - above - 1)) (sym all) ∙ drop-drop (number - above - 1) above (raw_lines text)
    ∙ ap (λ (n : ℕ). drop n (raw_lines text)) far

-- ---- lines that are left

-- the lines below the first of those that are left
pub next_lines : (n : ℕ) (lines : List (List ℕ)) (first : List ℕ) (below : List (List ℕ)) → first ∷ below ≡ drop n lines → below ≡ drop (n + 1) lines
next_lines n lines first below h = ap (drop 1) h ∙ drop-drop 1 n lines

drop_none : (n : ℕ) → drop {A = List ℕ} n [] ≡ []
drop_none zero = refl
drop_none (suc n) = refl

-- behind the last line there is none
pub none_past : (m n : ℕ) (lines : List (List ℕ)) → [] ≡ drop m lines → m ≤ n → [] ≡ drop n lines
none_past m n lines none h =
    let far : m + (n - m) ≡ n = omega (arith, h) in
    sym (drop_none (n - m)) ∙ ap (drop (n - m)) none ∙ drop-drop (n - m) m lines ∙ ap (λ (k : ℕ). drop k lines) far
