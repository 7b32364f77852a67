-- The first line of a text.
use Rattle.std.proofs.Common.{◌≡◌, ℕ, ◌+◌, true, false, cond, List, [], ◌∷◌, ◌++◌, length, refl, ap, subst, arith}
use Rattle.std.specs.List.{slice_split}
use Rattle.std.proofs.lemmas.List.Splits.{length-slice_split}
use Rattle.am_lines.specs.{Line, is_line_feed, is_joined, before_backslash, put_before, joined, lines_from}

put_before_twice : (n : ℕ) (front : List ℕ) (lines : List Line) → put_before n [] (put_before n front lines) ≡ put_before n front lines
put_before_twice n front [] = refl
put_before_twice n front (line ∷ lines) = refl

first_joined : (n : ℕ) (raw : List ℕ) (raws : List (List ℕ)) → put_before n [] (joined n (raw ∷ raws)) ≡ joined n (raw ∷ raws)
first_joined n raw raws =
    let behind = joined (n + 1) raws in
    let front : List Line = put_before n (before_backslash raw) behind in
    let alone : List Line = record { number = n; bytes = raw } ∷ behind in
    elim (is_joined raw) as (λ b. put_before n [] (cond b front alone) ≡ cond b front alone) [ true ↦ put_before_twice n (before_backslash raw) behind | false ↦ refl ]

some_parts : (n : ℕ) (text : List ℕ) (raws : List (List ℕ)) → slice_split is_line_feed text ≡ raws → put_before n [] (joined n raws) ≡ joined n raws
some_parts n text [] e =
    let none : length (slice_split is_line_feed text) ≡ 0 = ap length e in
    absurd (omega (arith, none, length-slice_split is_line_feed text))
some_parts n text (raw ∷ raws) e = first_joined n raw raws

-- the first line begins at the text's own number
pub nothing_before : (n : ℕ) (text : List ℕ) → put_before n [] (lines_from n text) ≡ lines_from n text
nothing_before n text = some_parts n text (slice_split is_line_feed text) refl

-- the lines begin with one of this number
pub record BeginAt (n : ℕ) (lines : List Line) : Type 0 where
  pub bytes : List ℕ
  pub others : List Line
  pub is : lines ≡ record { number = n; bytes = bytes } ∷ others

put_before_begins : (n : ℕ) (front : List ℕ) (lines : List Line) → BeginAt n (put_before n front lines)
put_before_begins n front [] = record { bytes = front; others = []; is = refl }
put_before_begins n front (line ∷ lines) = record { bytes = front ++ line.bytes; others = lines; is = refl }

pub lines_begin : (n : ℕ) (text : List ℕ) → BeginAt n (lines_from n text)
lines_begin n text = subst (BeginAt n) (nothing_before n text) (put_before_begins n [] (lines_from n text))
