-- The lines of a section are joined in its text as in the script.
use Rattle.std.proofs.Common.{◌≡◌, ℕ, suc, ◌+◌, ◌-◌, ◌≤◌, Bool, true, false, cond, not, List, [], ◌∷◌, ◌++◌, drop, refl, ap, arith, ◌∙◌}
use Rattle.std.specs.Prelude.{codes}
use Rattle.std.specs.List.{All, slice_split, list_all, list_any}
use Rattle.std.proofs.lemmas.List.{append_assoc}
use Rattle.std.proofs.lemmas.List.Elements.{All-cons}
use Rattle.std.proofs.lemmas.List.Splits.{slice_split_at}
use Rattle.am_names.proofs.Basics.{left_of_and, right_of_and}
use Rattle.am_lines.specs.{Line, is_line_feed, is_joined, before_backslash, put_before, joined, lines_from}
use Rattle.am_script.specs.Sections.{is_end}
use Rattle.am_diagnosis.specs.Maps.{joined_in, section_text, is_within}
use Rattle.am_diagnosis.proofs.ScriptLemmas.{drop_nil}

not_false : (b : Bool) → not b ≡ true → b ≡ false
not_false true h = absurd cc
not_false false h = refl

no_end : (line : List ℕ) → is_within line ≡ true → is_end line ≡ false
no_end line h = not_false (is_end line) (left_of_and (not (is_end line)) (not (list_any is_line_feed line)) h)

no_feeds : (bytes : List ℕ) → list_any is_line_feed bytes ≡ false → All (λ b. is_line_feed b ≡ false) bytes
no_feeds [] h = λ k d l. absurd (omega arith)
no_feeds (b ∷ bytes) h = go (is_line_feed b) refl (λ e. no_feeds bytes e)
  where
    go : (f : Bool) → is_line_feed b ≡ f → (list_any is_line_feed bytes ≡ false → All (λ b. is_line_feed b ≡ false) bytes) → All (λ b. is_line_feed b ≡ false) (b ∷ bytes)
    go true e rest = absurd (let no = rw e at h in cc)
    go false e rest = All-cons (λ b. is_line_feed b ≡ false) b bytes e (rest (rw e at h))

-- ---- the raw lines of a section's text

raw_lines : (lines : List (List ℕ)) → list_all is_within lines ≡ true → slice_split is_line_feed (section_text lines) ≡ lines ++ [] ∷ []
raw_lines [] h = refl
raw_lines (line ∷ lines) h =
    let here : is_within line ≡ true = left_of_and (is_within line) (list_all is_within lines) h in
    let feeds : list_any is_line_feed line ≡ false = not_false (list_any is_line_feed line) (right_of_and (not (is_end line)) (not (list_any is_line_feed line)) here) in
    ap (slice_split is_line_feed) (append_assoc line (10 ∷ []) (section_text lines))
    ∙ slice_split_at is_line_feed line 10 (section_text lines) (no_feeds line feeds) refl
    ∙ ap (λ (raws : List (List ℕ)). line ∷ raws) (raw_lines lines (right_of_and (is_within line) (list_all is_within lines) h))

-- ---- the lines that they make

-- a line is joined of those from its number on, the first of which has this number
record IsJoinedOf (n : ℕ) (lines tail : List (List ℕ)) (line : Line) : Type 0 where
  behind : n ≤ line.number
  bytes : line.bytes ≡ joined_in (drop (line.number - n) lines ++ tail)

shifted : (n : ℕ) (first : List ℕ) (lines tail : List (List ℕ)) (line : Line) → IsJoinedOf (n + 1) lines tail line → IsJoinedOf n (first ∷ lines) tail line
shifted n first lines tail line j =
    let at : line.number - n ≡ suc (line.number - (n + 1)) = omega (arith, j.behind) in
    record { behind = omega (arith, j.behind); bytes = rw at j.bytes }

all_shifted : (n : ℕ) (first : List ℕ) (lines tail : List (List ℕ)) (rows : List Line) → All (IsJoinedOf (n + 1) lines tail) rows → All (IsJoinedOf n (first ∷ lines) tail) rows
all_shifted n first lines tail rows all = λ k d h. shifted n first lines tail _ (all k d h)

abbrev FirstAt : ℕ → List Line → Type 0
FirstAt n [] = ⊥
FirstAt n (row ∷ rows) = row.number ≡ n

put_first : (n : ℕ) (front : List ℕ) (rows : List Line) → FirstAt n (put_before n front rows)
put_first n front [] = refl
put_first n front (row ∷ rows) = refl

first_at : (n : ℕ) (raw : List ℕ) (raws : List (List ℕ)) → FirstAt n (joined n (raw ∷ raws))
first_at n raw raws = go (is_joined raw)
  where
    go : (b : Bool) → FirstAt n (cond b (put_before n (before_backslash raw) (joined (n + 1) raws)) (record { number = n; bytes = raw } ∷ joined (n + 1) raws))
    go true = put_first n (before_backslash raw) (joined (n + 1) raws)
    go false = refl

first_left : (n : ℕ) (lines : List (List ℕ)) → FirstAt n (joined n (lines ++ [] ∷ []))
first_left n [] = first_at n [] []
first_left n (line ∷ lines) = first_at n line (lines ++ [] ∷ [])

put_all : (n : ℕ) (first : List ℕ) (lines tail : List (List ℕ)) (rows : List Line) → is_end first ≡ false → is_joined first ≡ true → FirstAt (n + 1) rows → All (IsJoinedOf (n + 1) lines tail) rows → All (IsJoinedOf n (first ∷ lines) tail) (put_before n (before_backslash first) rows)
put_all n first lines tail [] inner more at all = absurd at
put_all n first lines tail (row ∷ rows) inner more at all =
    let here = all 0 row (omega arith) in
    let none : row.number - (n + 1) ≡ 0 = omega arith in
    let same : n - n ≡ 0 = omega arith in
    let bytes : row.bytes ≡ joined_in (lines ++ tail) = rw none at here.bytes in
    All-cons (IsJoinedOf n (first ∷ lines) tail) (record { number = n; bytes = before_backslash first ++ row.bytes }) rows
    (record { behind = omega arith; bytes = rw (same, inner, more) (ap (λ (b : List ℕ). before_backslash first ++ b) bytes) })
    (all_shifted n first lines tail rows (λ k d h. all (suc k) d (omega arith)))

joined_all : (n : ℕ) (lines below : List (List ℕ)) → list_all is_within lines ≡ true → All (IsJoinedOf n lines (codes "end" ∷ below)) (joined n (lines ++ [] ∷ []))
joined_all n [] below h =
    All-cons (IsJoinedOf n [] (codes "end" ∷ below)) (record { number = n; bytes = [] }) []
    (record { behind = omega arith; bytes = rw (drop_nil (n - n)) refl })
    (λ k d l. absurd (omega arith))
joined_all n (first ∷ lines) below h =
    go (is_joined first) refl (joined_all (n + 1) lines below (right_of_and (is_within first) (list_all is_within lines) h))
  where
    inner : is_end first ≡ false
    inner = no_end first (left_of_and (is_within first) (list_all is_within lines) h)

    same : n - n ≡ 0
    same = omega arith

    go : (b : Bool) → is_joined first ≡ b → All (IsJoinedOf (n + 1) lines (codes "end" ∷ below)) (joined (n + 1) (lines ++ [] ∷ [])) → All (IsJoinedOf n (first ∷ lines) (codes "end" ∷ below)) (joined n (first ∷ (lines ++ [] ∷ [])))
    go true e all = rw e (put_all n first lines (codes "end" ∷ below) (joined (n + 1) (lines ++ [] ∷ [])) inner e (first_left (n + 1) lines) all)
    go false e all = rw e (
        All-cons (IsJoinedOf n (first ∷ lines) (codes "end" ∷ below)) (record { number = n; bytes = first }) (joined (n + 1) (lines ++ [] ∷ []))
        (record { behind = omega arith; bytes = rw (same, inner, e) refl })
        (all_shifted n first lines (codes "end" ∷ below) (joined (n + 1) (lines ++ [] ∷ [])) all)
        )

pub lines_are_joined : (lines below : List (List ℕ)) → list_all is_within lines ≡ true → All (λ line. line.bytes ≡ joined_in (drop (line.number - 1) lines ++ codes "end" ∷ below)) (lines_from 1 (section_text lines))
lines_are_joined lines below h =
    rw (raw_lines lines h) (λ k d l. (joined_all 1 lines below h k d l).bytes)
