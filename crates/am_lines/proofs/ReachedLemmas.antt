-- A text is gone through line by line, as long as it is good.
use Rattle.std.proofs.Common.{◌≡◌, ℕ, List, [], ◌∷◌, ◌++◌, refl, sym, ap, subst, ◌∙◌}
use Rattle.std.specs.List.{flat_map}
use Rattle.std.proofs.lemmas.List.{append-nil, append_assoc}
use Rattle.std.proofs.lemmas.Grind.{flat_map-append}
use Rattle.am_lines.specs.{Line, lines_from, Statement, words_of, statement_of, statement_of_words, IsReached}
use Rattle.am_lines.proofs.LineLemmas.{lines_begin}

-- the lines from this number on are left, and the statements above them are good
pub record HasCome (Good : List Statement → Type 0) (text : List ℕ) (number : ℕ)
    (rest : List ℕ) : Type 0 where
  pub above : List Line
  pub left : lines_from 1 text ≡ above ++ lines_from number rest
  pub good : Good (flat_map statement_of above)

pub at_first : (Good : List Statement → Type 0) (text : List ℕ) → Good [] → HasCome Good text 1 text
at_first Good text good = record { above = []; left = refl; good = good }

pub reached : (Good Fine : List Statement → Type 0) (text : List ℕ) (number : ℕ) (rest : List ℕ) →
    HasCome Good text number rest → ((lines : List Statement) → Good lines → Fine lines) →
    IsReached Fine text number
reached Good Fine text number rest h fine =
    let b = lines_begin number rest in
    record {
      above = h.above;
      bytes = b.bytes;
      below = b.others;
      stands = h.left ∙ ap (λ (lines : List Line). h.above ++ lines) b.is;
      good = fine _ h.good;
    }

-- one line more
pub goes_on : (Good Fine : List Statement → Type 0) (text : List ℕ) (number next : ℕ)
    (rest bytes behind : List ℕ) →
    lines_from number rest ≡ record { number = number; bytes = bytes } ∷ lines_from next behind →
    ((lines : List Statement) → Good lines →
    Fine (lines ++ statement_of_words number (words_of bytes))) →
    HasCome Good text number rest → HasCome Fine text next behind
goes_on Good Fine text number next rest bytes behind cut more h =
    let line : Line = record { number = number; bytes = bytes } in
    let said = statement_of_words number (words_of bytes) in
    let all : flat_map statement_of (h.above ++ line ∷ []) ≡ flat_map statement_of h.above ++ said =
    flat_map-append statement_of h.above (line ∷ [])
    ∙ ap (λ (lines : List Statement). flat_map statement_of h.above ++ lines) (append-nil said) in
    record {
      above = h.above ++ line ∷ [];
      left = h.left ∙ ap (λ (lines : List Line). h.above ++ lines) cut
          ∙ sym (append_assoc h.above (line ∷ []) (lines_from next behind));
      good = subst Fine (sym all) (more _ h.good);
    }
