-- Where the first observation that breaks a law stands.
use Rattle.std.proofs.Common.{◌≡◌, ℕ, ◌+◌, Bool, true, false, cond, List, [], ◌∷◌, ◌++◌, length, sym, ap, ◌∙◌, arith, inl, inr, append_assoc}
use Rattle.std.specs.Prelude.{◌≤◌, ◌<◌}
use Rattle.std.specs.List.{count_by}
use Rattle.std.proofs.lemmas.List.{length-append}
use Rattle.am_script.specs.{lines_of}
use Rattle.am_machine.proofs.Lists.Counts.{count_append, count_cons}
use Rattle.am_laws.specs.{IsFirstBreach}
use Rattle.am_laws.specs.declared.law.Breach.{Breach}
use Rattle.am_state.specs.{Obs}
use Rattle.am_traces.specs.Says.{is_indented, IsTraceOf}

-- each observation has an indented line of its own
pub counted : (lines : List (List ℕ)) (seen : List Obs) → IsTraceOf lines seen → length seen ≡ count_by is_indented lines
counted [] seen h = ap length h
counted (line ∷ lines) seen h =
    elim h [
      | inl w ↦
          let more = counted lines seen w.1 in
          let n = count_cons is_indented line lines ∙ ap (λ (b : Bool). cond b 1 0 + count_by is_indented lines) w.0 in
          omega (arith, more, n)
      | inr s ↦
          let more = counted lines s.others s.follow in
          let n = count_cons is_indented line lines ∙ ap (λ (b : Bool). cond b 1 0 + count_by is_indented lines) s.indented in
          let all : length seen ≡ 1 + length s.others = ap length s.parted ∙ length-append (s.obs ∷ []) s.others in
          omega (arith, more, n, all)
    ]

-- the place of a breach is within the trace
pub within : (seen : List Obs) (breach : Breach) → IsFirstBreach seen breach → breach.place < length seen
within seen breach h = let n : length seen ≡ length h.before + length (h.o ∷ h.rest) = ap length h.splits ∙ length-append h.before (h.o ∷ h.rest) in let p = h.place in omega (arith, n, p)

-- so it has a line
pub has_line : (lines : List (List ℕ)) (seen : List Obs) (breach : Breach) → IsTraceOf lines seen → IsFirstBreach seen breach → count_by is_indented lines ≤ breach.place → ⊥
has_line lines seen breach t f few = let n = counted lines seen t in let p = within seen breach f in omega (arith, n, p, few)

-- so many lines stand above what is left, and so many observations are still to be passed over
pub record Counted (text rest : List ℕ) (above place left : ℕ) : Type 0 where
  pub aboves : List (List ℕ)
  pub parts : lines_of text ≡ aboves ++ lines_of rest
  pub many : length aboves ≡ above
  pub placed : count_by is_indented aboves + left ≡ place
  pub short : above + length rest ≤ length text

count_last : (lines : List (List ℕ)) (line : List ℕ) (b : Bool) → is_indented line ≡ b → count_by is_indented (lines ++ line ∷ []) ≡ count_by is_indented lines + cond b 1 0
count_last lines line true e = count_append is_indented lines (line ∷ []) ∙ ap (λ (n : ℕ). count_by is_indented lines + n) (count_cons is_indented line [] ∙ ap (λ (b : Bool). cond b 1 0 + 0) e)
count_last lines line false e = count_append is_indented lines (line ∷ []) ∙ ap (λ (n : ℕ). count_by is_indented lines + n) (count_cons is_indented line [] ∙ ap (λ (b : Bool). cond b 1 0 + 0) e)

-- one line more stands above
pub counts_on : (text rest line next : List ℕ) (above place left less : ℕ) (b : Bool) → Counted text rest above place left → lines_of rest ≡ line ∷ lines_of next → is_indented line ≡ b → left ≡ less + cond b 1 0 → 1 + length next ≤ length rest → Counted text next (above + 1) place less
counts_on text rest line next above place left less b h cut is fewer shorter =
    let n = count_last h.aboves line b is in
    let p = h.placed in
    let s = h.short in
    record {
      aboves = h.aboves ++ line ∷ [];
      parts = h.parts ∙ ap (λ (ls : List (List ℕ)). h.aboves ++ ls) cut ∙ sym (append_assoc h.aboves (line ∷ []) (lines_of next));
      many = length-append h.aboves (line ∷ []) ∙ ap (λ (m : ℕ). m + 1) h.many;
      placed = omega (arith, n, p, fewer);
      short = omega (arith, s, shorter);
    }
