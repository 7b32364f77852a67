-- Texts that grow piece by piece.
use Rattle.std.proofs.Common.{◌≡◌, ◌++◌, ◌∷◌, ◌+◌, ℕ, List, Result, Ok, Err, OnOk, ap, sym, ◌∙◌, codes, decimal, length, length-append}
use Rattle.std.proofs.lemmas.Grind.{flat_map-append}
use Rattle.std.proofs.lemmas.List.{append_assoc}
use Rattle.am_explore.specs.{Choice}
use Rattle.am_findings.specs.Texts.{choice_line, found_order_text, order_text}

-- one piece behind another
pub more : (old one two first second : List ℕ) → first ≡ old ++ one → second ≡ first ++ two
    → second ≡ old ++ (one ++ two)
more old one two first second e f = f ∙ ap (λ (text : List ℕ). text ++ two) e ∙ append_assoc old one two

-- the same, if there is memory for the second
pub on_more : {T E : Type 0} → (r : Result T E) (old one two first second : List ℕ) → first ≡ old ++ one
    → OnOk r (second ≡ first ++ two) → OnOk r (second ≡ old ++ (one ++ two))
on_more (Ok value) old one two first second e f = more old one two first second e f
on_more (Err error) old one two first second e f = tt

-- the same text
pub on_same : {T E : Type 0} → (r : Result T E) (old new : List ℕ) {one two : List ℕ} → one ≡ two
    → OnOk r (new ≡ old ++ one) → OnOk r (new ≡ old ++ two)
on_same (Ok value) old new e is = is ∙ ap (λ (text : List ℕ). old ++ text) e
on_same (Err error) old new e is = tt

-- an order whose first choices are told and then the others is told whole
pub whole_order : (first choices : List Choice)
    → codes ": yes, events " ++ (decimal (length first + length choices) ++ (10 ∷ (order_text first ++ order_text choices)))
    ≡ found_order_text (first ++ choices)
whole_order first choices =
    ap (λ (n : ℕ). codes ": yes, events " ++ (decimal n ++ (10 ∷ (order_text first ++ order_text choices))))
    (sym (length-append first choices))
    ∙ ap (λ (text : List ℕ). codes ": yes, events " ++ (decimal (length (first ++ choices)) ++ (10 ∷ text)))
    (sym (flat_map-append choice_line first choices))
