-- Notes that are put behind a text one by one.
use Rattle.std.proofs.Common.{◌≡◌, ◌+◌, ◌<◌, ℕ, List, [], ◌++◌, length, take, get_or, sym, ap, ◌∙◌, append_assoc}
use Rattle.std.specs.List.{flat_map}
use Rattle.std.proofs.lemmas.List.{take_more, flat_map_more}

-- one note more
pub note_more : {X : Type 0} (note : X → List ℕ) (rows : List X) (i : ℕ) (d : X) (old text now : List ℕ) → i < length rows → text ≡ old ++ flat_map note (take i rows) → d ≡ get_or rows i d → now ≡ text ++ note d → now ≡ old ++ flat_map note (take (i + 1) rows)
note_more note rows i d old text now inside so_far here more =
    more
    ∙ ap (λ x. text ++ note x) here
    ∙ ap (λ (t : List ℕ). t ++ note (get_or rows i d)) so_far
    ∙ append_assoc old (flat_map note (take i rows)) (note (get_or rows i d))
    ∙ ap (λ (t : List ℕ). old ++ t) (flat_map_more note [] (take i rows) (get_or rows i d) ∙ ap (flat_map note) (sym (take_more rows i d inside)))
