-- Texts that are written one behind the other.
use Rattle.std.proofs.Common.{◌≡◌, ◌≢◌, ◌<◌, ◌≤◌, ◌+◌, ℕ, zero, suc, eqb, Bool, true, false, List, [], ◌∷◌, ◌++◌, length, take, drop, get_or, codes, decimal, Option, refl, sym, ap, ◌∙◌, subst, append_assoc, append-nil, arith, length-append, ◌⊎◌, inl, inr}
use Rattle.std.proofs.Math.Seq.{take-append-add}
use Rattle.std.proofs.lemmas.Bool.{eqb-true, eqb-false}
use Rattle.std.proofs.lemmas.List.{take_all, take-append-le, take_more}
use Rattle.std.proofs.lemmas.Grind.{flat_map-append}
use Rattle.std.specs.List.{flat_map}
use Rattle.std.specs.Io.KnownBytes.{Appends}
use Rattle.am_explore.specs.{Tally}
use Rattle.am_script.proofs.Writes.{appends_more}
use Rattle.am_cli.specs.Help.{usage_text}
use Rattle.am_cli.specs.Hints.{hint_told}
use Rattle.am_cli.specs.Telling.{IsCut, Tells, choice_told, line_told, place_told, tally_told, word_told}
use Rattle.am_cli.specs.Topics.{input_of, name_of}
use Rattle.am_cli.specs.declared.hints.Hint.{Hint}
use Rattle.am_cli.specs.declared.hints.Hint.TheVariants.{Near, Input}
use Rattle.am_cli.specs.declared.topics.Topic.{Topic}

-- all parts are those before one, that one, and those behind it
pub split_at : {X : Type 0} (f : X → List ℕ) (xs : List X) (i : ℕ) (d : X) → i < length xs → flat_map f xs ≡ flat_map f (take i xs) ++ (f (get_or xs i d) ++ flat_map f (drop (suc i) xs))
split_at f [] i d inside = absurd (omega arith)
split_at f (x ∷ xs) zero d inside = refl
split_at f (x ∷ xs) (suc i) d inside =
    ap (λ (t : List ℕ). f x ++ t) (split_at f xs i d (omega arith)) ∙ sym (append_assoc (f x) (flat_map f (take i xs)) (f (get_or xs i d) ++ flat_map f (drop (suc i) xs)))

-- one part more
pub parts_more : {X : Type 0} (f : X → List ℕ) (xs : List X) (i : ℕ) (d : X) → i < length xs → flat_map f (take (i + 1) xs) ≡ flat_map f (take i xs) ++ f (get_or xs i d)
parts_more f xs i d inside =
    ap (flat_map f) (take_more xs i d inside)
    ∙ flat_map-append f (take i xs) (get_or xs i d ∷ [])
    ∙ ap (λ (t : List ℕ). flat_map f (take i xs) ++ t) (append-nil (f (get_or xs i d)))

-- a text is taken whole, where as many bytes were taken as it has
pub all_taken : (n : ℕ) (text : List ℕ) (old new : Option (List ℕ)) → Appends old new (take n text) → eqb n (length text) ≡ true → Appends old new text
all_taken n text old new taken same =
    subst (λ (t : List ℕ). Appends old new t) (take_all n text (omega (arith, eqb-true n (length text) same))) taken

-- and else a beginning of it is
pub some_taken : (n : ℕ) (text : List ℕ) (old new : Option (List ℕ)) → n ≤ length text → Appends old new (take n text) → eqb n (length text) ≡ false → IsCut old new text
some_taken n text old new within taken other = (n, omega (arith, within, eqb-false n (length text) other), taken)

-- a part is taken whole behind those before it
pub appends_part : {X : Type 0} (f : X → List ℕ) (xs : List X) (i : ℕ) (d : X) (old mid new : Option (List ℕ)) → i < length xs → Appends old mid (flat_map f (take i xs)) → Appends mid new (f (get_or xs i d)) → Appends old new (flat_map f (take (i + 1) xs))
appends_part f xs i d old mid new inside before taken =
    subst (λ (t : List ℕ). Appends old new t) (sym (parts_more f xs i d inside)) (appends_more old mid new (flat_map f (take i xs)) (f (get_or xs i d)) before taken)

-- a part isn't taken whole
pub cut_in_part : {X : Type 0} (f : X → List ℕ) (xs : List X) (i : ℕ) (d : X) (old mid new : Option (List ℕ)) → i < length xs → Appends old mid (flat_map f (take i xs)) → IsCut mid new (f (get_or xs i d)) → IsCut old new (flat_map f xs)
cut_in_part f xs i d old mid new inside before part =
    let n = part.0 in
    let x = f (get_or xs i d) in
    let front = flat_map f (take i xs) in
    let back = flat_map f (drop (suc i) xs) in
    let whole : flat_map f xs ≡ front ++ (x ++ back) = split_at f xs i d inside in
    let cut : take (length front + n) (flat_map f xs) ≡ front ++ take n x =
    ap (take (length front + n)) whole ∙ take-append-add front (x ++ back) n
    ∙ ap (λ (t : List ℕ). front ++ t) (take-append-le n x back (omega (arith, part.1))) in
    let size : length (flat_map f xs) ≡ length front + (length x + length back) =
    ap length whole ∙ length-append front (x ++ back) ∙ ap (λ (k : ℕ). length front + k) (length-append x back) in
    (length front + n, omega (arith, size, part.1), subst (λ (t : List ℕ). Appends old new t) (sym cut) (appends_more old mid new front (take n x) before part.2))

-- a text that is written whole or cut is told
pub told_either : (whole : Bool) (quiet told : Option (List ℕ)) (text : List ℕ) → (whole ≡ true → Appends quiet told text) → (whole ≡ false → IsCut quiet told text) → Tells quiet told text
told_either true quiet told text all cut =
    (length text, subst (λ (t : List ℕ). Appends quiet told t) (sym (take_all (length text) text (omega arith))) (all refl))
told_either false quiet told text all cut = let h = cut refl in (h.0, h.2)

-- ---- the parts of what is told

pub word_parts : (quiet told : Option (List ℕ)) (word text : List ℕ) → text ≡ word → Tells quiet told (flat_map (λ part. part) (codes "fault: " ∷ text ∷ codes "\n" ∷ [])) → Tells quiet told (word_told word)
word_parts quiet told word text same tells = subst (λ (t : List ℕ). Tells quiet told (word_told t)) same tells

pub line_parts : (quiet told : Option (List ℕ)) (line : ℕ) (word below digits text : List ℕ) → digits ≡ decimal line → text ≡ word → Tells quiet told (flat_map (λ part. part) (codes "fault: line " ∷ digits ∷ codes ": " ∷ text ∷ codes "\n" ∷ below ∷ [])) → Tells quiet told (line_told line word below)
line_parts quiet told line word below digits text number same tells =
    subst (λ (t : List ℕ). Tells quiet told (line_told line t below)) same
    (subst (λ (t : List ℕ). Tells quiet told (flat_map (λ part. part) (codes "fault: line " ∷ t ∷ codes ": " ∷ text ∷ codes "\n" ∷ below ∷ []))) number tells)

pub place_parts : (quiet told : Option (List ℕ)) (line column : ℕ) (expected lines columns text : List ℕ) → lines ≡ decimal line → columns ≡ decimal column → text ≡ expected → Tells quiet told (flat_map (λ part. part) (codes "fault: line " ∷ lines ∷ codes ", column " ∷ columns ∷ codes ": " ∷ text ∷ codes " expected\n" ∷ [])) → Tells quiet told (place_told line column expected)
place_parts quiet told line column expected lines columns text number place same tells =
    subst (λ (t : List ℕ). Tells quiet told (place_told line column t)) same
    (subst (λ (t : List ℕ). Tells quiet told (flat_map (λ part. part) (codes "fault: line " ∷ decimal line ∷ codes ", column " ∷ t ∷ codes ": " ∷ text ∷ codes " expected\n" ∷ []))) place
    (subst (λ (t : List ℕ). Tells quiet told (flat_map (λ part. part) (codes "fault: line " ∷ t ∷ codes ", column " ∷ columns ∷ codes ": " ∷ text ∷ codes " expected\n" ∷ []))) number tells))

pub near_parts : (quiet told : Option (List ℕ)) (hint : Hint) (topic : Topic) (name usage : List ℕ) → hint ≡ Near topic → name ≡ name_of topic → usage ≡ usage_text → Tells quiet told (flat_map (λ part. part) (codes "fault: Usage\ndid you mean '" ∷ name ∷ codes "'?\n" ∷ usage ∷ [])) → Tells quiet told (hint_told hint)
near_parts quiet told hint topic name usage is named lines tells =
    subst (λ (h : Hint). Tells quiet told (hint_told h)) (sym is)
    (subst (λ (t : List ℕ). Tells quiet told (flat_map (λ part. part) (codes "fault: Usage\ndid you mean '" ∷ name_of topic ∷ codes "'?\n" ∷ t ∷ []))) lines
    (subst (λ (t : List ℕ). Tells quiet told (flat_map (λ part. part) (codes "fault: Usage\ndid you mean '" ∷ t ∷ codes "'?\n" ∷ usage ∷ []))) named tells))

pub input_parts : (quiet told : Option (List ℕ)) (hint : Hint) (topic : Topic) (input name usage : List ℕ) → hint ≡ Input topic → input ≡ input_of topic → name ≡ name_of topic → usage ≡ usage_text → Tells quiet told (flat_map (λ part. part) (codes "fault: Usage\nthe " ∷ input ∷ codes " is read from standard input: automount_cli " ∷ name ∷ codes " < FILE\n" ∷ usage ∷ [])) → Tells quiet told (hint_told hint)
input_parts quiet told hint topic input name usage is fed named lines tells =
    subst (λ (h : Hint). Tells quiet told (hint_told h)) (sym is)
    (subst (λ (t : List ℕ). Tells quiet told (flat_map (λ part. part) (codes "fault: Usage\nthe " ∷ input_of topic ∷ codes " is read from standard input: automount_cli " ∷ name_of topic ∷ codes " < FILE\n" ∷ t ∷ []))) lines
    (subst (λ (t : List ℕ). Tells quiet told (flat_map (λ part. part) (codes "fault: Usage\nthe " ∷ input_of topic ∷ codes " is read from standard input: automount_cli " ∷ t ∷ codes " < FILE\n" ∷ usage ∷ []))) named
    (subst (λ (t : List ℕ). Tells quiet told (flat_map (λ part. part) (codes "fault: Usage\nthe " ∷ t ∷ codes " is read from standard input: automount_cli " ∷ name ∷ codes " < FILE\n" ∷ usage ∷ []))) fed tells)))

pub choice_parts : (quiet told : Option (List ℕ)) (place : ℕ) (digits : List ℕ) → digits ≡ decimal place → Tells quiet told (flat_map (λ part. part) (codes "fault: prefix " ∷ digits ∷ codes ": NoSuchChoice\n" ∷ [])) → Tells quiet told (choice_told place)
choice_parts quiet told place digits number tells =
    subst (λ (t : List ℕ). Tells quiet told (flat_map (λ part. part) (codes "fault: prefix " ∷ t ∷ codes ": NoSuchChoice\n" ∷ []))) number tells

pub tally_parts : (quiet told : Option (List ℕ)) (tally : Tally) (states orders ends : List ℕ) → states ≡ decimal tally.states → orders ≡ decimal tally.orders → ends ≡ decimal tally.ends → Tells quiet told (flat_map (λ part. part) (codes "explore: states " ∷ states ∷ codes ", orders " ∷ orders ∷ codes ", ends " ∷ ends ∷ codes "\n" ∷ [])) → Tells quiet told (tally_told tally)
tally_parts quiet told tally states orders ends are_states are_orders are_ends tells =
    subst (λ (t : List ℕ). Tells quiet told (flat_map (λ part. part) (codes "explore: states " ∷ decimal tally.states ∷ codes ", orders " ∷ decimal tally.orders ∷ codes ", ends " ∷ t ∷ codes "\n" ∷ []))) are_ends
    (subst (λ (t : List ℕ). Tells quiet told (flat_map (λ part. part) (codes "explore: states " ∷ decimal tally.states ∷ codes ", orders " ∷ t ∷ codes ", ends " ∷ ends ∷ codes "\n" ∷ []))) are_orders
    (subst (λ (t : List ℕ). Tells quiet told (flat_map (λ part. part) (codes "explore: states " ∷ t ∷ codes ", orders " ∷ orders ∷ codes ", ends " ∷ ends ∷ codes "\n" ∷ []))) are_states tells))
