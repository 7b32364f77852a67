-- What is kept in mind of a trace while it is judged, one observation further.
use Rattle.std.proofs.Common.{◌≡◌, ◌≤◌, ◌<◌, ℕ, Bool, true, false, List, [], ◌∷◌, ◌++◌, Option, Some, None, length, take, drop, refl, sym, ap, subst, ◌∙◌, inl, inr, arith}
use Rattle.std.specs.Prelude.{◌+◌, ◌==◌, ◌&&◌, ◌||◌, nat_lt, if◌then◌else◌}
use Rattle.std.specs.List.{list_any, list_all}
use Rattle.std.proofs.lemmas.Bool.Decides.{nat_tests}
use Rattle.std.proofs.lemmas.List.{take-append-le, take-append-drop, length-append}
use Rattle.std.proofs.Math.ListN.{drop_of_length-le}
use Rattle.std.proofs.Math.Seq.{take-add}
use Rattle.std.proofs.lemmas.List.Folds.{list_any-append, list_all-append}
use Rattle.am_names.proofs.Basics.{both_of_and, false_unless_true}
use Rattle.am_state.specs.{Obs}
use Rattle.am_state.specs.declared.obs.Obs.TheVariants.{Queued, Released}
use Rattle.am_wire.specs.{Packet}
use Rattle.am_laws.specs.{queues, closes, packet_in, is_released, first_of, packet_of, dev_of, fs_of_token, IsLawfulAt, Has, since, is_open, is_lawful_at, WereLawful, AreSettled, WereSettled, AreUpTo, Remembers, Settles, can_close, is_pending, greatest_with, is_lawful_lately}
use Rattle.am_laws.proofs.Lists.{AtEnd, at_end, since-append, if_no}
use Rattle.am_laws.proofs.Words.{never_queued_test}
use Rattle.am_laws.proofs.Late.{queued_in_part, open_same}
use Rattle.am_laws.proofs.Same.{lately_same}

-- ---- each was lawful

lawful_end : (seen : List Obs) (next : Obs) (rest before : List Obs) (o : Obs) (later : List Obs) → WereLawful seen → IsLawfulAt seen next rest → AtEnd seen next before o later → (r : List Obs) × IsLawfulAt before o r
lawful_end seen next rest before o later were at (inl h) = (rest, subst (λ (x : Obs). IsLawfulAt before x rest) (sym h.1) (subst (λ (s : List Obs). IsLawfulAt s next rest) (sym h.0) at))
lawful_end seen next rest before o later were at (inr h) = were before o h.0 h.2

pub lawful_grows : (seen : List Obs) (next : Obs) (rest : List Obs) → WereLawful seen → IsLawfulAt seen next rest → WereLawful (seen ++ next ∷ [])
lawful_grows seen next rest were at = λ before o later e. lawful_end seen next rest before o later were at (at_end seen next before o later e)

-- ---- no token is open again

first_by_cases : (b : Bool) (p : Packet) (x y : Option Packet) → (b ≡ false → x ≡ y) → first_of (if b then Some p else None) x ≡ first_of (if b then Some p else None) y
first_by_cases true p x y h = refl
first_by_cases false p x y h = h refl

later_has : (a b : Bool) → a ≡ false → (a || b) ≡ true → b ≡ true
later_has true b g h = absurd cc
later_has false b g h = h

first_early : (token : ℕ) (o : Obs) (x y : Option Packet) → (queues token o ≡ false → x ≡ y) → first_of (packet_in token o) x ≡ first_of (packet_in token o) y
first_early token (Queued k a p) x y h = first_by_cases (k == token) p x y h
first_early token _ x y h = h refl

pub packet_early : (token : ℕ) (seen rest : List Obs) → Has (queues token) seen → packet_of token (seen ++ rest) ≡ packet_of token seen
packet_early token [] rest h = absurd cc
packet_early token (o ∷ seen) rest h = first_early token o (packet_of token (seen ++ rest)) (packet_of token seen) (λ no. packet_early token seen rest (later_has (queues token o) (list_any (queues token) seen) no h))

not_queued_again : (token : ℕ) (seen : List Obs) (next : Obs) (rest : List Obs) → Has (queues token) seen → IsLawfulAt seen next rest → queues token next ≡ false
not_queued_again token seen (Queued k a p) rest has at =
    false_unless_true (k == token) (λ so.
    let same : k ≡ token = grind (arith, nat_tests, so) in
    let none = never_queued_test k seen at in
    let no = subst (λ (x : ℕ). list_any (queues x) seen ≡ false) same none in
    absurd cc)
not_queued_again token seen _ rest has at = refl

stays_closed : (token : ℕ) (seen : List Obs) (next : Obs) (rest : List Obs) → Has (queues token) seen → is_open token seen ≡ false → IsLawfulAt seen next rest → is_open token (seen ++ next ∷ []) ≡ false
stays_closed token seen next rest has closed at =
    ap (λ (p : Option Packet). since (queues token) (closes token (dev_of p)) false (seen ++ next ∷ [])) (packet_early token seen (next ∷ []) has)
    ∙ since-append (queues token) (closes token (fs_of_token token seen)) false seen (next ∷ [])
    ∙ ap (λ (b : Bool). if queues token next then true else if closes token (fs_of_token token seen) next then false else b) closed
    ∙ if_no (queues token next) (closes token (fs_of_token token seen) next) (not_queued_again token seen next rest has at)

pub settled_grows : (old lately : List Obs) (next : Obs) (rest : List Obs) → AreSettled old (old ++ lately) → IsLawfulAt (old ++ lately) next rest → AreSettled old ((old ++ lately) ++ next ∷ [])
settled_grows old lately next rest settled at = λ token has. stays_closed token (old ++ lately) next rest (queued_in_part token old lately has) (settled token has) at

-- ---- the row at the end

released_no : (o : Obs) → is_released o ≡ true → can_close o ≡ false
released_no (Released w k s) h = refl
released_no _ h = absurd cc

row_end : (old seen : List Obs) (next : Obs) (before : List Obs) (cause : Obs) (row : List Obs) → AreSettled old seen → (can_close next ≡ false → WereSettled old seen) → AtEnd seen next before cause row → list_all is_released row ≡ true → can_close cause ≡ true → AreSettled old before
row_end old seen next before cause row settled were (inl h) is_row is_cause = subst (λ (s : List Obs). AreSettled old s) (sym h.0) settled
row_end old seen next before cause row settled were (inr h) is_row is_cause =
    let all = both_of_and (list_all is_released h.0) (is_released next && true) (sym (list_all-append is_released h.0 (next ∷ [])) ∙ subst (λ (s : List Obs). list_all is_released s ≡ true) h.1 is_row) in
    were (released_no next (both_of_and (is_released next) true all.1).0) before cause h.0 h.2 all.0 is_cause

pub row_grows : (old seen : List Obs) (next : Obs) → AreSettled old seen → (can_close next ≡ false → WereSettled old seen) → WereSettled old (seen ++ next ∷ [])
row_grows old seen next settled were = λ before cause row e is_row is_cause. row_end old seen next before cause row settled were (at_end seen next before cause row e) is_row is_cause

-- ---- the greatest token

more_by_cases : (greatest token k : ℕ) (b : Bool) → nat_lt greatest k ≡ b → token ≤ greatest → token ≤ (if b then k else greatest)
more_by_cases greatest token k true e h = grind (arith, nat_tests, e, h)
more_by_cases greatest token k false e h = h

next_by_cases : (greatest token k : ℕ) (b : Bool) → nat_lt greatest k ≡ b → k ≡ token → token ≤ (if b then k else greatest)
next_by_cases greatest token k true e h = grind (arith, h)
next_by_cases greatest token k false e h = grind (arith, nat_tests, e, h)

true_of_or_false : (a : Bool) → (a || false) ≡ true → a ≡ true
true_of_or_false true h = refl
true_of_or_false false h = h

up_to_before : (greatest token : ℕ) (next : Obs) → token ≤ greatest → token ≤ greatest_with greatest next
up_to_before greatest token (Queued k a p) h = more_by_cases greatest token k (nat_lt greatest k) refl h
up_to_before greatest token _ h = h

up_to_next : (greatest token : ℕ) (next : Obs) → queues token next ≡ true → token ≤ greatest_with greatest next
up_to_next greatest token (Queued k a p) h = let same : k ≡ token = grind (arith, nat_tests, h) in next_by_cases greatest token k (nat_lt greatest k) refl same
up_to_next greatest token _ h = absurd cc

up_to_either : (greatest token : ℕ) (next : Obs) (b : Bool) → (b ≡ true → token ≤ greatest) → (b || (queues token next || false)) ≡ true → token ≤ greatest_with greatest next
up_to_either greatest token next true before h = up_to_before greatest token next (before refl)
up_to_either greatest token next false before h = up_to_next greatest token next (true_of_or_false (queues token next) h)

pub up_to_grows : (greatest : ℕ) (seen : List Obs) (next : Obs) → AreUpTo greatest seen → AreUpTo (greatest_with greatest next) (seen ++ next ∷ [])
up_to_grows greatest seen next up_to = λ token has. up_to_either greatest token next (list_any (queues token) seen) (up_to token) (sym (list_any-append (queues token) seen (next ∷ [])) ∙ has)

-- ---- all of it

longer_part : (n : ℕ) (seen : List Obs) (o : Obs) → n ≤ length seen → n ≤ length (seen ++ o ∷ [])
longer_part n seen o h = grind (arith, length-append seen (o ∷ []), h)

pub remembers_grows : (settled before_that greatest : ℕ) (seen : List Obs) (next : Obs) (rest : List Obs) → Remembers before_that greatest seen → Settles settled before_that seen next → IsLawfulAt seen next rest → Remembers settled (greatest_with greatest next) (seen ++ next ∷ [])
remembers_grows settled before_that greatest seen next rest h new at =
    let same : take settled (seen ++ next ∷ []) ≡ take settled seen = take-append-le settled seen (next ∷ []) new.is_part in
    let parts : take settled seen ++ drop settled seen ≡ seen = take-append-drop settled seen in
    let grown : AreSettled (take settled seen) (seen ++ next ∷ []) = subst (λ (s : List Obs). AreSettled (take settled seen) (s ++ next ∷ [])) parts (settled_grows (take settled seen) (drop settled seen) next rest (subst (λ (s : List Obs). AreSettled (take settled seen) s) (sym parts) new.are_settled) (subst (λ (s : List Obs). IsLawfulAt s next rest) (sym parts) at)) in
    let row : WereSettled (take settled seen) (seen ++ next ∷ []) = row_grows (take settled seen) seen next new.are_settled (λ no. subst (λ (n : ℕ). WereSettled (take n seen) seen) (sym (new.only_then no)) h.were_settled) in
    record {
      is_part = longer_part settled seen next new.is_part;
      lawful = lawful_grows seen next rest h.lawful at;
      are_settled = subst (λ (s : List Obs). AreSettled s (seen ++ next ∷ [])) (sym same) grown;
      were_settled = subst (λ (s : List Obs). WereSettled s (seen ++ next ∷ [])) (sym same) row;
      up_to = up_to_grows greatest seen next h.up_to;
    }

-- a place more is settled, if no open token is queued there
settles_here : (old lately : List Obs) (o : Obs) → WereLawful (old ++ o ∷ lately) → AreSettled old (old ++ o ∷ lately) → is_pending o (o ∷ lately) ≡ false → (token : ℕ) → queues token o ≡ true → is_open token (old ++ o ∷ lately) ≡ false
settles_here old lately (Queued k a p) were settled shut token h =
    let same : k ≡ token = grind (arith, nat_tests, h) in
    subst (λ (x : ℕ). is_open x (old ++ Queued k a p ∷ lately) ≡ false) same (open_same k old (Queued k a p ∷ lately) were settled ∙ shut)
settles_here old lately _ were settled shut token h = absurd cc

settles_either : (old lately : List Obs) (o : Obs) (token : ℕ) (b : Bool) → (b ≡ true → is_open token (old ++ o ∷ lately) ≡ false) → (queues token o ≡ true → is_open token (old ++ o ∷ lately) ≡ false) → (b || (queues token o || false)) ≡ true → is_open token (old ++ o ∷ lately) ≡ false
settles_either old lately o token true before here h = before refl
settles_either old lately o token false before here h = here (true_of_or_false (queues token o) h)

pub settles_one : (old lately : List Obs) (o : Obs) → WereLawful (old ++ o ∷ lately) → AreSettled old (old ++ o ∷ lately) → is_pending o (o ∷ lately) ≡ false → AreSettled (old ++ o ∷ []) (old ++ o ∷ lately)
settles_one old lately o were settled shut = λ token has. settles_either old lately o token (list_any (queues token) old) (settled token) (settles_here old lately o were settled shut token) (sym (list_any-append (queues token) old (o ∷ [])) ∙ has)

place_by_cases : (n : ℕ) (seen : List Obs) (o : Obs) (later : List Obs) → drop n seen ≡ o ∷ later → (b : Bool) → nat_lt n (length seen) ≡ b → n + 1 ≤ length seen
place_by_cases n seen o later e true t = grind (arith, nat_tests, t)
place_by_cases n seen o later e false t = let empty : drop n seen ≡ [] = drop_of_length-le seen (grind (arith, nat_tests, t)) in absurd cc

pub place_is_in : (n : ℕ) (seen : List Obs) (o : Obs) (later : List Obs) → drop n seen ≡ o ∷ later → n + 1 ≤ length seen
place_is_in n seen o later e = place_by_cases n seen o later e (nat_lt n (length seen)) refl

take_one_more : (n : ℕ) (seen : List Obs) (o : Obs) (later : List Obs) → drop n seen ≡ o ∷ later → take (n + 1) seen ≡ take n seen ++ o ∷ []
take_one_more n seen o later e = take-add n 1 seen ∙ ap (λ (s : List Obs). take n seen ++ take 1 s) e

pub settles_on : (n : ℕ) (seen : List Obs) (o : Obs) (later : List Obs) → drop n seen ≡ o ∷ later → WereLawful seen → AreSettled (take n seen) seen → is_pending o (drop n seen) ≡ false → AreSettled (take (n + 1) seen) seen
settles_on n seen o later e were settled shut =
    let parts : take n seen ++ o ∷ later ≡ seen = ap (λ (s : List Obs). take n seen ++ s) (sym e) ∙ take-append-drop n seen in
    let one = settles_one (take n seen) later o (subst (λ (s : List Obs). WereLawful s) (sym parts) were) (subst (λ (s : List Obs). AreSettled (take n seen) s) (sym parts) settled) (subst (λ (s : List Obs). is_pending o s ≡ false) e shut) in
    subst (λ (s : List Obs). AreSettled s seen) (sym (take_one_more n seen o later e)) (subst (λ (s : List Obs). AreSettled (take n seen ++ o ∷ []) s) parts one)

-- the part and the rest, judged
pub judged_lately : (n : ℕ) (before_that greatest : ℕ) (seen : List Obs) (next : Obs) (rest : List Obs) → Remembers before_that greatest seen → Settles n before_that seen next → is_lawful_lately seen (drop n seen) next rest ≡ is_lawful_at seen next rest
judged_lately n before_that greatest seen next rest h new =
    let parts : take n seen ++ drop n seen ≡ seen = take-append-drop n seen in
    let row : can_close next ≡ false → WereSettled (take n seen) (take n seen ++ drop n seen) = λ no. subst (λ (s : List Obs). WereSettled (take n seen) s) (sym parts) (subst (λ (m : ℕ). WereSettled (take m seen) seen) (sym (new.only_then no)) h.were_settled) in
    subst (λ (s : List Obs). is_lawful_lately s (drop n seen) next rest ≡ is_lawful_at s next rest) parts
    (lately_same (take n seen) (drop n seen) next rest (subst (λ (s : List Obs). WereLawful s) (sym parts) h.lawful) (subst (λ (s : List Obs). AreSettled (take n seen) s) (sym parts) new.are_settled) row)

no_place : (before : List Obs) (o : Obs) (later : List Obs) → [] ≡ before ++ o ∷ later → ⊥
no_place [] o later e = absurd cc
no_place (x ∷ before) o later e = absurd cc

-- a greater token was not queued
pub greater_no : (greatest token : ℕ) (seen : List Obs) → AreUpTo greatest seen → greatest < token → list_any (queues token) seen ≡ false
greater_no greatest token seen up_to h = false_unless_true (list_any (queues token) seen) (λ has. let no = up_to token has in absurd (grind (arith, h, no)))

-- nothing was seen yet
pub remembers_nothing : Remembers 0 0 []
remembers_nothing = record {
  is_part = grind (arith);
  lawful = λ before o later e. absurd (no_place before o later e);
  are_settled = λ token has. absurd cc;
  were_settled = λ before cause row e r c. absurd (no_place before cause row e);
  up_to = λ token has. absurd cc;
}
