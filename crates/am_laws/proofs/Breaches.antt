-- The tests find the first breach.
use Rattle.std.proofs.Common.{◌≡◌, ℕ, Bool, true, false, List, [], ◌∷◌, ◌++◌, length, Option, Some, None, refl, sym, ap, subst, ◌∙◌, append_assoc, inl, inr, arith}
use Rattle.std.specs.Prelude.{◌≤◌, ◌⊎◌, ◌&&◌, not, option_map, if◌then◌else◌}
use Rattle.std.specs.List.{list_any}
use Rattle.std.proofs.lemmas.List.{append-nil}
use Rattle.am_wire.specs.{Packet}
use Rattle.am_state.specs.{Obs}
use Rattle.am_state.specs.declared.obs.Obs.TheVariants.{Queued, Waits, Answered, Catatonic, Released, Passed, Unmounted, Delivered}
use Rattle.am_names.proofs.Basics.{not_where_false}
use Rattle.am_laws.specs.{IsLawfulAt, Lawful, is_lawful_at, are_lawful, queues, delivers, may_be_released, is_open, all_released, is_in_queue, is_expiry}
use Rattle.am_laws.specs.declared.law.Breach.{Breach}
use Rattle.am_laws.specs.declared.law.Law.{Law}
use Rattle.am_laws.specs.declared.law.Law.TheVariants as laws
use Rattle.am_laws.specs.Breaches.{Breaks, IsFirstBreach, law_number, unless, or_law, broken_by_answer, broken_by_delivery, broken_law, breach_at, breach_from}
use Rattle.am_laws.proofs.Words.{delivered_test, delivered_from_test, never_delivered_test, since_from_queued, queued_from_since}
use Rattle.am_laws.proofs.Decided.{lawful_at_passes, at_from_test, lawful_from_test, lawful_true, is_open_true, open_from_test, released_true, since_true, has_since, expiring_from_test}

-- ---- one law

unless_law : (b : Bool) (l law : Law) → unless b l ≡ Some law → (b ≡ false) × (l ≡ law)
unless_law true l law e = absurd cc
unless_law false l law e = (refl, cc)

unless_none : (b : Bool) (l : Law) → unless b l ≡ None → b ≡ true
unless_none true l e = refl
unless_none false l e = absurd cc

-- ---- an answer

-- which of three laws it is
abbrev AnswerIs : Bool → Bool → Bool → Law → Type 0
AnswerIs b c d law =
    ((b ≡ false) × (laws.AnsweredWhileOpen ≡ law))
    ⊎ (((b ≡ true) × (c ≡ false) × (laws.AnsweredAfterDelivery ≡ law))
    ⊎ ((b ≡ true) × (c ≡ true) × (d ≡ false) × (laws.AnswerReleasesAll ≡ law)))

answer_is : (b c d : Bool) (law : Law)
    → or_law (unless b laws.AnsweredWhileOpen)
    (or_law (unless c laws.AnsweredAfterDelivery) (unless d laws.AnswerReleasesAll)) ≡ Some law
    → AnswerIs b c d law
answer_is false c d law e = inl (refl, cc)
answer_is true false d law e = inr (inl (refl, refl, cc))
answer_is true true false law e = inr (inr (refl, refl, refl, cc))
answer_is true true true law e = absurd cc

answer_kept : (b c d : Bool)
    → or_law (unless b laws.AnsweredWhileOpen)
    (or_law (unless c laws.AnsweredAfterDelivery) (unless d laws.AnswerReleasesAll)) ≡ None
    → (b && c && d) ≡ true
answer_kept false c d e = absurd cc
answer_kept true false d e = absurd cc
answer_kept true true false e = absurd cc
answer_kept true true true e = refl

-- ---- a delivery

-- which of two laws it is
abbrev DeliveryIs : Bool → Bool → Law → Type 0
DeliveryIs b c law =
    ((b ≡ false) × (laws.DeliveredFromQueue ≡ law))
    ⊎ ((b ≡ true) × (c ≡ false) × (laws.DeliveredOnce ≡ law))

delivery_is : (b c : Bool) (law : Law)
    → or_law (unless b laws.DeliveredFromQueue) (unless c laws.DeliveredOnce) ≡ Some law
    → DeliveryIs b c law
delivery_is false c law e = inl (refl, cc)
delivery_is true false law e = inr (refl, refl, cc)
delivery_is true true law e = absurd cc

delivery_kept : (b c : Bool)
    → or_law (unless b laws.DeliveredFromQueue) (unless c laws.DeliveredOnce) ≡ None
    → (b && c) ≡ true
delivery_kept false c e = absurd cc
delivery_kept true false e = absurd cc
delivery_kept true true e = refl

-- ---- no law is broken

true_where_not : (b : Bool) → not b ≡ false → b ≡ true
true_where_not true e = refl
true_where_not false e = absurd cc

pub none_broken : (before : List Obs) (o : Obs) (rest : List Obs) → broken_law before o rest ≡ None → is_lawful_at before o rest ≡ true
none_broken before (Queued token attach packet) rest e = unless_none _ _ e
none_broken before (Waits walker token) rest e = unless_none _ _ e
none_broken before (Answered token status) rest e = answer_kept _ _ _ e
none_broken before (Catatonic fs) rest e = unless_none _ _ e
none_broken before (Released walker token status) rest e = unless_none _ _ e
none_broken before (Passed walker trigger) rest e = unless_none _ _ e
none_broken before (Unmounted mounts) rest e = unless_none _ _ e
none_broken before (Delivered token attach packet) rest e = delivery_kept _ _ e
none_broken before _ rest e = refl

-- ---- the law is broken

answer_breaks : (before rest : List Obs) (token : ℕ) (status : _) (law : Law)
    → AnswerIs (is_open token before) (list_any (delivers token) before) (all_released before token rest) law
    → Breaks law before (Answered token status) rest
answer_breaks before rest token status law is =
    elim is [
      | inl w ↦ subst (λ (l : Law). Breaks l before (Answered token status) rest) w.1 (λ h. let yes = is_open_true before token h in absurd cc)
      | inr others ↦ elim others [
        | inl w ↦ subst (λ (l : Law). Breaks l before (Answered token status) rest) w.2 (λ h. let yes = delivered_test token before h in absurd cc)
        | inr w ↦ subst (λ (l : Law). Breaks l before (Answered token status) rest) w.3 (λ h. let yes = released_true token rest before h in absurd cc)
      ]
    ]

delivery_breaks : (before rest : List Obs) (token attach : ℕ) (packet : Packet) (law : Law)
    → DeliveryIs (is_in_queue token attach packet before) (not (list_any (delivers token) before)) law
    → Breaks law before (Delivered token attach packet) rest
delivery_breaks before rest token attach packet law is =
    elim is [
      | inl w ↦ subst (λ (l : Law). Breaks l before (Delivered token attach packet) rest) w.1 (λ h. let yes = since_true _ _ before (since_from_queued before token attach packet h) in absurd cc)
      | inr w ↦ subst (λ (l : Law). Breaks l before (Delivered token attach packet) rest) w.2 (λ h. let yes = not_where_false _ (never_delivered_test token before h) in absurd cc)
    ]

pub law_breaks : (before : List Obs) (o : Obs) (rest : List Obs) (law : Law) → broken_law before o rest ≡ Some law → Breaks law before o rest
law_breaks before (Queued token attach packet) rest law e =
    let w = unless_law _ _ law e in
    subst (λ (l : Law). Breaks l before (Queued token attach packet) rest) w.1 (λ h. let yes = lawful_at_passes before (Queued token attach packet) rest h in absurd cc)
law_breaks before (Waits walker token) rest law e =
    let w = unless_law _ _ law e in
    subst (λ (l : Law). Breaks l before (Waits walker token) rest) w.1 (λ h. let yes = lawful_at_passes before (Waits walker token) rest h in absurd cc)
law_breaks before (Answered token status) rest law e = answer_breaks before rest token status law (answer_is _ _ _ law e)
law_breaks before (Catatonic fs) rest law e =
    let w = unless_law _ _ law e in
    subst (λ (l : Law). Breaks l before (Catatonic fs) rest) w.1 (λ h. let yes = lawful_at_passes before (Catatonic fs) rest h in absurd cc)
law_breaks before (Released walker token status) rest law e =
    let w = unless_law _ _ law e in
    subst (λ (l : Law). Breaks l before (Released walker token status) rest) w.1 (λ h. let yes = lawful_at_passes before (Released walker token status) rest h in absurd cc)
law_breaks before (Passed walker trigger) rest law e =
    let w = unless_law _ _ law e in
    subst (λ (l : Law). Breaks l before (Passed walker trigger) rest) w.1 (expiring_from_test before trigger (true_where_not _ w.0))
law_breaks before (Unmounted mounts) rest law e =
    let w = unless_law _ _ law e in
    subst (λ (l : Law). Breaks l before (Unmounted mounts) rest) w.1 (λ h. let yes = lawful_at_passes before (Unmounted mounts) rest h in absurd cc)
law_breaks before (Delivered token attach packet) rest law e = delivery_breaks before rest token attach packet law (delivery_is _ _ law e)
law_breaks before _ rest law e = absurd cc

-- ---- the test of one observation

pub at_queued : (before : List Obs) (o : Obs) (rest : List Obs) (token attach : ℕ) (packet : Packet) (has : Bool) (found : Option Law) → o ≡ Queued token attach packet → has ≡ list_any (queues token) before → found ≡ unless (not has) laws.QueuedOnce → found ≡ broken_law before o rest
at_queued before o rest token attach packet has found is h told = told ∙ ap (λ (b : Bool). unless (not b) laws.QueuedOnce) h ∙ sym (ap (λ (x : Obs). broken_law before x rest) is)

pub at_waits : (before : List Obs) (o : Obs) (rest : List Obs) (walker token : ℕ) (so : Bool) (found : Option Law) → o ≡ Waits walker token → so ≡ is_open token before → found ≡ unless so laws.WaitsOnOpen → found ≡ broken_law before o rest
at_waits before o rest walker token so found is h told = told ∙ ap (λ (b : Bool). unless b laws.WaitsOnOpen) h ∙ sym (ap (λ (x : Obs). broken_law before x rest) is)

pub at_answered : (before : List Obs) (o : Obs) (rest : List Obs) (token : ℕ) (status : _) (found : Option Law) → o ≡ Answered token status → found ≡ broken_by_answer before token rest → found ≡ broken_law before o rest
at_answered before o rest token status found is told = told ∙ sym (ap (λ (x : Obs). broken_law before x rest) is)

pub at_released : (before : List Obs) (o : Obs) (rest : List Obs) (walker token : ℕ) (status : _) (so : Bool) (found : Option Law) → o ≡ Released walker token status → so ≡ may_be_released before walker token status → found ≡ unless so laws.ReleasedByCause → found ≡ broken_law before o rest
at_released before o rest walker token status so found is h told = told ∙ ap (λ (b : Bool). unless b laws.ReleasedByCause) h ∙ sym (ap (λ (x : Obs). broken_law before x rest) is)

pub at_passed : (before : List Obs) (o : Obs) (rest : List Obs) (walker : ℕ) (trigger : _) (so : Bool) (found : Option Law) → o ≡ Passed walker trigger → so ≡ list_any (is_expiry before trigger) before → found ≡ unless (not so) laws.PassesNoExpiry → found ≡ broken_law before o rest
at_passed before o rest walker trigger so found is h told = told ∙ ap (λ (b : Bool). unless (not b) laws.PassesNoExpiry) h ∙ sym (ap (λ (x : Obs). broken_law before x rest) is)

pub at_delivered : (before : List Obs) (o : Obs) (rest : List Obs) (token attach : ℕ) (packet : Packet) (found : Option Law) → o ≡ Delivered token attach packet → found ≡ broken_by_delivery before token attach packet → found ≡ broken_law before o rest
at_delivered before o rest token attach packet found is told = told ∙ sym (ap (λ (x : Obs). broken_law before x rest) is)

-- ---- it is the first

least : (law : Law) → 1 ≤ law_number law
least laws.QueuedOnce = grind (arith)
least laws.WaitsOnOpen = grind (arith)
least laws.DeliveredFromQueue = grind (arith)
least laws.DeliveredOnce = grind (arith)
least laws.AnsweredWhileOpen = grind (arith)
least laws.AnsweredAfterDelivery = grind (arith)
least laws.AnswerReleasesAll = grind (arith)
least laws.CatatonicReleasesAll = grind (arith)
least laws.ReleasedByCause = grind (arith)
least laws.PassesNoExpiry = grind (arith)
least laws.UnmountsUnused = grind (arith)

at_law : (law other : Law) → law ≡ other → law_number law ≤ law_number other
at_law law other e = let same = ap law_number e in grind (arith, same)

from_first : (law other : Law) → laws.QueuedOnce ≡ law → law_number law ≤ law_number other
from_first law other e = let same : 1 ≡ law_number law = ap law_number e in let low = least other in grind (arith, same, low)

answer_first : (before rest : List Obs) (token : ℕ) (status : _) (law other : Law)
    → AnswerIs (is_open token before) (list_any (delivers token) before) (all_released before token rest) law
    → Breaks other before (Answered token status) rest → law_number law ≤ law_number other
answer_first before rest token status law laws.AnsweredWhileOpen is h =
    elim is [
      | inl w ↦ at_law law laws.AnsweredWhileOpen (sym w.1)
      | inr others ↦ elim others [
        | inl w ↦ absurd (h (open_from_test before token w.0))
        | inr w ↦ absurd (h (open_from_test before token w.0))
      ]
    ]
answer_first before rest token status law laws.AnsweredAfterDelivery is h =
    elim is [
      | inl w ↦ let same : 5 ≡ law_number law = ap law_number w.1 in grind (arith, same)
      | inr others ↦ elim others [
        | inl w ↦ at_law law laws.AnsweredAfterDelivery (sym w.2)
        | inr w ↦ absurd (h (delivered_from_test token before w.1))
      ]
    ]
answer_first before rest token status law laws.AnswerReleasesAll is h =
    elim is [
      | inl w ↦ let same : 5 ≡ law_number law = ap law_number w.1 in grind (arith, same)
      | inr others ↦ elim others [
        | inl w ↦ let same : 6 ≡ law_number law = ap law_number w.2 in grind (arith, same)
        | inr w ↦ at_law law laws.AnswerReleasesAll (sym w.3)
      ]
    ]
answer_first before rest token status law _ is h = absurd h

delivery_first : (before rest : List Obs) (token attach : ℕ) (packet : Packet) (law other : Law)
    → DeliveryIs (is_in_queue token attach packet before) (not (list_any (delivers token) before)) law
    → Breaks other before (Delivered token attach packet) rest → law_number law ≤ law_number other
delivery_first before rest token attach packet law laws.DeliveredFromQueue is h =
    elim is [
      | inl w ↦ at_law law laws.DeliveredFromQueue (sym w.1)
      | inr w ↦ absurd (h (queued_from_since before token attach packet (has_since _ _ before w.0)))
    ]
delivery_first before rest token attach packet law laws.DeliveredOnce is h =
    elim is [
      | inl w ↦ let same : 3 ≡ law_number law = ap law_number w.1 in grind (arith, same)
      | inr w ↦ at_law law laws.DeliveredOnce (sym w.2)
    ]
delivery_first before rest token attach packet law _ is h = absurd h

waits_first : (before rest : List Obs) (walker token : ℕ) (law other : Law) → laws.WaitsOnOpen ≡ law → Breaks other before (Waits walker token) rest → law_number law ≤ law_number other
waits_first before rest walker token law laws.WaitsOnOpen e h = at_law law laws.WaitsOnOpen (sym e)
waits_first before rest walker token law _ e h = absurd h

catatonic_first : (before rest : List Obs) (fs : ℕ) (law other : Law) → laws.CatatonicReleasesAll ≡ law → Breaks other before (Catatonic fs) rest → law_number law ≤ law_number other
catatonic_first before rest fs law laws.CatatonicReleasesAll e h = at_law law laws.CatatonicReleasesAll (sym e)
catatonic_first before rest fs law _ e h = absurd h

released_first : (before rest : List Obs) (walker token : ℕ) (status : _) (law other : Law) → laws.ReleasedByCause ≡ law → Breaks other before (Released walker token status) rest → law_number law ≤ law_number other
released_first before rest walker token status law laws.ReleasedByCause e h = at_law law laws.ReleasedByCause (sym e)
released_first before rest walker token status law _ e h = absurd h

passed_first : (before rest : List Obs) (walker : ℕ) (trigger : _) (law other : Law) → laws.PassesNoExpiry ≡ law → Breaks other before (Passed walker trigger) rest → law_number law ≤ law_number other
passed_first before rest walker trigger law laws.PassesNoExpiry e h = at_law law laws.PassesNoExpiry (sym e)
passed_first before rest walker trigger law _ e h = absurd h

unmounted_first : (before rest : List Obs) (mounts : List ℕ) (law other : Law) → laws.UnmountsUnused ≡ law → Breaks other before (Unmounted mounts) rest → law_number law ≤ law_number other
unmounted_first before rest mounts law laws.UnmountsUnused e h = at_law law laws.UnmountsUnused (sym e)
unmounted_first before rest mounts law _ e h = absurd h

pub law_first : (before : List Obs) (o : Obs) (rest : List Obs) (law other : Law) → broken_law before o rest ≡ Some law → Breaks other before o rest → law_number law ≤ law_number other
law_first before (Queued token attach packet) rest law other e h = from_first law other (unless_law _ _ law e).1
law_first before (Waits walker token) rest law other e h = waits_first before rest walker token law other (unless_law _ _ law e).1 h
law_first before (Answered token status) rest law other e h = answer_first before rest token status law other (answer_is _ _ _ law e) h
law_first before (Catatonic fs) rest law other e h = catatonic_first before rest fs law other (unless_law _ _ law e).1 h
law_first before (Released walker token status) rest law other e h = released_first before rest walker token status law other (unless_law _ _ law e).1 h
law_first before (Passed walker trigger) rest law other e h = passed_first before rest walker trigger law other (unless_law _ _ law e).1 h
law_first before (Unmounted mounts) rest law other e h = unmounted_first before rest mounts law other (unless_law _ _ law e).1 h
law_first before (Delivered token attach packet) rest law other e h = delivery_first before rest token attach packet law other (delivery_is _ _ law e) h
law_first before _ rest law other e h = absurd cc

-- ---- over a trace

-- each of these observations is lawful between those before it and all behind it
abbrev AreLawfulTo : List Obs → List Obs → List Obs → Type 0
AreLawfulTo before middle rest =
    (front back : List Obs) (p : Obs) → middle ≡ front ++ p ∷ back → IsLawfulAt (before ++ front) p (back ++ rest)

nothing_between : (before rest : List Obs) → AreLawfulTo before [] rest
nothing_between before rest [] back p e = absurd cc
nothing_between before rest (x ∷ front) back p e = absurd cc

one_more : (before middle rest : List Obs) (q : Obs) → IsLawfulAt before q (middle ++ rest) → AreLawfulTo (before ++ q ∷ []) middle rest → AreLawfulTo before (q ∷ middle) rest
one_more before middle rest q h others [] back p e =
    let same : q ≡ p = cc in
    let behind : middle ≡ back = cc in
    rw append-nil (subst (λ (x : Obs). IsLawfulAt before x (back ++ rest)) same (subst (λ (m : List Obs). IsLawfulAt before q (m ++ rest)) behind h))
one_more before middle rest q h others (x ∷ front) back p e =
    let same : q ≡ x = cc in
    let behind : middle ≡ front ++ p ∷ back = cc in
    subst (λ (b : List Obs). IsLawfulAt b p (back ++ rest)) (append_assoc before (x ∷ []) front) (subst (λ (y : Obs). IsLawfulAt ((before ++ y ∷ []) ++ front) p (back ++ rest)) same (others front back p behind))

-- the first breach of `rest` after `before`
record FoundAfter (before rest : List Obs) (breach : Breach) : Type 0 where
  middle : List Obs
  o : Obs
  later : List Obs
  splits : rest ≡ middle ++ o ∷ later
  place : breach.place ≡ length (before ++ middle)
  breaks : Breaks breach.law (before ++ middle) o later
  first : (law : Law) → Breaks law (before ++ middle) o later → law_number breach.law ≤ law_number law
  lawful : AreLawfulTo before middle (o ∷ later)

found_here : (before : List Obs) (o : Obs) (later : List Obs) (breach : Breach) (law : Option Law) → broken_law before o later ≡ law → option_map (breach_at (length before)) law ≡ Some breach → FoundAfter before (o ∷ later) breach
found_here before o later breach None e h = absurd cc
found_here before o later breach (Some law) e h =
    let same : breach_at (length before) law ≡ breach = cc in
    subst (λ (b : Breach). FoundAfter before (o ∷ later) b) same (record {
      middle = [];
      o = o;
      later = later;
      splits = refl;
      place = rw append-nil refl;
      breaks = rw append-nil (law_breaks before o later law e);
      first = λ other h. law_first before o later law other e (subst (λ (b : List Obs). Breaks other b o later) (append-nil before) h);
      lawful = nothing_between before (o ∷ later);
    })

found_later : (before : List Obs) (q : Obs) (rest : List Obs) (breach : Breach) → is_lawful_at before q rest ≡ true → FoundAfter (before ++ q ∷ []) rest breach → FoundAfter before (q ∷ rest) breach
found_later before q rest breach h f = record {
  middle = q ∷ f.middle;
  o = f.o;
  later = f.later;
  splits = ap (λ (xs : List Obs). q ∷ xs) f.splits;
  place = f.place ∙ ap length (append_assoc before (q ∷ []) f.middle);
  breaks = subst (λ (b : List Obs). Breaks breach.law b f.o f.later) (append_assoc before (q ∷ []) f.middle) f.breaks;
  first = λ law b. f.first law (subst (λ (x : List Obs). Breaks law x f.o f.later) (sym (append_assoc before (q ∷ []) f.middle)) b);
  lawful = one_more before f.middle (f.o ∷ f.later) q (subst (λ (r : List Obs). IsLawfulAt before q r) f.splits (at_from_test before q rest h)) f.lawful;
}

found_by : (before : List Obs) (q : Obs) (rest : List Obs) (breach : Breach) (b : Bool) → is_lawful_at before q rest ≡ b → (breach_from (before ++ q ∷ []) rest ≡ Some breach → FoundAfter (before ++ q ∷ []) rest breach) → (if b then breach_from (before ++ q ∷ []) rest else option_map (breach_at (length before)) (broken_law before q rest)) ≡ Some breach → FoundAfter before (q ∷ rest) breach
found_by before q rest breach true is later h = found_later before q rest breach is (later h)
found_by before q rest breach false is later h = found_here before q rest breach (broken_law before q rest) refl h

found_from : (before rest : List Obs) (breach : Breach) → breach_from before rest ≡ Some breach → FoundAfter before rest breach
found_from before [] breach h = absurd cc
found_from before (q ∷ rest) breach h = found_by before q rest breach (is_lawful_at before q rest) refl (found_from (before ++ q ∷ []) rest breach) h

pub first_breach_found : (trace : List Obs) (breach : Breach) → breach_from [] trace ≡ Some breach → IsFirstBreach trace breach
first_breach_found trace breach h =
    let f = found_from [] trace breach h in
    record { before = f.middle; o = f.o; rest = f.later; splits = f.splits; place = f.place; breaks = f.breaks; first = f.first; lawful = λ front back p e. f.lawful front back p e }

-- ---- none is found just where the trace is lawful

not_lawful_law : (before : List Obs) (o : Obs) (rest : List Obs) (law : Option Law) → broken_law before o rest ≡ law → is_lawful_at before o rest ≡ false → option_map (breach_at (length before)) law ≡ None → ⊥
not_lawful_law before o rest None e is h = let yes = none_broken before o rest e in absurd cc
not_lawful_law before o rest (Some law) e is h = absurd cc

none_by : (before : List Obs) (q : Obs) (rest : List Obs) (b : Bool) → is_lawful_at before q rest ≡ b → (breach_from (before ++ q ∷ []) rest ≡ None → are_lawful (before ++ q ∷ []) rest ≡ true) → (if b then breach_from (before ++ q ∷ []) rest else option_map (breach_at (length before)) (broken_law before q rest)) ≡ None → (b && are_lawful (before ++ q ∷ []) rest) ≡ true
none_by before q rest true is later h = later h
none_by before q rest false is later h = absurd (not_lawful_law before q rest (broken_law before q rest) refl is h)

none_from : (before rest : List Obs) → breach_from before rest ≡ None → are_lawful before rest ≡ true
none_from before [] h = refl
none_from before (q ∷ rest) h = none_by before q rest (is_lawful_at before q rest) refl (none_from (before ++ q ∷ []) rest) h

none_where_by : (before : List Obs) (q : Obs) (rest : List Obs) (b : Bool) → is_lawful_at before q rest ≡ b → (are_lawful (before ++ q ∷ []) rest ≡ true → breach_from (before ++ q ∷ []) rest ≡ None) → (b && are_lawful (before ++ q ∷ []) rest) ≡ true → (if b then breach_from (before ++ q ∷ []) rest else option_map (breach_at (length before)) (broken_law before q rest)) ≡ None
none_where_by before q rest true is later h = later h
none_where_by before q rest false is later h = absurd cc

none_where : (before rest : List Obs) → are_lawful before rest ≡ true → breach_from before rest ≡ None
none_where before [] h = refl
none_where before (q ∷ rest) h = none_where_by before q rest (is_lawful_at before q rest) refl (none_where (before ++ q ∷ []) rest) h

pub none_is_lawful : (trace : List Obs) → breach_from [] trace ≡ None → Lawful trace
none_is_lawful trace h = lawful_from_test trace (none_from [] trace h)

pub lawful_is_none : (trace : List Obs) → Lawful trace → breach_from [] trace ≡ None
lawful_is_none trace h = none_where [] trace (lawful_true trace h)
