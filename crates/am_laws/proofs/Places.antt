-- The laws by places and the laws from the front say the same.
use Rattle.std.proofs.Common.{◌≡◌, List, [], ◌∷◌, ◌++◌, refl, sym, ap, subst, append_assoc}
use Rattle.std.specs.Prelude.{◌↔◌}
use Rattle.std.proofs.lemmas.List.{append-nil}
use Rattle.am_state.specs.{Obs}
use Rattle.am_state.specs.declared.obs.Obs.TheVariants.{Queued, Waits, Answered, Catatonic, Released, Passed, Unmounted, Delivered}
use Rattle.am_laws.specs.{Lawful, IsLawfulAt, AreLawful}

-- lawful from the front on, so lawful at a place
pub at_place : (before trace front rest : List Obs) (o : Obs) → AreLawful before trace → trace ≡ front ++ o ∷ rest → IsLawfulAt (before ++ front) o rest
at_place before [] [] rest o h e = absurd cc
at_place before [] (x ∷ front) rest o h e = absurd cc
at_place before (p ∷ trace) [] rest o h e =
    let same : p ≡ o = cc in
    let others : trace ≡ rest = cc in
    rw append-nil (subst (λ (x : Obs). IsLawfulAt before x rest) same (subst (λ (r : List Obs). IsLawfulAt before p r) others h.0))
at_place before (p ∷ trace) (x ∷ front) rest o h e =
    let same : p ≡ x = cc in
    let others : trace ≡ front ++ o ∷ rest = cc in
    subst (λ (b : List Obs). IsLawfulAt b o rest) (append_assoc before (x ∷ []) front) (at_place (before ++ x ∷ []) trace front rest o (subst (λ (y : Obs). AreLawful (before ++ y ∷ []) trace) same h.1) others)

-- lawful at each place, so lawful from the front on
pub from_places : (before trace : List Obs) → ((front rest : List Obs) (o : Obs) → trace ≡ front ++ o ∷ rest → IsLawfulAt (before ++ front) o rest) → AreLawful before trace
from_places before [] h = tt
from_places before (p ∷ trace) h =
    (subst (λ (b : List Obs). IsLawfulAt b p trace) (append-nil before) (h [] trace p refl), from_places (before ++ p ∷ []) trace (λ front rest o e. subst (λ (b : List Obs). IsLawfulAt b o rest) (sym (append_assoc before (p ∷ []) front)) (h (p ∷ front) rest o (ap (λ (xs : List Obs). p ∷ xs) e))))

-- a place of a lawful trace
lawful_place : (trace : List Obs) → Lawful trace → (front rest : List Obs) (o : Obs) → trace ≡ front ++ o ∷ rest → IsLawfulAt front o rest
lawful_place trace h front rest (Queued token attach packet) e = h.packets.queued_once front rest token attach packet e
lawful_place trace h front rest (Waits walker token) e = h.waiters.waits_on_open front rest walker token e
lawful_place trace h front rest (Answered token status) e =
    (h.packets.answered_while_open front rest token status e, h.packets.answered_after_delivery front rest token status e, h.waiters.answer_releases_all front rest token status e)
lawful_place trace h front rest (Catatonic fs) e = λ token. h.waiters.catatonic_releases_all front rest fs token e
lawful_place trace h front rest (Released walker token status) e = h.waiters.released_by_cause front rest walker token status e
lawful_place trace h front rest (Passed walker trigger) e = h.passes front rest walker trigger e
lawful_place trace h front rest (Unmounted mounts) e = h.unmounts front rest mounts e
lawful_place trace h front rest (Delivered token attach packet) e =
    (h.packets.delivered_from_queue front rest token attach packet e, h.packets.delivered_once front rest token attach packet e)
lawful_place trace h front rest _ e = tt

pub lawful_from_front : (trace : List Obs) → Lawful trace → AreLawful [] trace
lawful_from_front trace h = from_places [] trace (lawful_place trace h)

pub front_from_lawful : (trace : List Obs) → AreLawful [] trace → Lawful trace
front_from_lawful trace h = record {
  waiters = record {
    waits_on_open = λ before rest walker token e. at_place [] trace before rest (Waits walker token) h e;
    released_by_cause = λ before rest walker token status e. at_place [] trace before rest (Released walker token status) h e;
    answer_releases_all = λ before rest token status e. (at_place [] trace before rest (Answered token status) h e).2;
    catatonic_releases_all = λ before rest fs token e. at_place [] trace before rest (Catatonic fs) h e token;
  };
  passes = λ before rest walker trigger e. at_place [] trace before rest (Passed walker trigger) h e;
  unmounts = λ before rest mounts e. at_place [] trace before rest (Unmounted mounts) h e;
  packets = record {
    queued_once = λ before rest token attach packet e. at_place [] trace before rest (Queued token attach packet) h e;
    delivered_from_queue = λ before rest token attach packet e. (at_place [] trace before rest (Delivered token attach packet) h e).0;
    delivered_once = λ before rest token attach packet e. (at_place [] trace before rest (Delivered token attach packet) h e).1;
    answered_while_open = λ before rest token status e. (at_place [] trace before rest (Answered token status) h e).0;
    answered_after_delivery = λ before rest token status e. (at_place [] trace before rest (Answered token status) h e).1;
  };
}

-- the two forms are one
pub lawful_is_front : (trace : List Obs) → Lawful trace ↔ AreLawful [] trace
lawful_is_front trace = (lawful_from_front trace, front_from_lawful trace)
