-- Where a trace breaks a law first, and which law that is. The laws are those of `Lawful`, each by
-- its clause there (own choice).
use Rattle.std.specs.Prelude.{◌≡◌, ◌≤◌, ℕ, Bool, true, false, not, List, [], ◌∷◌, ◌++◌, length, codes, Option, None, Some, option_map, pos, if◌then◌else◌}
use Rattle.std.specs.List.{list_any, list_all, All}
use Rattle.am_wire.specs.{Packet}
use Rattle.am_state.specs.{Obs}
use Rattle.am_state.specs.declared.obs.Obs.TheVariants.{Queued, Waits, Answered, Catatonic, Released, Passed, Unmounted, Delivered}
use Rattle.am_laws.specs.declared.law.Breach.{Breach}
use Rattle.am_laws.specs.declared.law.Law.{Law}
use Rattle.am_laws.specs.declared.law.Law.TheVariants as laws
use Rattle.am_laws.specs.OneObservation.{queues, delivers}
use Rattle.am_laws.specs.Counts.{fs_of_token, IsOpen, IsExpiring, IsQueued, NeverQueued, WasDelivered, NeverDelivered, uses}
use Rattle.am_laws.specs.TraceLaws.{MayBeReleased, AllReleased}
use Rattle.am_laws.specs.Fold.{IsLawfulAt}
use Rattle.am_laws.specs.Tests.{is_open, is_in_queue, is_unused, is_expiry, is_closed, all_released, may_be_released, is_lawful_at}

-- the observation breaks this law, after what was seen before it and before what follows
abbrev pub Breaks : Law → List Obs → Obs → List Obs → Type 0
Breaks laws.QueuedOnce before (Queued token attach packet) rest = ¬ NeverQueued before token
Breaks laws.WaitsOnOpen before (Waits walker token) rest = ¬ IsOpen before token
Breaks laws.DeliveredFromQueue before (Delivered token attach packet) rest =
    ¬ IsQueued before token attach packet
Breaks laws.DeliveredOnce before (Delivered token attach packet) rest = ¬ NeverDelivered before token
Breaks laws.AnsweredWhileOpen before (Answered token status) rest = ¬ IsOpen before token
Breaks laws.AnsweredAfterDelivery before (Answered token status) rest = ¬ WasDelivered before token
Breaks laws.AnswerReleasesAll before (Answered token status) rest = ¬ AllReleased before token rest
Breaks laws.CatatonicReleasesAll before (Catatonic fs) rest =
    ¬ ((token : ℕ) → fs_of_token token before ≡ Some fs → IsOpen before token →
    AllReleased before token rest)
Breaks laws.ReleasedByCause before (Released walker token status) rest =
    ¬ MayBeReleased before walker token status
Breaks laws.PassesNoExpiry before (Passed walker trigger) rest = IsExpiring before trigger
Breaks laws.UnmountsUnused before (Unmounted mounts) rest =
    ¬ All (λ mount. uses before mount ≡ pos 0) mounts
Breaks law before o rest = ⊥

-- the number of a law
abbrev pub law_number : Law → ℕ
law_number laws.QueuedOnce = 1
law_number laws.WaitsOnOpen = 2
law_number laws.DeliveredFromQueue = 3
law_number laws.DeliveredOnce = 4
law_number laws.AnsweredWhileOpen = 5
law_number laws.AnsweredAfterDelivery = 6
law_number laws.AnswerReleasesAll = 7
law_number laws.CatatonicReleasesAll = 8
law_number laws.ReleasedByCause = 9
law_number laws.PassesNoExpiry = 10
law_number laws.UnmountsUnused = 11

-- what a law asks, in a sentence
abbrev pub sentence_of : Law → List ℕ
sentence_of laws.QueuedOnce = codes "a packet of a token is queued once"
sentence_of laws.WaitsOnOpen = codes "a walker waits on a token that is open"
sentence_of laws.DeliveredFromQueue = codes "the packet that is delivered stands in the queue"
sentence_of laws.DeliveredOnce = codes "the packet of a token is delivered once"
sentence_of laws.AnsweredWhileOpen = codes "a token that is answered is open"
sentence_of laws.AnsweredAfterDelivery = codes "a token is answered behind its delivery"
sentence_of laws.AnswerReleasesAll = codes "an answer releases, at once, all who wait on its token"
sentence_of laws.CatatonicReleasesAll =
    codes "catatonic mode releases, at once, all who wait on open tokens of its file system"
sentence_of laws.ReleasedByCause =
    codes "a walker is released once from the token that it waits on, by what closes it"
sentence_of laws.PassesNoExpiry = codes "no walk passes a trigger whose expiry is outstanding"
sentence_of laws.UnmountsUnused = codes "no mount that is in use is unmounted"

-- an observation of the trace breaks this law, the first of those that it breaks, and each before
-- it is lawful where it stands
pub record IsFirstBreach (trace : List Obs) (breach : Breach) : Type 0 where
  pub before : List Obs
  pub o : Obs
  pub rest : List Obs
  pub splits : trace ≡ before ++ o ∷ rest
  pub place : breach.place ≡ length before
  pub breaks : Breaks breach.law before o rest
  pub first : (law : Law) → Breaks law before o rest → law_number breach.law ≤ law_number law
  pub lawful : (front back : List Obs) (p : Obs) → before ≡ front ++ p ∷ back →
      IsLawfulAt front p (back ++ o ∷ rest)

-- ---- the tests that find it

-- the law that is broken, if the test fails
abbrev pub unless : Bool → Law → Option Law
unless true law = None
unless false law = Some law

-- the first law, or else the second
abbrev pub or_law : Option Law → Option Law → Option Law
or_law None second = second
or_law (Some law) second = Some law

-- the law that an answer breaks
abbrev pub broken_by_answer : List Obs → ℕ → List Obs → Option Law
broken_by_answer before token rest =
    or_law (unless (is_open token before) laws.AnsweredWhileOpen)
    (or_law (unless (list_any (delivers token) before) laws.AnsweredAfterDelivery)
    (unless (all_released before token rest) laws.AnswerReleasesAll))

-- the law that a delivery breaks
abbrev pub broken_by_delivery : List Obs → ℕ → ℕ → Packet → Option Law
broken_by_delivery before token attach packet =
    or_law (unless (is_in_queue token attach packet before) laws.DeliveredFromQueue)
    (unless (not (list_any (delivers token) before)) laws.DeliveredOnce)

-- the law that an observation breaks, if it isn't lawful where it stands (`is_lawful_at`)
abbrev pub broken_law : List Obs → Obs → List Obs → Option Law
broken_law before (Queued token attach packet) rest =
    unless (not (list_any (queues token) before)) laws.QueuedOnce
broken_law before (Waits walker token) rest = unless (is_open token before) laws.WaitsOnOpen
broken_law before (Answered token status) rest = broken_by_answer before token rest
broken_law before (Catatonic fs) rest =
    unless (list_all (is_closed fs before rest) before) laws.CatatonicReleasesAll
broken_law before (Released walker token status) rest =
    unless (may_be_released before walker token status) laws.ReleasedByCause
broken_law before (Passed walker trigger) rest =
    unless (not (list_any (is_expiry before trigger) before)) laws.PassesNoExpiry
broken_law before (Unmounted mounts) rest =
    unless (list_all (is_unused before) mounts) laws.UnmountsUnused
broken_law before (Delivered token attach packet) rest =
    broken_by_delivery before token attach packet
broken_law before o rest = None

-- the breach at a place
abbrev pub breach_at : ℕ → Law → Breach
breach_at place law = record { place = place; law = law }

-- the first breach of `rest` after `before`
abbrev pub breach_from : List Obs → List Obs → Option Breach
breach_from before [] = None
breach_from before (o ∷ rest) =
    if is_lawful_at before o rest then breach_from (before ++ o ∷ []) rest
    else option_map (breach_at (length before)) (broken_law before o rest)
