-- The last use of a trigger changes only as was seen, or where a walker's wait on its expiry is over.
use Rattle.std.proofs.Common.{◌≡◌, ◌⊎◌, ◌∙◌, ℕ, ◌+◌, Bool, true, false, List, [], ◌∷◌, ◌++◌, Some, None, refl, sym, ap, subst, inl, inr, ⊎_elim}
use Rattle.std.specs.Prelude.{◌==◌}
use Rattle.std.specs.List.{Contains}
use Rattle.std.proofs.lemmas.List.Elements.{Contains-push, Contains-append_left, Contains-append_right}
use Rattle.am_names.specs.{same_trigger, Status, TokenKind, WaitRow}
use Rattle.am_names.specs.declared.trigger.Trigger.{Trigger}
use Rattle.am_names.specs.declared.row.TokenKind.TheVariants.{Missing, Expire}
use Rattle.am_names.proofs.SameTriggers.{equal_by_same_trigger}
use Rattle.am_state.specs.{Obs}
use Rattle.am_state.specs.declared.obs.Obs.TheVariants as seen
use Rattle.am_trigger.specs.{last_use_in, used_in, all_used_in}
use Rattle.am_trigger.proofs.TriggerLemmas.{used_at}
use Rattle.am_wait.specs.{wait_of, without_wait}
use Rattle.am_wait.proofs.FindLemmas.{wait_taken}
use Rattle.am_kernel.specs.{KernelState, passes, packet_for, wait_collected_from}
use Rattle.am_kernel.specs.Walks as walks
use Rattle.am_laws.specs.{trigger_of}
use Rattle.am_machine.specs.{Event, after, outcome_of, Asked, IsUseSeen, StepsTellUses}
use Rattle.am_machine.specs.State.{State}
use Rattle.am_machine.proofs.Traces.Walks.{packet_asks}
use Rattle.am_machine.proofs.Tour.Walks as tour
use Rattle.am_machine.proofs.Tour.Walks.{AnyPath, IsGiven, noticed}
use Rattle.am_machine.proofs.Tour.Events as tours
use Rattle.am_machine.proofs.Tour.Events.{AnyJob, any_event}

-- ---- triggers that were passed

abbrev Uses : Type 0
Uses = List (Trigger × ℕ)

used_by_cases : (trigger g : Trigger) (moment : ℕ) (uses : Uses) (b : Bool) → same_trigger trigger g ≡ b → (last_use_in (used_in trigger moment uses) g ≡ last_use_in uses g) ⊎ (trigger ≡ g)
used_by_cases trigger g moment uses true same = inr (equal_by_same_trigger trigger g same)
used_by_cases trigger g moment uses false other = inl (used_at trigger g moment uses ∙ rw other refl)

one_used : (trigger g : Trigger) (moment : ℕ) (uses : Uses) → (last_use_in (used_in trigger moment uses) g ≡ last_use_in uses g) ⊎ (trigger ≡ g)
one_used trigger g moment uses = used_by_cases trigger g moment uses (same_trigger trigger g) refl

first_seen : (o : Obs) (later : List Obs) → Contains (o ∷ later) o
first_seen o later = Contains-append_left (o ∷ []) later o (Contains-push [] o)

seen_later : (o p : Obs) (later : List Obs) → Contains later p → Contains (o ∷ later) p
seen_later o p later h = Contains-append_right (o ∷ []) later p h

-- each trigger that was passed is seen
all_passed : (walker : ℕ) (passed : List Trigger) (g : Trigger) (moment : ℕ) (uses : Uses) → (last_use_in (all_used_in passed moment uses) g ≡ last_use_in uses g) ⊎ Contains (passes walker passed) (seen.Passed walker g)
all_passed walker [] g moment uses = inl refl
all_passed walker (trigger ∷ passed) g moment uses = by (all_passed walker passed g moment (used_in trigger moment uses)) (one_used trigger g moment uses)
  where
    by : (last_use_in (all_used_in passed moment (used_in trigger moment uses)) g ≡ last_use_in (used_in trigger moment uses) g) ⊎ Contains (passes walker passed) (seen.Passed walker g) → (last_use_in (used_in trigger moment uses) g ≡ last_use_in uses g) ⊎ (trigger ≡ g) →
        (last_use_in (all_used_in passed moment (used_in trigger moment uses)) g ≡ last_use_in uses g) ⊎ Contains (passes walker (trigger ∷ passed)) (seen.Passed walker g)
    by (inr later) here = inr (seen_later (seen.Passed walker trigger) (seen.Passed walker g) (passes walker passed) later)
    by (inl e) (inl f) = inl (e ∙ f)
    by (inl e) (inr same) = inr (subst (λ (t : Trigger). Contains (passes walker (trigger ∷ passed)) (seen.Passed walker t)) same (first_seen (seen.Passed walker trigger) (passes walker passed)))

-- ---- what walkers do

abbrev SeenBy : KernelState → List Obs → KernelState → Type 0
SeenBy k shown made = (g : Trigger) → (last_use_in made.triggers.uses g ≡ last_use_in k.triggers.uses g) ⊎ IsUseSeen k shown g

arrives : (k made : KernelState) (walker moment : ℕ) (passed : List Trigger) (later : List Obs) → made.triggers.uses ≡ all_used_in passed moment k.triggers.uses → SeenBy k (passes walker passed ++ later) made
arrives k made walker moment passed later uses g =
    ⊎_elim
    (λ same. inl (ap (λ (u : Uses). last_use_in u g) uses ∙ same))
    (λ is. inr (inl (walker, Contains-append_left (passes walker passed) later (seen.Passed walker g) is)))
    (all_passed walker passed g moment k.triggers.uses)

queued_trigger : (token walker : ℕ) (trigger : Trigger) → trigger_of (packet_for Missing token walker trigger) ≡ trigger
queued_trigger token walker trigger = ap (λ (a : Asked). a.trigger) (packet_asks Missing token walker trigger.fs trigger.name)

notifies : (k : KernelState) (walker moment : ℕ) (trigger : Trigger) (attach : ℕ) (passed : List Trigger) (g : Trigger) →
    (last_use_in (used_in trigger moment (all_used_in passed moment k.triggers.uses)) g ≡ last_use_in k.triggers.uses g) ⊎ IsUseSeen k (passes walker passed ++ noticed k walker attach trigger Missing) g
notifies k walker moment trigger attach passed g = by (one_used trigger g moment (all_used_in passed moment k.triggers.uses)) (all_passed walker passed g moment k.triggers.uses)
  where
    by : (last_use_in (used_in trigger moment (all_used_in passed moment k.triggers.uses)) g ≡ last_use_in (all_used_in passed moment k.triggers.uses) g) ⊎ (trigger ≡ g) → (last_use_in (all_used_in passed moment k.triggers.uses) g ≡ last_use_in k.triggers.uses g) ⊎ Contains (passes walker passed) (seen.Passed walker g) →
        (last_use_in (used_in trigger moment (all_used_in passed moment k.triggers.uses)) g ≡ last_use_in k.triggers.uses g) ⊎ IsUseSeen k (passes walker passed ++ noticed k walker attach trigger Missing) g
    by (inr same) was =
        let token = k.waits.last_token + 1 in
        let packet = packet_for Missing token walker trigger in
        let there = Contains-append_right (passes walker passed) (noticed k walker attach trigger Missing) (seen.Queued token attach packet) (first_seen (seen.Queued token attach packet) (seen.Waits walker token ∷ [])) in
        inr (inr (inl (token, attach, packet, there, queued_trigger token walker trigger ∙ same)))
    by (inl e) (inl f) = inl (e ∙ f)
    by (inl e) (inr is) = inr (inl (walker, Contains-append_left (passes walker passed) (noticed k walker attach trigger Missing) (seen.Passed walker g) is))

wait_before : (k : KernelState) (n walker : ℕ) (wait : WaitRow) (b : Bool) → (n == walker) ≡ b → wait_of (without_wait n k.waits.waits) walker ≡ Some wait → wait_of k.waits.waits walker ≡ Some wait
wait_before k n walker wait true is e = let no : None ≡ Some wait = sym (wait_taken n k.waits.waits walker true is) ∙ e in absurd cc
wait_before k n walker wait false is e = sym (wait_taken n k.waits.waits walker false is) ∙ e

-- what was seen of a use once a wait was collected
collected_seen : (k base : KernelState) (wait : WaitRow) (shown : List Obs) (g : Trigger) → base.waits.waits ≡ without_wait wait.walker k.waits.waits → IsUseSeen base shown g → IsUseSeen k shown g
collected_seen k base wait shown g waits (inl passed) = inl passed
collected_seen k base wait shown g waits (inr (inl asked)) = inr (inl asked)
collected_seen k base wait shown g waits (inr (inr over)) =
    let other = over.0 in
    inr (inr (other, over.1, wait_before k wait.walker other.walker other (wait.walker == other.walker) refl (subst (λ (rows : List WaitRow). wait_of rows other.walker ≡ Some other) waits over.2), over.3, over.4))

after_freed : (kind : TokenKind) (k : KernelState) (wait : WaitRow) (status : Status) (moment : ℕ) (shown : List Obs) (made : KernelState) → IsGiven k wait status → SeenBy (wait_collected_from kind wait moment k) shown made → SeenBy k shown made
after_freed Missing k wait status moment shown made is later g =
    ⊎_elim (λ same. inl same) (λ told. inr (collected_seen k (wait_collected_from Missing wait moment k) wait shown g refl told)) (later g)
after_freed Expire k wait status moment shown made is later g =
    ⊎_elim
    (λ same. ⊎_elim (λ e. inl (same ∙ e)) (λ on. inr (inr (inr (wait, status, is.waits, is.given, on)))) (one_used wait.trigger g moment k.triggers.uses))
    (λ told. inr (collected_seen k (wait_collected_from Expire wait moment k) wait shown g refl told))
    (later g)

walkers : tour.Keeps AnyPath SeenBy
walkers = record {
  nothing = λ k g. inl refl;
  arrived = λ k attempt at passed w. arrives k (walks.arrived attempt at.mount passed k) attempt.walker attempt.moment passed (seen.Entered attempt.walker at.mount ∷ []) refl;
  joined = λ k attempt token passed w. arrives k (walks.with_joined attempt token passed k) attempt.walker attempt.moment passed (seen.Waits attempt.walker token ∷ []) refl;
  notified = λ k attempt trigger attach passed w is. notifies k attempt.walker attempt.moment trigger attach passed;
  expiring = λ k walker fs moment immediate trigger attach x g. inl refl;
  made_catatonic = λ k fs g. inl refl;
  collected = λ k kind wait status moment shown made is later. after_freed kind k wait status moment shown made is later;
}

-- ---- events

record Tells (s : State) (shown : List Obs) (t : State) : Type 0 where
  tells : (g : Trigger) → (last_use_in t.kernel.triggers.uses g ≡ last_use_in s.kernel.triggers.uses g) ⊎ IsUseSeen s.kernel shown g

stays : (s t : State) (shown : List Obs) → t.kernel.triggers.uses ≡ s.kernel.triggers.uses → Tells s shown t
stays s t shown uses = record { tells = λ g. inl (ap (λ (u : Uses). last_use_in u g) uses) }

events : tours.Keeps AnyPath AnyJob SeenBy Tells
events = record {
  same = λ s. stays s s _ refl;
  attached = λ s path point at is fresh may. stays s _ _ refl;
  mounted = λ s ns path at is may. stays s _ _ refl;
  bound = λ s source at may. stays s _ _ refl;
  unmounted = λ s at may. stays s _ _ refl;
  changed = λ s change at may. stays s _ _ refl;
  copied = λ s ns form may. stays s _ _ refl;
  dropped = λ s ns may. stays s _ _ refl;
  walks = walkers;
  walked = λ s shown k moment told. record { tells = told };
  left = λ s walker mount is. stays s _ _ refl;
  made_catatonic = λ s fs. stays s _ _ refl;
  timed = λ s fs timeout. stays s _ _ refl;
  died = λ s. stays s _ _ refl;
  reattached = λ s fs row is dead. stays s _ _ refl;
  delivered = λ s token row taken. stays s _ _ refl;
  rested = λ s row a outcome i r. stays s _ _ refl;
  directory_made = λ s row trigger i. stays s _ _ refl;
  directory_gone = λ s row trigger i. stays s _ _ refl;
  mounted_on = λ s row trigger entry i may. stays s _ _ refl;
  unmounted_on = λ s row trigger mount i u. stays s _ _ refl;
  recorded = λ s row trigger entry i held. stays s _ _ refl;
  replied = λ s row status its i is. stays s _ _ refl;
}

outcome_tells : (s : State) (event : Event) (g : Trigger) → (last_use_in (after s (outcome_of s event)).kernel.triggers.uses g ≡ last_use_in s.kernel.triggers.uses g) ⊎ IsUseSeen s.kernel (outcome_of s event).seen g
outcome_tells s event g = (tours.outcome AnyPath AnyJob SeenBy Tells events s event (any_event s event)).well.tells g

pub steps_tell : StepsTellUses
steps_tell old event answer seen new (inl out) g = inl (ap (λ (s : State). last_use_in s.kernel.triggers.uses g) out.same)
steps_tell old event answer seen new (inr comes) g =
    subst (λ (s : State). (last_use_in s.kernel.triggers.uses g ≡ last_use_in old.kernel.triggers.uses g) ⊎ IsUseSeen old.kernel seen g) (sym comes.left)
    (subst (λ (more : List Obs). (last_use_in (after old (outcome_of old event)).kernel.triggers.uses g ≡ last_use_in old.kernel.triggers.uses g) ⊎ IsUseSeen old.kernel more g) (sym comes.shown) (outcome_tells old event g))
