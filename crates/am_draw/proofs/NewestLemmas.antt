-- What failed at a trigger behind an event did so before it, or it failed last of all.
use Rattle.std.proofs.Common.{◌≡◌, ◌⊎◌, ℕ, ◌-◌, ◌==◌, Bool, true, false, cond, not, List, [], ◌∷◌, ◌++◌, length, slice_get, Option, Some, None, refl, sym, ap, subst, ◌∙◌, inl, inr, arith}
use Rattle.std.specs.Prelude.{filter}
use Rattle.std.proofs.lemmas.List.{length-append}
use Rattle.am_names.specs.{same_trigger, OpenToken, Status}
use Rattle.am_names.specs.declared.trigger.Trigger.{Trigger}
use Rattle.am_names.specs.declared.trigger.Status.TheVariants.{Ready, Fail}
use Rattle.am_names.specs.declared.row.TokenKind.TheVariants.{Missing, Expire}
use Rattle.am_names.specs.{TokenKind, WaitRow}
use Rattle.am_names.proofs.SameTriggers.{equal_by_same_trigger}
use Rattle.am_trigger.specs.{Failure, FailureRows, failure_of, with_failure, without_failure, without_failures}
use Rattle.am_wait.specs.{token_of}
use Rattle.am_state.specs.{Obs}
use Rattle.am_kernel.specs.{KernelState}
use Rattle.am_kernel.specs.Requests.{settled, settled_by}
use Rattle.am_kernel.specs.Resumes as resumes
use Rattle.am_machine.specs.{Answer, Event, Setup, Step, outcome_of}
use Rattle.am_machine.specs.State.{State}
use Rattle.am_machine.proofs.Consistent.{step_lawful}
use Rattle.am_machine.proofs.Refusals.{moments}
use Rattle.am_machine.proofs.Tour.Walks as tour
use Rattle.am_machine.proofs.Tour.Walks.{AnyPath}
use Rattle.am_machine.proofs.Tour.Events as tours
use Rattle.am_machine.proofs.Tour.Events.{AnyJob, any_event}
use Rattle.am_draw.specs.Failures.{newest}
use Rattle.am_draw.proofs.FailingLemmas.{Goes}

-- what failed at a trigger did so in the rows before, or it failed last of all
abbrev pub IsOlder : FailureRows → FailureRows → Type 0
IsOlder rows made = (g : Trigger) (f : Failure) → failure_of made g ≡ Some f → (failure_of rows g ≡ Some f) ⊎ (newest made ≡ Some (g, f))

-- ---- rows that stay, go and come

stays : (rows : FailureRows) → IsOlder rows rows
stays rows = λ g f e. inl e

-- where rows go by their triggers, what is left of a trigger was there
module _ (keep : (Trigger × Failure) → Bool) (g : Trigger) (alike : (row : Trigger × Failure) → same_trigger row.0 g ≡ true → (b : Bool) × ((other : Trigger × Failure) → same_trigger other.0 g ≡ true → keep other ≡ b)) where
  left_out : (rows : FailureRows) → ((other : Trigger × Failure) → same_trigger other.0 g ≡ true → keep other ≡ false) → failure_of (filter keep rows) g ≡ None
  left_out [] gone = refl
  left_out (row ∷ rows) gone = by (left_out rows gone) (same_trigger row.0 g) refl
    where
      other : failure_of (filter keep rows) g ≡ None → (c : Bool) → same_trigger row.0 g ≡ false → failure_of (cond c (row ∷ filter keep rows) (filter keep rows)) g ≡ None
      other later true e = rw e later
      other later false e = later

      by : failure_of (filter keep rows) g ≡ None → (b : Bool) → same_trigger row.0 g ≡ b → failure_of (filter keep (row ∷ rows)) g ≡ None
      by later true e = rw (gone row e) later
      by later false e = other later (keep row) e

  was_there : (rows : FailureRows) (f : Failure) → failure_of (filter keep rows) g ≡ Some f → failure_of rows g ≡ Some f
  was_there [] f e = absurd cc
  was_there (row ∷ rows) f e = by (was_there rows f) (same_trigger row.0 g) refl
    where
      this : same_trigger row.0 g ≡ true → (c : Bool) → keep row ≡ c → failure_of (cond c (row ∷ filter keep rows) (filter keep rows)) g ≡ Some f → failure_of (row ∷ rows) g ≡ Some f
      this t true k h =
          let here : Some row.1 ≡ Some f = rw t at h in
          rw t here
      this t false k h =
          let its = alike row t in
          let gone : (other : Trigger × Failure) → same_trigger other.0 g ≡ true → keep other ≡ false = λ other o. its.1 other o ∙ sym (its.1 row t) ∙ k in
          let none : None ≡ Some f = sym (left_out rows gone) ∙ h in
          absurd cc

      other : (failure_of (filter keep rows) g ≡ Some f → failure_of rows g ≡ Some f) → same_trigger row.0 g ≡ false → (c : Bool) → failure_of (cond c (row ∷ filter keep rows) (filter keep rows)) g ≡ Some f → failure_of (row ∷ rows) g ≡ Some f
      other later t true h =
          let here : failure_of (filter keep rows) g ≡ Some f = rw t at h in
          rw t (later here)
      other later t false h = rw t (later h)

      by : (failure_of (filter keep rows) g ≡ Some f → failure_of rows g ≡ Some f) → (b : Bool) → same_trigger row.0 g ≡ b → failure_of (row ∷ rows) g ≡ Some f
      by later true t = this t (keep row) refl e
      by later false t = other later t (keep row) e

mended : (fs : ℕ) (rows : FailureRows) → IsOlder rows (without_failures fs rows)
mended fs rows = λ g f e. inl (was_there (λ row. not (row.0.fs == fs)) g (λ row t. (not (g.fs == fs), λ other o. ap (λ (x : Trigger). not (x.fs == fs)) (equal_by_same_trigger other.0 g o))) rows f e)

removed_was : (trigger g : Trigger) (rows : FailureRows) (f : Failure) → failure_of (without_failure trigger rows) g ≡ Some f → failure_of rows g ≡ Some f
removed_was trigger g rows f e = was_there (λ row. not (same_trigger row.0 trigger)) g (λ row t. (not (same_trigger g trigger), λ other o. ap (λ (x : Trigger). not (same_trigger x trigger)) (equal_by_same_trigger other.0 g o))) rows f e

last_is : {X : Type 0} (xs : List X) (x : X) → slice_get (xs ++ x ∷ []) (length xs) ≡ Some x
last_is [] x = refl
last_is (y ∷ xs) x = last_is xs x

newest_is : (rows : FailureRows) (row : Trigger × Failure) → newest (rows ++ row ∷ []) ≡ Some row
newest_is rows row =
    let last : length (rows ++ row ∷ []) - 1 ≡ length rows = omega (arith, length-append rows (row ∷ [])) in
    ap (slice_get (rows ++ row ∷ [])) last ∙ last_is rows row

pushed : (rows : FailureRows) (trigger : Trigger) (failure : Failure) (g : Trigger) (f : Failure) → failure_of (rows ++ (trigger, failure) ∷ []) g ≡ Some f → (failure_of rows g ≡ Some f) ⊎ ((trigger ≡ g) × (failure ≡ f))
pushed [] trigger failure g f e = by (same_trigger trigger g) refl
  where
    by : (b : Bool) → same_trigger trigger g ≡ b → (failure_of [] g ≡ Some f) ⊎ ((trigger ≡ g) × (failure ≡ f))
    by true t =
        let here : Some failure ≡ Some f = rw t at e in
        inr (equal_by_same_trigger trigger g t, cc here)
    by false t =
        let none : None ≡ Some f = rw t at e in
        absurd cc
pushed (row ∷ rows) trigger failure g f e = by (pushed rows trigger failure g f) (same_trigger row.0 g) refl
  where
    further : same_trigger row.0 g ≡ false → (failure_of rows g ≡ Some f) ⊎ ((trigger ≡ g) × (failure ≡ f)) → (failure_of (row ∷ rows) g ≡ Some f) ⊎ ((trigger ≡ g) × (failure ≡ f))
    further t (inl old) = inl (rw t old)
    further t (inr new) = inr new

    by : (failure_of (rows ++ (trigger, failure) ∷ []) g ≡ Some f → (failure_of rows g ≡ Some f) ⊎ ((trigger ≡ g) × (failure ≡ f))) → (b : Bool) → same_trigger row.0 g ≡ b →
        (failure_of (row ∷ rows) g ≡ Some f) ⊎ ((trigger ≡ g) × (failure ≡ f))
    by later true t =
        let here : Some row.1 ≡ Some f = rw t at e in
        inl (rw t here)
    by later false t =
        let rest : failure_of (rows ++ (trigger, failure) ∷ []) g ≡ Some f = rw t at e in
        further t (later rest)

failed : (trigger : Trigger) (failure : Failure) (rows : FailureRows) → IsOlder rows (with_failure trigger failure rows)
failed trigger failure rows = λ g f e. by g f (pushed (without_failure trigger rows) trigger failure g f e)
  where
    by : (g : Trigger) (f : Failure) → (failure_of (without_failure trigger rows) g ≡ Some f) ⊎ ((trigger ≡ g) × (failure ≡ f)) → (failure_of rows g ≡ Some f) ⊎ (newest (with_failure trigger failure rows) ≡ Some (g, f))
    by g f (inl old) = inl (removed_was trigger g rows f old)
    by g f (inr new) = inr (newest_is (without_failure trigger rows) (trigger, failure) ∙ ap (λ (x : Trigger). Some (x, failure)) new.0 ∙ ap (λ (x : Failure). Some (g, x)) new.1)

settles : (kind : TokenKind) (trigger : Trigger) (status : Status) (moment : ℕ) (rows : FailureRows) → IsOlder rows (settled kind trigger status moment rows)
settles Missing trigger Ready moment rows = λ g f e. inl (removed_was trigger g rows f e)
settles Missing trigger (Fail error) moment rows = failed trigger (record { no = error; at = moment }) rows
settles Expire trigger status moment rows = stays rows

settles_by : (its : Option OpenToken) (status : Status) (moment : ℕ) (rows : FailureRows) → IsOlder rows (settled_by its status moment rows)
settles_by None status moment rows = stays rows
settles_by (Some its) status moment rows = settles its.kind its.trigger status moment rows

-- ---- every event

abbrev Older : KernelState → List Obs → KernelState → Type 0
Older k shown made = IsOlder k.failures made.failures

-- a wait that is collected leaves failures as they were
collected_older : (kind : TokenKind) (wait : WaitRow) (moment : ℕ) (k : KernelState) (rows : FailureRows) → IsOlder (resumes.wait_collected_from kind wait moment k).failures rows → IsOlder k.failures rows
collected_older Missing wait moment k rows h = h
collected_older Expire wait moment k rows h = h

walks : tour.Keeps AnyPath Older
walks = record {
  nothing = λ k. stays k.failures;
  arrived = λ k attempt at passed w. stays k.failures;
  joined = λ k attempt token passed w. stays k.failures;
  notified = λ k attempt trigger attach passed w is. stays k.failures;
  expiring = λ k walker fs moment immediate trigger attach x. stays k.failures;
  made_catatonic = λ k fs. mended fs k.failures;
  collected = λ k kind wait status moment shown made g later. collected_older kind wait moment k made.failures later;
}

record StaysOlder (s : State) (shown : List Obs) (t : State) : Type 0 where
  older : IsOlder s.kernel.failures t.kernel.failures

same : (s t : State) (shown : List Obs) → t.kernel.failures ≡ s.kernel.failures → StaysOlder s shown t
same s t shown e = record { older = subst (λ (rows : FailureRows). IsOlder s.kernel.failures rows) (sym e) (stays s.kernel.failures) }

older : tours.Keeps AnyPath AnyJob Older StaysOlder
older = record {
  same = λ s. same s s _ refl;
  attached = λ s path point at is fresh may. same s _ _ refl;
  mounted = λ s ns path at is may. same s _ _ refl;
  bound = λ s source at may. same s _ _ refl;
  unmounted = λ s at may. same s _ _ refl;
  changed = λ s change at may. same s _ _ refl;
  copied = λ s ns form may. same s _ _ refl;
  dropped = λ s ns may. same s _ _ refl;
  walks = walks;
  walked = λ s shown k moment is. record { older = is };
  left = λ s walker mount is. same s _ _ refl;
  made_catatonic = λ s fs. record { older = mended fs s.kernel.failures };
  timed = λ s fs timeout. same s _ _ refl;
  died = λ s. same s _ _ refl;
  reattached = λ s fs row is dead. record { older = mended fs s.kernel.failures };
  delivered = λ s token row taken. same s _ _ refl;
  rested = λ s row a outcome i r. same s _ _ refl;
  directory_made = λ s row trigger i. same s _ _ refl;
  directory_gone = λ s row trigger i. same s _ _ refl;
  mounted_on = λ s row trigger entry i may. same s _ _ refl;
  unmounted_on = λ s row trigger mount i u. same s _ _ refl;
  recorded = λ s row trigger entry i held. same s _ _ refl;
  replied = λ s row status its i is. record { older = settles_by (token_of s.kernel.waits.tokens row.token) status s.kernel.latest s.kernel.failures };
}

outcome_older : (s : State) (event : Event) → IsOlder s.kernel.failures (outcome_of s event).state.kernel.failures
outcome_older s event = (tours.outcome AnyPath AnyJob Older StaysOlder older s event (any_event s event)).well.older

step_older : (old : State) (event : Event) (answer : Answer) (seen : List Obs) (new : State) → Step old event answer seen new → IsOlder old.kernel.failures new.kernel.failures
step_older old event answer seen new (inl out) = subst (λ (s : State). IsOlder old.kernel.failures s.kernel.failures) (sym out.same) (stays old.kernel.failures)
step_older old event answer seen new (inr comes) = subst (λ (s : State). IsOlder old.kernel.failures s.kernel.failures) (sym comes.left) (outcome_older old event)

pub step_goes : (old : State) (event : Event) (answer : Answer) (seen : List Obs) (new : State) → Step old event answer seen new → Goes old.kernel new.kernel
step_goes old event answer seen new step = record {
  newest = step_older old event answer seen new step;
  rises = moments old event answer seen new step;
  negative = ap (λ (opening : Setup). opening.limits.negative) (step_lawful old event answer seen new step).opening;
}
