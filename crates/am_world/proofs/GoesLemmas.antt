-- What becomes of an event, by what its calls came to.
use Rattle.std.proofs.Common.{◌≡◌, List, [], Option, None, refl, sym, ap, ◌∙◌, subst, inl, inr}
use Rattle.std.specs.Prelude.{Result, Ok, Err}
use Rattle.std.proofs.lemmas.List.{append-nil}
use Rattle.am_names.specs.declared.errno.Errno.{Errno}
use Rattle.am_names.specs.declared.errno.Errno.TheVariants.{NoMemory}
use Rattle.am_names.specs.{RefusedAs, RefusedOnlyAs}
use Rattle.am_state.specs.{Obs}
use Rattle.am_kernel.specs.{KernelState, Progress}
use Rattle.am_kernel.specs.CallOutcome as kernel
use Rattle.am_machine.specs.{Answer, refused, unless, Event, after, outcome_of, Step, IsReached, HasPaths, answer_of, goes}
use Rattle.am_machine.specs.State.{State}
use Rattle.am_machine.specs.EventOutcome.{EventOutcome}
use Rattle.am_machine.specs.declared.answer.Answer.TheVariants as answers
use Rattle.am_machine.proofs.Reached.{reached_more}
use Rattle.am_world.specs.{Yields, told}

-- a refusal leaves the world as it was
pub refused_same : (s : State) (e : Errno) → after s (refused s e) ≡ s
refused_same s e = ap (λ (t : List Obs). record s { trace = t }) (append-nil s.trace)

pub refused_goes : (T : Type 0) (first : Option Errno) (s new : State) (done : EventOutcome) (e : Errno) → RefusedAs {T = T} first (Err e) → new ≡ s → Yields (unless first s done) s (Err e) new
refused_goes T first s new done NoMemory h same = (same, inl refl)
refused_goes T first s new done _ h same = (same, inr (ap (λ (f : Option Errno). unless f s done) h))

pub only_refused_goes : (T : Type 0) (first : Option Errno) (s new : State) (done : EventOutcome) (e : Errno) → RefusedOnlyAs {T = T} first (Err e) → new ≡ s → Yields (unless first s done) s (Err e) new
only_refused_goes T first s new done e h same = (same, inr (ap (λ (f : Option Errno). unless f s done) h))

pub done_goes : (first : Option Errno) (s new : State) (done : EventOutcome) (answer : Answer) → first ≡ None → answer ≡ done.answer → new ≡ after s done → Yields (unless first s done) s (Ok answer) new
done_goes first s new done answer h told left = subst (λ (f : Option Errno). Yields (unless f s done) s (Ok answer) new) (sym h) (told, left)

-- memory ran out
pub goes_without_memory : (o : EventOutcome) (s new : State) → new ≡ s → Yields o s (Err NoMemory) new
goes_without_memory o s new same = (same, inl refl)

abbrev pub with_both : KernelState → List Obs → State → State
with_both k trace s = record s { kernel = k; trace = trace }

halves_unchanged : (k : KernelState) (trace : List Obs) (s : State) → k ≡ s.kernel → trace ≡ s.trace → with_both k trace s ≡ s
halves_unchanged k trace s e t = ap (λ (x : KernelState). with_both x trace s) e ∙ ap (λ (x : List Obs). record s { trace = x }) t

-- a walk that goes on
pub walk_goes : (o : kernel.CallOutcome) (s : State) (progress : Progress) (k : KernelState) (trace : List Obs) → kernel.Yields o (Ok progress) s.kernel k s.trace trace →
    Yields (goes o s) s (Ok (answer_of progress)) (with_both k trace s)
walk_goes (kernel.Proceeds answer shown made) s progress k trace h =
    (ap answer_of h.0, ap (λ (x : KernelState). with_both x trace s) h.1.state ∙ ap (λ (x : List Obs). with_both made x s) h.1.seen)
walk_goes (kernel.Fails e) s progress k trace h = absurd h

-- one that doesn't
pub walk_fails : (o : kernel.CallOutcome) (s : State) (e : Errno) (k : KernelState) (trace : List Obs) → kernel.Yields o (Err e) s.kernel k s.trace trace →
    Yields (goes o s) s (Err e) (with_both k trace s)
walk_fails (kernel.Proceeds answer shown made) s e k trace h = (halves_unchanged k trace s h.1.state h.1.seen, inl h.0)
walk_fails (kernel.Fails f) s NoMemory k trace h = (halves_unchanged k trace s h.state h.seen, inl refl)
walk_fails (kernel.Fails f) s _ k trace h = (halves_unchanged k trace s h.1.state h.1.seen, inr (ap (refused s) (sym h.0)))

-- ---- steps

pub goes_step : (s : State) (event : Event) (came : Result Answer Errno) (new : State) → Yields (outcome_of s event) s came new → (seen : List Obs) × Step s event (told came) seen new
goes_step s event (Ok answer) new h = ((outcome_of s event).seen, inr (record { told = h.0; shown = refl; left = h.1 }))
goes_step s event (Err e) new h =
    elim h.1 [
      | inl none ↦ ([], inl (record { told = ap (λ (x : Errno). answers.Refused x) none; nothing = refl; same = h.0 }))
      | inr is ↦ ([], inr (record { told = sym (ap (λ (o : EventOutcome). o.answer) is); shown = sym (ap (λ (o : EventOutcome). o.seen) is); left = h.0 ∙ sym (ap (after s) is ∙ refused_same s e) }))
    ]

pub goes_reached : (s : State) (event : Event) (came : Result Answer Errno) (new : State) → HasPaths event → IsReached s → Yields (outcome_of s event) s came new → IsReached new
goes_reached s event came new along h y = reached_more s event (told came) new h along (goes_step s event came new y)
