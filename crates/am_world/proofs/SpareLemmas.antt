-- Answers that own memory are known before the event.
use Rattle.std.proofs.Common.{◌≡◌, ℕ, Bool, true, false, List, Option, Some, None, refl, sym, ap, subst, inl, inr}
use Rattle.std.specs.Prelude.{is_some, nat_le, if◌then◌else◌}
use Rattle.am_names.specs.declared.errno.Errno.{Errno}
use Rattle.am_names.specs.{PipeState, Status, Position, WaitRow, TokenKind}
use Rattle.am_names.specs.declared.trigger.PipeState.TheVariants.{Room, Full, Gone}
use Rattle.am_names.specs.declared.trigger.Trigger.{Trigger}
use Rattle.am_names.specs.declared.trigger.Status.TheVariants.{Ready, Fail}
use Rattle.am_names.specs.declared.row.TokenKind.TheVariants.{Missing, Expire}
use Rattle.am_wait.specs.{wait_of, is_exhausted, is_full}
use Rattle.am_kernel.proofs.RetryLemmas.{found_number}
use Rattle.am_expire.specs.{mount_of_walker}
use Rattle.am_walk.specs.{Stop, walk_of}
use Rattle.am_walk.specs.declared.stop.Stop.TheVariants as stops
use Rattle.am_kernel.specs.{WalkRow, Attempt, KernelState, scene_of, attach_of, is_busy, moment_of, arrived_at, arrival_of, arrival_in, arrival_again_of}
use Rattle.am_kernel.specs.CallOutcome as kernel
use Rattle.am_kernel.specs.Walks as walks
use Rattle.am_kernel.specs.Resumes as resumes
use Rattle.am_machine.specs.{Answer, Event, outcome_of, Step, unless, goes}
use Rattle.am_machine.specs.declared.answer.Answer.TheVariants as answers
use Rattle.am_state.specs.{Obs}
use Rattle.am_machine.specs.State.{State}
use Rattle.am_machine.specs.EventOutcome.{EventOutcome}
use Rattle.am_world.specs.{owns, IsMadeAhead, arrival_told}

-- an answer that owns no memory needs nothing
pub spare_free : (made_ahead : Option Answer) (answer : Answer) → owns answer ≡ false → IsMadeAhead made_ahead answer
spare_free None answer free = free
spare_free (Some made_ahead) answer free = λ owns. absurd cc

record Spares (at : Option Position) (s : State) (o : kernel.CallOutcome) : Type 0 where
  spares : IsMadeAhead (arrival_told at) (goes o s).answer

lean_spares : (at : Option Position) (s : State) (o : kernel.CallOutcome) → owns (goes o s).answer ≡ false → Spares at s o
lean_spares at s o h = record { spares = spare_free (arrival_told at) (goes o s).answer h }

either_spares : (at : Option Position) (s : State) (b : Bool) (first second : kernel.CallOutcome) → Spares at s first → Spares at s second → Spares at s (if b then first else second)
either_spares at s true first second h g = h
either_spares at s false first second h g = g

notifies_by : (pipe : PipeState) (at : Option Position) (s : State) (k : KernelState) (attempt : Attempt) (trigger : Trigger) (attach : ℕ) (passed : List Trigger) → Spares at s (walks.notifies_by pipe k attempt trigger attach passed)
notifies_by Room at s k attempt trigger attach passed = lean_spares at s _ refl
notifies_by Full at s k attempt trigger attach passed = lean_spares at s _ refl
notifies_by Gone at s k attempt trigger attach passed = lean_spares at s _ refl

notifies : (attach : Option ℕ) (pipe : PipeState) (at : Option Position) (s : State) (k : KernelState) (attempt : Attempt) (trigger : Trigger) (passed : List Trigger) → Spares at s (walks.notifies attach pipe k attempt trigger passed)
notifies None pipe at s k attempt trigger passed = lean_spares at s _ refl
notifies (Some attach) pipe at s k attempt trigger passed =
    either_spares at s (is_exhausted k.waits) _ _ (lean_spares at s _ refl)
    (either_spares at s (is_full k.waits) _ _ (lean_spares at s _ refl) (notifies_by pipe at s k attempt trigger attach passed))

begun_by : (stop : Stop) (pipe : PipeState) (s : State) (k : KernelState) (attempt : Attempt) (passed : List Trigger) → Spares (arrived_at stop) s (walks.attempted_by stop pipe k attempt passed)
begun_by (stops.Arrive at) pipe s k attempt passed = record { spares = λ owns. refl }
begun_by (stops.Block token) pipe s k attempt passed = either_spares None s (is_full k.waits) _ _ (lean_spares None s _ refl) (lean_spares None s _ refl)
begun_by (stops.Missing trigger) pipe s k attempt passed = notifies (attach_of k trigger.fs) pipe None s k attempt trigger passed
begun_by (stops.Refuse e) pipe s k attempt passed = lean_spares None s _ refl

at_moment_spares : (o : kernel.CallOutcome) (at : Option Position) (s : State) (moment : ℕ) → Spares at s o → Spares at s (kernel.at_moment moment o)
at_moment_spares (kernel.Proceeds answer shown made) at s moment h = record { spares = h.spares }
at_moment_spares (kernel.Fails e) at s moment h = h

-- a walk arrives where it would have
pub walk_spares : (pipe : PipeState) (s : State) (walker ns : ℕ) (path : List (List ℕ)) (now : ℕ) → IsMadeAhead (arrival_told (arrival_of s.kernel ns path now)) (goes (walks.walk_outcome pipe s.kernel walker ns path now) s).answer
walk_spares pipe s walker ns path now =
    let moment = moment_of s.kernel now in
    let attempt = walks.first_attempt walker ns path moment in
    let walked = walk_of (scene_of s.kernel moment) ns path in
    (at_moment_spares (walks.walk_at pipe s.kernel attempt) (arrived_at walked.stop) s moment
    (either_spares (arrived_at walked.stop) s (is_busy s.kernel walker) _ _ (lean_spares (arrived_at walked.stop) s _ refl) (begun_by walked.stop pipe s s.kernel attempt walked.passed))).spares

or_failed : (o : kernel.CallOutcome) (at : Option Position) (s : State) (base : KernelState) → Spares at s o → Spares at s (resumes.or_failed o base)
or_failed (kernel.Proceeds answer shown made) at s base h = h
or_failed (kernel.Fails e) at s base h = lean_spares at s _ refl

-- where a walk would arrive at a moment
abbrev arrival_at : KernelState → ℕ → List (List ℕ) → ℕ → Option Position
arrival_at k ns path moment = arrived_at (walk_of (scene_of k moment) ns path).stop

abbrev arrival_by : KernelState → Option WalkRow → ℕ → Option Position
arrival_by k None moment = None
arrival_by k (Some row) moment = arrival_at k row.ns row.path moment

same_arrival : (k : KernelState) (now : ℕ) (row : Option WalkRow) → arrival_in k row now ≡ arrival_by k row (moment_of k now)
same_arrival k now None = refl
same_arrival k now (Some row) = refl

second_copy : (pipe : PipeState) (s : State) (base : KernelState) (row : WalkRow) (moment : ℕ) → Spares (arrival_at s.kernel row.ns row.path moment) s (resumes.retry pipe s.kernel base row moment)
second_copy pipe s base row moment =
    let walked = walk_of (scene_of s.kernel moment) row.ns row.path in
    either_spares (arrived_at walked.stop) s (nat_le resumes.max_attempts row.attempts) _ _ (lean_spares (arrived_at walked.stop) s _ refl)
    (or_failed (walks.attempted_with walked pipe base (resumes.next_attempt row moment)) (arrived_at walked.stop) s base (begun_by walked.stop pipe s base (resumes.next_attempt row moment) walked.passed))

resumed_as : (kind : TokenKind) (status : Status) (pipe : PipeState) (s : State) (wait : WaitRow) (row : WalkRow) (moment : ℕ) → Spares (arrival_at s.kernel row.ns row.path moment) s (resumes.resumed_as kind status pipe s.kernel wait row moment)
resumed_as Missing (Fail error) pipe s wait row moment = lean_spares (arrival_at s.kernel row.ns row.path moment) s _ refl
resumed_as Missing Ready pipe s wait row moment = second_copy pipe s _ row moment
resumed_as Expire status pipe s wait row moment = second_copy pipe s _ row moment

told_as : (kind : TokenKind) (status : Status) (at : Option Position) (s : State) (wait : WaitRow) (moment : ℕ) → Spares at s (resumes.expiry_finished_as kind status s.kernel wait moment)
told_as Missing status at s wait moment = lean_spares at s _ refl
told_as Expire Ready at s wait moment = lean_spares at s _ refl
told_as Expire (Fail error) at s wait moment = lean_spares at s _ refl

resumed_walk : (row : Option WalkRow) (status : Status) (pipe : PipeState) (s : State) (wait : WaitRow) (moment : ℕ) → Spares (arrival_by s.kernel row moment) s (resumes.resumed_walk row status pipe s.kernel wait moment)
resumed_walk None status pipe s wait moment = told_as wait.kind status None s wait moment
resumed_walk (Some row) status pipe s wait moment = resumed_as wait.kind status pipe s wait row moment

resumed_by : (status : Option Status) (pipe : PipeState) (s : State) (wait : WaitRow) (moment : ℕ) → Spares (arrival_by s.kernel (resumes.walk_in s.kernel.walks wait.walker) moment) s (resumes.resumed_by status pipe s.kernel wait moment)
resumed_by None pipe s wait moment = lean_spares (arrival_by s.kernel (resumes.walk_in s.kernel.walks wait.walker) moment) s _ refl
resumed_by (Some status) pipe s wait moment = resumed_walk (resumes.walk_in s.kernel.walks wait.walker) status pipe s wait moment

resumed_at : (found : Option WaitRow) (pipe : PipeState) (s : State) (walker moment : ℕ) → wait_of s.kernel.waits.waits walker ≡ found → Spares (arrival_by s.kernel (resumes.walk_in s.kernel.walks walker) moment) s (resumes.resumed_at found pipe s.kernel moment)
resumed_at None pipe s walker moment e = lean_spares (arrival_by s.kernel (resumes.walk_in s.kernel.walks walker) moment) s _ refl
resumed_at (Some wait) pipe s walker moment e =
    subst (λ (n : ℕ). Spares (arrival_by s.kernel (resumes.walk_in s.kernel.walks n) moment) s (resumes.resumed_at (Some wait) pipe s.kernel moment)) (found_number (λ (row : WaitRow). row.walker) walker s.kernel.waits.waits wait e) (resumed_by wait.status pipe s wait moment)

-- a walk that begins again arrives where it would have
pub resume_spares : (pipe : PipeState) (s : State) (walker now : ℕ) → IsMadeAhead (arrival_told (arrival_again_of s.kernel walker now)) (goes (resumes.resume_outcome pipe s.kernel walker now) s).answer
resume_spares pipe s walker now =
    let moment = moment_of s.kernel now in
    let row = resumes.walk_in s.kernel.walks walker in
    let at = arrival_by s.kernel row moment in
    subst (λ (o : Option Position). IsMadeAhead (arrival_told o) (goes (resumes.resume_outcome pipe s.kernel walker now) s).answer) (sym (same_arrival s.kernel now row))
    (at_moment_spares (resumes.resume_at pipe s.kernel walker moment) at s moment
    (either_spares at s (is_some (mount_of_walker s.kernel.uses walker)) _ _ (lean_spares at s _ refl) (resumed_at (wait_of s.kernel.waits.waits walker) pipe s walker moment refl))).spares

-- an unmount and a drop tell what goes
pub gone_spares : (first : Option Errno) (s : State) (done : EventOutcome) (gone : List ℕ) → done.answer ≡ answers.Gone gone → IsMadeAhead (Some (answers.Gone gone)) (unless first s done).answer
gone_spares (Some e) s done gone h = λ owns. absurd cc
gone_spares None s done gone h = λ owns. sym h

-- of a refusal nothing is needed
pub refused_spares : (first : Option Errno) (e : Errno) (s : State) (done : EventOutcome) → first ≡ Some e → IsMadeAhead None (unless first s done).answer
refused_spares None e s done h = absurd cc
refused_spares (Some f) e s done h = refl

-- the answer to a step is the outcome's, or memory ran out
pub step_spares : (s : State) (event : Event) (answer : Answer) (shown : List Obs) (new : State) (made_ahead : Option Answer) → IsMadeAhead made_ahead (outcome_of s event).answer → Step s event answer shown new → IsMadeAhead made_ahead answer
step_spares s event answer shown new made_ahead h (inl out) = spare_free made_ahead answer (ap owns out.told)
step_spares s event answer shown new made_ahead h (inr comes) = subst (IsMadeAhead made_ahead) (sym comes.told) h
