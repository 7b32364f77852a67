-- A walk begins again.
use Rattle.std.proofs.Common.{◌≡◌, ℕ, Bool, true, false, cond, ◌==◌, List, [], ◌∷◌, Option, Some, None, Result, Ok, Err, refl, sym, ap, subst, ◌∙◌, ◌⊎◌, inl, inr, Bor}
use Rattle.std.specs.Prelude.{find, is_some, nat_le}
use Rattle.std.specs.Option.{option_copied}
use Rattle.std.proofs.lemmas.Bool.Decides.{Decides-eqb}
use Rattle.am_names.proofs.Basics.{none_where_not_some}
use Rattle.am_names.specs.{errno_of, PipeState, Status, TokenKind, WaitRow}
use Rattle.am_names.specs.declared.fail_no.FailNo.{FailNo}
use Rattle.am_names.specs.declared.errno.Errno.{Errno}
use Rattle.am_names.specs.declared.errno.Errno.TheVariants.{ENOENT, EPERM, EBUSY, EEXIST, EINVAL, EAGAIN, ELOOP, ENAMETOOLONG, ENOSPC, NoMemory, NotReleased, Stranger}
use Rattle.am_names.specs.declared.trigger.Status.TheVariants.{Ready, Fail}
use Rattle.am_names.specs.declared.row.TokenKind.TheVariants.{Missing, Expire}
use Rattle.am_state.specs.{Obs}
use Rattle.am_wait.specs.{wait_of, status_refusal, wait_refusal}
use Rattle.am_expire.specs.{mount_of_walker}
use Rattle.am_walk.specs.{walk_of}
use Rattle.am_kernel.specs.{WalkRow, Attempt, Progress, KernelState, scene_of, Proceeds, Fails, Yields, IsAsBefore, attempted_with, wait_collected_from, failed, or_failed, max_attempts, next_attempt, retry, expired_as, expiry_finished_as, walk_in, resumed_as, resumed_walk, resumed_by, resumed_at, resume_at, retry_for, retry_failed, wait_collected_as, waited_for, waited_on, HasNoOpenWait}
use Rattle.am_kernel.specs.declared.waited.Waited.{Waited}
use Rattle.am_kernel.specs.declared.waited.Waited.TheVariants.{OnMount}
use Rattle.am_kernel.specs.declared.progress.Progress.TheVariants.{Failed, Expired}
use Rattle.am_kernel.specs.CallOutcome.{CallOutcome}

abbrev or_first : {X : Type 0} → X → Option X → X
or_first x (Some y) = y
or_first x None = x

-- a row that was found is of the number that was looked for
pub found_number : {X : Type 0} (key : X → ℕ) (n : ℕ) (rows : List X) (row : X) → find (λ r. key r == n) rows ≡ Some row → key row ≡ n
found_number key n [] row h = absurd cc
found_number key n (r ∷ rows) row h = by_test (key r == n) refl h (found_number key n rows row)
  where
    by_test : (b : Bool) → (key r == n) ≡ b → cond b (Some r) (find (λ x. key x == n) rows) ≡ Some row → (find (λ x. key x == n) rows ≡ Some row → key row ≡ n) → key row ≡ n
    by_test true e h later = ap key (sym (ap (or_first r) h)) ∙ (Decides-eqb (key r) n).0 e
    by_test false e h later = later h

-- ---- errors

-- an error leaves all as before, and is that of memory or of the outcome
pub error_of_outcome : (o : CallOutcome) (e : Errno) (k new : KernelState) (before after : List Obs) → Yields o (Err e) k new before after → IsAsBefore k new before after × ((e ≡ NoMemory) ⊎ (o ≡ Fails e))
error_of_outcome (Proceeds answer shown made) e k new before after h = (h.1, inl h.0)
error_of_outcome (Fails f) NoMemory k new before after h = (h, inl refl)
error_of_outcome (Fails f) ENOENT k new before after h = (h.1, inr (ap Fails (sym h.0)))
error_of_outcome (Fails f) EPERM k new before after h = (h.1, inr (ap Fails (sym h.0)))
error_of_outcome (Fails f) EBUSY k new before after h = (h.1, inr (ap Fails (sym h.0)))
error_of_outcome (Fails f) EEXIST k new before after h = (h.1, inr (ap Fails (sym h.0)))
error_of_outcome (Fails f) EINVAL k new before after h = (h.1, inr (ap Fails (sym h.0)))
error_of_outcome (Fails f) EAGAIN k new before after h = (h.1, inr (ap Fails (sym h.0)))
error_of_outcome (Fails f) ELOOP k new before after h = (h.1, inr (ap Fails (sym h.0)))
error_of_outcome (Fails f) ENAMETOOLONG k new before after h = (h.1, inr (ap Fails (sym h.0)))
error_of_outcome (Fails f) ENOSPC k new before after h = (h.1, inr (ap Fails (sym h.0)))
error_of_outcome (Fails f) NotReleased k new before after h = (h.1, inr (ap Fails (sym h.0)))
error_of_outcome (Fails f) Stranger k new before after h = (h.1, inr (ap Fails (sym h.0)))

-- where memory runs out, any outcome that goes on is met
memory_met : (answer : Progress) (shown : List Obs) (made : KernelState) (r : Result Progress Errno) (k new : KernelState) (before after : List Obs) → Yields (Fails NoMemory) r k new before after → Yields (Proceeds answer shown made) r k new before after
memory_met answer shown made (Ok progress) k new before after h = absurd h
memory_met answer shown made (Err NoMemory) k new before after h = (refl, h)
memory_met answer shown made (Err ENOENT) k new before after h = h
memory_met answer shown made (Err EPERM) k new before after h = h
memory_met answer shown made (Err EBUSY) k new before after h = h
memory_met answer shown made (Err EEXIST) k new before after h = h
memory_met answer shown made (Err EINVAL) k new before after h = h
memory_met answer shown made (Err EAGAIN) k new before after h = h
memory_met answer shown made (Err ELOOP) k new before after h = h
memory_met answer shown made (Err ENAMETOOLONG) k new before after h = h
memory_met answer shown made (Err ENOSPC) k new before after h = h
memory_met answer shown made (Err NotReleased) k new before after h = h
memory_met answer shown made (Err Stranger) k new before after h = h

memory_fails : (o : CallOutcome) (base : KernelState) (r : Result Progress Errno) (k new : KernelState) (before after : List Obs) → Yields (Fails NoMemory) r k new before after → Yields (or_failed o base) r k new before after
memory_fails (Proceeds answer shown made) base r k new before after h = memory_met answer shown made r k new before after h
memory_fails (Fails e) base r k new before after h = memory_met (Failed e) [] base r k new before after h

fallen_fails : (e : Errno) (base : KernelState) (r : Result Progress Errno) (k new : KernelState) (before after : List Obs) → Yields (retry_failed e base) r k new before after → Yields (failed e base) r k new before after
fallen_fails NoMemory base r k new before after h = memory_met (Failed NoMemory) [] base r k new before after h
fallen_fails ENOENT base r k new before after h = h
fallen_fails EPERM base r k new before after h = h
fallen_fails EBUSY base r k new before after h = h
fallen_fails EEXIST base r k new before after h = h
fallen_fails EINVAL base r k new before after h = h
fallen_fails EAGAIN base r k new before after h = h
fallen_fails ELOOP base r k new before after h = h
fallen_fails ENAMETOOLONG base r k new before after h = h
fallen_fails ENOSPC base r k new before after h = h
fallen_fails NotReleased base r k new before after h = h
fallen_fails Stranger base r k new before after h = h

falls_by : (o : CallOutcome) (e : Errno) (base : KernelState) (r : Result Progress Errno) (k new : KernelState) (before after : List Obs) → (e ≡ NoMemory) ⊎ (o ≡ Fails e) → Yields (retry_failed e base) r k new before after → Yields (or_failed o base) r k new before after
falls_by o e base r k new before after (inl m) h =
    memory_fails o base r k new before after (subst (λ (f : Errno). Yields (retry_failed f base) r k new before after) m h)
falls_by o e base r k new before after (inr f) h =
    subst (λ (p : CallOutcome). Yields (or_failed p base) r k new before after) (sym f) (fallen_fails e base r k new before after h)

-- a walk that doesn't begin again fails
fails_unless_gone : (o : CallOutcome) (e : Errno) (base : KernelState → KernelState) (r : Result Progress Errno) (k between new : KernelState) (before met after : List Obs) → Yields o (Err e) k between before met → Yields (retry_failed e (base between)) r between new met after → Yields (or_failed o (base k)) r k new before after
fails_unless_gone o e base r k between new before met after h g =
    let two = error_of_outcome o e k between before met h in
    falls_by o e (base k) r k new before after two.1
    (subst (λ (s : KernelState). Yields (retry_failed e (base s)) r s new before after) two.0.state
    (subst (λ (xs : List Obs). Yields (retry_failed e (base between)) r between new xs after) two.0.seen g))

-- one that does goes on
goes_unless_failed : (o : CallOutcome) (base : KernelState) (progress : Progress) (k new : KernelState) (before after : List Obs) → Yields o (Ok progress) k new before after → Yields (or_failed o base) (Ok progress) k new before after
goes_unless_failed (Proceeds answer shown made) base progress k new before after h = h
goes_unless_failed (Fails e) base progress k new before after h = absurd h

-- ---- again

freed_same : (kind : TokenKind) (wait : WaitRow) (moment : ℕ) (k : KernelState) → wait_collected_from kind wait moment k ≡ wait_collected_as (waited_for kind wait.trigger) wait.walker moment k
freed_same Missing wait moment k = refl
freed_same Expire wait moment k = refl

-- what a walk that begins again comes to
again_is : (row : WalkRow) (wait : WaitRow) (pipe : PipeState) (k : KernelState) (moment : ℕ) → walk_in k.walks wait.walker ≡ Some row → nat_le max_attempts row.attempts ≡ false →
    retry_for (walk_in k.walks wait.walker) pipe k wait moment ≡ or_failed (attempted_with (walk_of (scene_of k moment) row.ns row.path) pipe (wait_collected_as (waited_on wait) wait.walker moment k) (next_attempt row moment)) (wait_collected_as (waited_on wait) wait.walker moment k)
again_is row wait pipe k moment found few =
    ap (λ (o : Option WalkRow). retry_for o pipe k wait moment) found ∙
    ap (λ (b : Bool). cond b (failed ELOOP (wait_collected_from wait.kind wait moment k)) (or_failed (attempted_with (walk_of (scene_of k moment) row.ns row.path) pipe (wait_collected_from wait.kind wait moment k) (next_attempt row moment)) (wait_collected_from wait.kind wait moment k))) few ∙
    ap (λ (base : KernelState). or_failed (attempted_with (walk_of (scene_of k moment) row.ns row.path) pipe base (next_attempt row moment)) base) (freed_same wait.kind wait moment k)

abbrev begun_as : Attempt → ℕ → Waited → PipeState → KernelState → CallOutcome
begun_as attempt walker waited pipe k = attempted_with (walk_of (scene_of k attempt.moment) attempt.ns attempt.path) pipe (wait_collected_as waited walker attempt.moment k) attempt

same_outcome : (row : WalkRow) (wait : WaitRow) (attempt : Attempt) (waited : Waited) (pipe : PipeState) (k : KernelState) (moment : ℕ) → attempt ≡ next_attempt row moment → waited ≡ waited_on wait → walk_in k.walks wait.walker ≡ Some row →
    begun_as attempt attempt.walker waited pipe k ≡ begun_as (next_attempt row moment) wait.walker (waited_on wait) pipe k
same_outcome row wait attempt waited pipe k moment e w found =
    ap (λ (b : Attempt). begun_as b b.walker waited pipe k) e ∙
    ap (λ (x : Waited). begun_as (next_attempt row moment) row.walker x pipe k) w ∙
    ap (λ (n : ℕ). begun_as (next_attempt row moment) n (waited_on wait) pipe k) (found_number (λ (r : WalkRow). r.walker) wait.walker k.walks row found)

pub again_goes : (row : WalkRow) (wait : WaitRow) (attempt : Attempt) (waited : Waited) (pipe : PipeState) (k new : KernelState) (moment : ℕ) (progress : Progress) (before after : List Obs) → attempt ≡ next_attempt row moment → waited ≡ waited_on wait → walk_in k.walks wait.walker ≡ Some row → nat_le max_attempts row.attempts ≡ false →
    Yields (attempted_with (walk_of (scene_of k attempt.moment) attempt.ns attempt.path) pipe (wait_collected_as waited attempt.walker attempt.moment k) attempt) (Ok progress) k new before after →
    Yields (retry_for (walk_in k.walks wait.walker) pipe k wait moment) (Ok progress) k new before after
again_goes row wait attempt waited pipe k new moment progress before after e w found few h =
    subst (λ (o : CallOutcome). Yields o (Ok progress) k new before after) (sym (again_is row wait pipe k moment found few))
    (goes_unless_failed (begun_as (next_attempt row moment) wait.walker (waited_on wait) pipe k) (wait_collected_as (waited_on wait) wait.walker moment k) progress k new before after
    (subst (λ (o : CallOutcome). Yields o (Ok progress) k new before after) (same_outcome row wait attempt waited pipe k moment e w found) h))

pub again_falls : (row : WalkRow) (wait : WaitRow) (attempt : Attempt) (waited : Waited) (pipe : PipeState) (k between new : KernelState) (moment : ℕ) (errno : Errno) (r : Result Progress Errno) (before met after : List Obs) → attempt ≡ next_attempt row moment → waited ≡ waited_on wait → walk_in k.walks wait.walker ≡ Some row → nat_le max_attempts row.attempts ≡ false →
    Yields (attempted_with (walk_of (scene_of k attempt.moment) attempt.ns attempt.path) pipe (wait_collected_as waited attempt.walker attempt.moment k) attempt) (Err errno) k between before met →
    Yields (retry_failed errno (wait_collected_as waited wait.walker moment between)) r between new met after →
    Yields (retry_for (walk_in k.walks wait.walker) pipe k wait moment) r k new before after
again_falls row wait attempt waited pipe k between new moment errno r before met after e w found few h g =
    subst (λ (o : CallOutcome). Yields o r k new before after) (sym (again_is row wait pipe k moment found few))
    (fails_unless_gone (begun_as (next_attempt row moment) wait.walker (waited_on wait) pipe k) errno (λ s. wait_collected_as (waited_on wait) wait.walker moment s) r k between new before met after
    (subst (λ (o : CallOutcome). Yields o (Err errno) k between before met) (same_outcome row wait attempt waited pipe k moment e w found) h)
    (subst (λ (x : Waited). Yields (retry_failed errno (wait_collected_as x wait.walker moment between)) r between new met after) w g))

-- ---- resuming

pub resume_is : (pipe : PipeState) (k : KernelState) (walker moment : ℕ) (wait : WaitRow) (status : Status) → is_some (mount_of_walker k.uses walker) ≡ false → wait_of k.waits.waits walker ≡ Some wait → wait.status ≡ Some status →
    resume_at pipe k walker moment ≡ resumed_walk (walk_in k.walks walker) status pipe k wait moment
resume_is pipe k walker moment wait status outside waits answered =
    ap (λ (b : Bool). cond b (Fails EINVAL) (resumed_at (wait_of k.waits.waits walker) pipe k moment)) outside ∙
    ap (λ (o : Option WaitRow). resumed_at o pipe k moment) waits ∙
    ap (λ (o : Option Status). resumed_by o pipe k wait moment) answered ∙
    ap (λ (n : ℕ). resumed_walk (walk_in k.walks n) status pipe k wait moment) (found_number (λ (row : WaitRow). row.walker) walker k.waits.waits wait waits)

again_by : (o : Option WalkRow) (kind : TokenKind) (status : Status) (pipe : PipeState) (k : KernelState) (wait : WaitRow) (moment : ℕ) → is_some o ≡ true → ((kind ≡ Missing) × (status ≡ Ready)) ⊎ (kind ≡ Expire) → wait.kind ≡ kind → resumed_walk o status pipe k wait moment ≡ retry_for o pipe k wait moment
again_by None kind status pipe k wait moment there which is = absurd cc
again_by (Some row) kind status pipe k wait moment there (inl both) is =
    let e : wait.kind ≡ Missing = is ∙ both.0 in
    ap (λ (s : Status). resumed_as wait.kind s pipe k wait row moment) both.1 ∙ ap (λ (t : TokenKind). resumed_as t Ready pipe k wait row moment) e ∙ ap (λ (t : TokenKind). retry pipe k (wait_collected_from t wait moment k) row moment) (sym e)
again_by (Some row) kind status pipe k wait moment there (inr one) is =
    let e : wait.kind ≡ Expire = is ∙ one in
    ap (λ (t : TokenKind). resumed_as t status pipe k wait row moment) e ∙ ap (λ (t : TokenKind). retry pipe k (wait_collected_from t wait moment k) row moment) (sym e)

-- after a mount that came, and after an expiry
pub resume_again : (pipe : PipeState) (k : KernelState) (walker moment : ℕ) (wait : WaitRow) (status : Status) → is_some (mount_of_walker k.uses walker) ≡ false → wait_of k.waits.waits walker ≡ Some wait → wait.status ≡ Some status → is_some (walk_in k.walks walker) ≡ true → ((wait.kind ≡ Missing) × (status ≡ Ready)) ⊎ (wait.kind ≡ Expire) →
    resume_at pipe k walker moment ≡ retry_for (walk_in k.walks wait.walker) pipe k wait moment
resume_again pipe k walker moment wait status outside waits answered there which =
    resume_is pipe k walker moment wait status outside waits answered ∙
    again_by (walk_in k.walks walker) wait.kind status pipe k wait moment there which refl ∙
    ap (λ (n : ℕ). retry_for (walk_in k.walks n) pipe k wait moment) (sym (found_number (λ (row : WaitRow). row.walker) walker k.waits.waits wait waits))

-- whoever has no walk asked for an expiry
expiry_freed : (wait : WaitRow) (waited : Waited) (moment : ℕ) (k : KernelState) → wait.kind ≡ Expire → waited ≡ waited_on wait → wait_collected_from Expire wait moment k ≡ wait_collected_as waited wait.walker moment k
expiry_freed wait waited moment k expire is =
    freed_same Expire wait moment k ∙
    ap (λ (t : TokenKind). wait_collected_as (waited_for t wait.trigger) wait.walker moment k) (sym expire) ∙
    ap (λ (w : Waited). wait_collected_as w wait.walker moment k) (sym is)

pub told_ready : (wait : WaitRow) (waited : Waited) (status : Status) (moment : ℕ) (k : KernelState) → wait.kind ≡ Expire → status ≡ Ready → waited ≡ waited_on wait → expiry_finished_as wait.kind status k wait moment ≡ Proceeds Expired [] (wait_collected_as waited wait.walker moment k)
told_ready wait waited status moment k expire ready is =
    ap (λ (t : TokenKind). expiry_finished_as t status k wait moment) expire ∙
    ap (λ (s : Status). expired_as s (wait_collected_from Expire wait moment k)) ready ∙
    ap (λ (s : KernelState). Proceeds Expired [] s) (expiry_freed wait waited moment k expire is)

pub told_failed : (wait : WaitRow) (waited : Waited) (status : Status) (error : FailNo) (e : Errno) (moment : ℕ) (k : KernelState) → wait.kind ≡ Expire → status ≡ Fail error → e ≡ errno_of error → waited ≡ waited_on wait → expiry_finished_as wait.kind status k wait moment ≡ failed e (wait_collected_as waited wait.walker moment k)
told_failed wait waited status error e moment k expire fail number is =
    ap (λ (t : TokenKind). expiry_finished_as t status k wait moment) expire ∙
    ap (λ (s : Status). expired_as s (wait_collected_from Expire wait moment k)) fail ∙
    ap (λ (f : Errno). failed f (wait_collected_from Expire wait moment k)) (sym number) ∙
    ap (λ (s : KernelState). failed e s) (expiry_freed wait waited moment k expire is)

-- after a mount that failed
failed_by : (o : Option WalkRow) (status : Status) (error : FailNo) (pipe : PipeState) (k : KernelState) (wait : WaitRow) (moment : ℕ) → is_some o ≡ true → wait.kind ≡ Missing → status ≡ Fail error → resumed_walk o status pipe k wait moment ≡ failed (errno_of error) (wait_collected_as (waited_on wait) wait.walker moment k)
failed_by None status error pipe k wait moment there missing fail = absurd cc
failed_by (Some row) status error pipe k wait moment there missing fail =
    ap (λ (s : Status). resumed_as wait.kind s pipe k wait row moment) fail ∙
    ap (λ (t : TokenKind). resumed_as t (Fail error) pipe k wait row moment) missing ∙
    ap (λ (t : TokenKind). failed (errno_of error) (wait_collected_from t wait moment k)) (sym missing) ∙
    ap (λ (s : KernelState). failed (errno_of error) s) (freed_same wait.kind wait moment k)

pub resume_failed : (pipe : PipeState) (k : KernelState) (walker moment : ℕ) (wait : WaitRow) (status : Status) (error : FailNo) (e : Errno) → is_some (mount_of_walker k.uses walker) ≡ false → wait_of k.waits.waits walker ≡ Some wait → wait.status ≡ Some status → is_some (walk_in k.walks walker) ≡ true → wait.kind ≡ Missing → status ≡ Fail error → e ≡ errno_of error →
    resume_at pipe k walker moment ≡ failed e (wait_collected_as OnMount walker moment k)
resume_failed pipe k walker moment wait status error e outside waits answered there missing fail number =
    resume_is pipe k walker moment wait status outside waits answered ∙
    failed_by (walk_in k.walks walker) status error pipe k wait moment there missing fail ∙
    ap (λ (f : Errno). failed f (wait_collected_as (waited_on wait) wait.walker moment k)) (sym number) ∙
    ap (λ (n : ℕ). failed e (wait_collected_as (waited_on wait) n moment k)) (found_number (λ (r : WaitRow). r.walker) walker k.waits.waits wait waits) ∙
    ap (λ (t : TokenKind). failed e (wait_collected_as (waited_for t wait.trigger) walker moment k)) missing

pub copied_some : {X : Type 0} (o : Option (Bor X)) → is_some o ≡ true → is_some (option_copied o) ≡ true
copied_some None h = absurd cc
copied_some (Some x) h = refl

-- the walker of the wait is inside no mount
pub resume_outside : (k : KernelState) (walker : ℕ) (wait : WaitRow) → is_some (mount_of_walker k.uses walker) ≡ false → wait_of k.waits.waits walker ≡ Some wait → mount_of_walker k.uses wait.walker ≡ None
resume_outside k walker wait outside waits =
    ap (mount_of_walker k.uses) (found_number (λ (row : WaitRow). row.walker) walker k.waits.waits wait waits) ∙ none_where_not_some (mount_of_walker k.uses walker) outside

free_by : (kind : TokenKind) (k : KernelState) (walker : ℕ) (wait : WaitRow) (status : Status) → wait_of k.waits.waits walker ≡ Some wait → wait.status ≡ Some status → HasNoOpenWait (waited_for kind wait.trigger) walker k.waits
free_by Missing k walker wait status waits answered = ap (λ (o : Option WaitRow). wait_refusal o) waits ∙ ap (λ (o : Option Status). status_refusal o) answered
free_by Expire k walker wait status waits answered = ap (λ (o : Option WaitRow). wait_refusal o) waits ∙ ap (λ (o : Option Status). status_refusal o) answered

-- the wait was released, so it can be collected
pub resume_free : (k : KernelState) (walker : ℕ) (wait : WaitRow) (status : Status) → wait_of k.waits.waits walker ≡ Some wait → wait.status ≡ Some status → HasNoOpenWait (waited_on wait) wait.walker k.waits
resume_free k walker wait status waits answered =
    subst (λ (n : ℕ). HasNoOpenWait (waited_on wait) n k.waits) (sym (found_number (λ (row : WaitRow). row.walker) walker k.waits.waits wait waits)) (free_by wait.kind k walker wait status waits answered)
