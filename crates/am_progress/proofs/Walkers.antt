-- Each walker that waits can be brought on.
use Rattle.std.proofs.Common.{◌≡◌, ℕ, Bool, true, false, cond, List, [], ◌∷◌, map, Option, Some, None, refl, sym, ap, subst, ⊎_elim, ◌∙◌}
use Rattle.std.specs.Prelude.{⊤, ◌==◌, ◌&&◌, nat_le, is_some, is_none, if◌then◌else◌}
use Rattle.am_names.specs.declared.fail_no.FailNo.TheVariants.{ENOENT}
use Rattle.am_names.specs.declared.errno.Errno.{Errno}
use Rattle.am_names.specs.declared.errno.Errno.TheVariants.{EINVAL, ELOOP}
use Rattle.am_names.specs.declared.trigger.Trigger.{Trigger}
use Rattle.am_names.specs.{Status, PipeState, OpenToken, WaitRow, TokenKind}
use Rattle.am_names.specs.declared.trigger.Status.TheVariants.{Ready, Fail}
use Rattle.am_names.specs.declared.row.TokenKind.TheVariants.{Missing, Expire}
use Rattle.am_names.proofs.Basics.{equal_to_itself, equal_by_test, value_where_some, found_passes}
use Rattle.am_trigger.specs.{Autofs}
use Rattle.am_wait.specs.{token_of, wait_of, failed_row}
use Rattle.am_expire.specs.{mount_of_walker}
use Rattle.am_walk.specs.{walk_of}
use Rattle.am_kernel.specs.{KernelState, Progress, WalkRow, moment_of, is_live, attach_of, scene_of, queued_of, admin_catatonic_refusal, catatonic_observations, made_catatonic, made_catatonic_if_live, catatonic_observations_if_live}
use Rattle.am_kernel.specs.declared.progress.Progress.TheVariants as progress
use Rattle.am_kernel.specs.CallOutcome as kernel
use Rattle.am_kernel.specs.Walks as walks
use Rattle.am_kernel.specs.Resumes as resumes
use Rattle.am_machine.specs.declared.event.Event.TheVariants as events
use Rattle.am_machine.specs.declared.answer.Answer.TheVariants as answers
use Rattle.am_machine.specs.State.{State}
use Rattle.am_machine.specs.EventOutcome.{EventOutcome}
use Rattle.am_machine.specs.{unless, with_kernel, after, outcome_of, answer_of, goes}
use Rattle.am_machine.proofs.Lists.Different.{all_found}
use Rattle.am_machine.proofs.TriggerMounts.Unchanged.{attached_autofs}
use Rattle.am_machine.proofs.Agreement.Tokens.{in_pipe, queued_number}
use Rattle.am_machine.proofs.InStep.States.{in_step}
use Rattle.am_progress.specs.{is_refused, next, most_acts, CanResume, CanBeBroughtOn, WalkersCanGoOn, WaitingWalkersCanGoOn}
use Rattle.am_progress.proofs.Found.{live_of}
use Rattle.am_progress.proofs.Ways.{reaches_on}
use Rattle.am_progress.proofs.Tokens.{Answers, can_answer}
use Rattle.am_progress.proofs.Worlds.{IsWorld, next_world, after_runs}

-- ---- a walker that was released goes on

abbrev HasProceeded : kernel.CallOutcome → Type 0
HasProceeded (kernel.Proceeds progress shown made) = ⊤
HasProceeded (kernel.Fails e) = ⊥

told_goes : (progress : Progress) → is_refused (answer_of progress) ≡ false
told_goes (progress.Arrived at) = refl
told_goes (progress.Waits token) = refl
told_goes (progress.Failed e) = refl
told_goes progress.Expired = refl

goes_done : (o : kernel.CallOutcome) (s : State) (moment : ℕ) → HasProceeded o → is_refused (goes (kernel.at_moment moment o) s).answer ≡ false
goes_done (kernel.Proceeds progress shown made) s moment h = told_goes progress
goes_done (kernel.Fails e) s moment h = absurd h

or_failed : (o : kernel.CallOutcome) (k : KernelState) → HasProceeded (resumes.or_failed o k)
or_failed (kernel.Proceeds progress shown made) k = tt
or_failed (kernel.Fails e) k = tt

either_goes : (b : Bool) (first second : kernel.CallOutcome) → HasProceeded first → HasProceeded second → HasProceeded (if b then first else second)
either_goes true first second h g = h
either_goes false first second h g = g

again : (pipe : PipeState) (k base : KernelState) (row : WalkRow) (moment : ℕ) → HasProceeded (resumes.retry pipe k base row moment)
again pipe k base row moment =
    either_goes (nat_le resumes.max_attempts row.attempts) (resumes.failed ELOOP base) _ tt
    (or_failed (walks.attempted_with (walk_of (scene_of k moment) row.ns row.path) pipe base (resumes.next_attempt row moment)) base)

resumed_as : (kind : TokenKind) (status : Status) (pipe : PipeState) (k : KernelState) (wait : WaitRow) (row : WalkRow) (moment : ℕ) → HasProceeded (resumes.resumed_as kind status pipe k wait row moment)
resumed_as Missing (Fail error) pipe k wait row moment = tt
resumed_as Missing Ready pipe k wait row moment = again pipe k (resumes.wait_collected_from Missing wait moment k) row moment
resumed_as Expire status pipe k wait row moment = again pipe k (resumes.wait_collected_from Expire wait moment k) row moment

expired_as : (status : Status) (k : KernelState) → HasProceeded (resumes.expired_as status k)
expired_as Ready k = tt
expired_as (Fail error) k = tt

-- who has no walk asked for an expiry
expiry_finished_as : (kind : TokenKind) (status : Status) (k : KernelState) (wait : WaitRow) (moment : ℕ) → (kind ≡ Missing → ⊥) → HasProceeded (resumes.expiry_finished_as kind status k wait moment)
expiry_finished_as Missing status k wait moment asked = absurd (asked refl)
expiry_finished_as Expire status k wait moment asked = expired_as status (resumes.wait_collected_from Expire wait moment k)

resumed_walk : (row : Option WalkRow) (status : Status) (pipe : PipeState) (k : KernelState) (wait : WaitRow) (moment : ℕ) → (wait.kind ≡ Missing → is_some row ≡ true) → HasProceeded (resumes.resumed_walk row status pipe k wait moment)
resumed_walk None status pipe k wait moment walks = expiry_finished_as wait.kind status k wait moment (λ missing. let no : false ≡ true = walks missing in cc)
resumed_walk (Some row) status pipe k wait moment walks = resumed_as wait.kind status pipe k wait row moment

resumes_by_cases : (pipe : PipeState) (k : KernelState) (walker moment : ℕ) (row : WaitRow) (status : Status) → mount_of_walker k.uses walker ≡ None → wait_of k.waits.waits walker ≡ Some row → row.status ≡ Some status → (row.kind ≡ Missing → is_some (resumes.walk_in k.walks row.walker) ≡ true) → HasProceeded (resumes.resume_at pipe k walker moment)
resumes_by_cases pipe k walker moment row status out is its walks =
    let same : resumes.resume_at pipe k walker moment ≡ resumes.resumed_walk (resumes.walk_in k.walks row.walker) status pipe k row moment =
    ap (λ (o : Option ℕ). if is_some o then kernel.Fails EINVAL else resumes.resumed_at (wait_of k.waits.waits walker) pipe k moment) out
    ∙ ap (λ (o : Option WaitRow). resumes.resumed_at o pipe k moment) is
    ∙ ap (λ (o : Option Status). resumes.resumed_by o pipe k row moment) its in
    subst HasProceeded (sym same) (resumed_walk (resumes.walk_in k.walks row.walker) status pipe k row moment walks)

pub wait_number : (w : List WaitRow) (walker : ℕ) (row : WaitRow) → wait_of w walker ≡ Some row → row.walker ≡ walker
wait_number w walker row is = equal_by_test row.walker walker (found_passes (λ (r : WaitRow). r.walker == walker) w row is)

-- its resume is answered
pub resumes_on : (s : State) → IsWorld s → (walker : ℕ) (row : WaitRow) (status : Status) → wait_of s.kernel.waits.waits walker ≡ Some row → row.status ≡ Some status → CanResume walker s
resumes_on s world walker row status is its now pipe =
    let k = s.kernel in
    let out : mount_of_walker k.uses walker ≡ None =
    subst (λ (n : ℕ). mount_of_walker k.uses n ≡ None) (wait_number k.waits.waits walker row is)
    (all_found (λ (r : WaitRow). mount_of_walker k.uses r.walker ≡ None) (λ (r : WaitRow). r.walker == walker) k.waits.waits row world.holds.kernel.outside is) in
    goes_done (resumes.resume_at pipe k walker (moment_of s.kernel now)) s (moment_of s.kernel now)
    (resumes_by_cases pipe k walker (moment_of s.kernel now) row status out is its ((in_step s world.consistent world.named world.failures).walks walker row is))

-- ---- a walker that waits

-- its token is open, of an autofs to which a daemon is attached
record WaitsOn (s : State) (row : WaitRow) : Type 0 where
  token : OpenToken
  is_open : token_of s.kernel.waits.tokens row.token ≡ Some token
  fs : token.trigger.fs ≡ row.trigger.fs
  attach : ℕ
  current : attach_of s.kernel row.trigger.fs ≡ Some attach

in_pipe_attached : (s : State) → IsWorld s → (token : ℕ) (row : OpenToken) → token_of s.kernel.waits.tokens token ≡ Some row → is_some (queued_of s.kernel.queue token) ≡ true → (attach : ℕ) × (attach_of s.kernel row.trigger.fs ≡ Some attach)
in_pipe_attached s world token row is waits =
    let k = s.kernel in
    let queued = value_where_some (queued_of k.queue token) waits in
    let pipe = in_pipe k s.daemon world.consistent.agreed.tokens token queued.0 queued.1 in
    let one : pipe.token ≡ row = (let found : Some pipe.token ≡ Some row = sym pipe.is_open ∙ ap (token_of k.waits.tokens) (queued_number k token queued.0 queued.1) ∙ is in cc) in
    (queued.0.attach, subst (λ (t : OpenToken). attach_of k t.trigger.fs ≡ Some queued.0.attach) one pipe.current)

-- an open token is one of an autofs to which a daemon is attached
attached : (s : State) → IsWorld s → (token : ℕ) (row : OpenToken) → token_of s.kernel.waits.tokens token ≡ Some row → (attach : ℕ) × (attach_of s.kernel row.trigger.fs ≡ Some attach)
attached s world token row is =
    ⊎_elim (in_pipe_attached s world token row is) (λ work. (work.job.attach, work.current)) (world.consistent.agreed.tokens.open_tokens token row is)

waits_on : (s : State) → IsWorld s → (walker : ℕ) (row : WaitRow) → wait_of s.kernel.waits.waits walker ≡ Some row → row.status ≡ None → WaitsOn s row
waits_on s world walker row is still =
    let on = world.consistent.traced.fits.sound.same walker row is still in
    let fs : on.0.trigger.fs ≡ row.trigger.fs = ap (λ (g : Trigger). g.fs) on.2 in
    let under = attached s world row.token on.0 on.1 in
    record { token = on.0; is_open = on.1; fs = fs; attach = under.0; current = subst (λ (n : ℕ). attach_of s.kernel n ≡ Some under.0) fs under.1 }

-- ---- the daemon

answered_resumes : (s : State) (walker : ℕ) (row : WaitRow) → wait_of s.kernel.waits.waits walker ≡ Some row → row.status ≡ None → (new : State) → Answers s row.token new → CanResume row.walker new
answered_resumes s walker row is still new h =
    resumes_on new h.world row.walker (record row { status = Some h.answered.status }) h.answered.status
    (h.answered.released row.walker row (ap (wait_of s.kernel.waits.waits) (wait_number s.kernel.waits.waits walker row is) ∙ is) refl still) refl

-- ---- the administrator

is_autofs : (k : KernelState) (fs attach : ℕ) → attach_of k fs ≡ Some attach → admin_catatonic_refusal k fs ≡ None
is_autofs k fs attach e = ap (λ (o : Option Autofs). if is_some o then None else Some EINVAL) (attached_autofs k fs attach e).1

-- all that wait on the file system are released
catatonic_is : (s : State) (fs attach : ℕ) → attach_of s.kernel fs ≡ Some attach → outcome_of s (events.AdminCatatonic fs) ≡ with_kernel answers.Done (catatonic_observations fs s.kernel) (made_catatonic fs s.kernel) s
catatonic_is s fs attach e =
    let k = s.kernel in
    let live : is_live k fs ≡ true = live_of k fs attach e in
    ap (λ (o : Option Errno). unless o s (with_kernel answers.Done (catatonic_observations_if_live fs k) (made_catatonic_if_live fs k) s)) (is_autofs k fs attach e)
    ∙ ap (λ (b : Bool). with_kernel answers.Done (if b then catatonic_observations fs k else []) (if b then made_catatonic fs k else k) s) live

failed_by_cases : (walker fs : ℕ) (x row : WaitRow) (rows : List WaitRow) (b : Bool) → row.trigger.fs ≡ fs → row.status ≡ None →
    (wait_of rows walker ≡ Some row → wait_of (map (failed_row fs) rows) walker ≡ Some (record row { status = Some (Fail ENOENT) })) →
    cond b (Some x) (wait_of rows walker) ≡ Some row → cond b (Some (failed_row fs x)) (wait_of (map (failed_row fs) rows) walker) ≡ Some (record row { status = Some (Fail ENOENT) })
failed_by_cases walker fs x row rows true on still later e =
    let its : x ≡ row = cc in
    let here : (row.trigger.fs == fs) ≡ true = subst (λ (n : ℕ). (row.trigger.fs == n) ≡ true) on (equal_to_itself row.trigger.fs) in
    ap (λ (r : WaitRow). Some (failed_row fs r)) its
    ∙ ap (λ (b : Bool). Some (if b && is_none row.status then record row { status = Some (Fail ENOENT) } else row)) here
    ∙ ap (λ (o : Option Status). Some (if is_none o then record row { status = Some (Fail ENOENT) } else row)) still
failed_by_cases walker fs x row rows false on still later e = later e

failed_walker : (b : Bool) (x : WaitRow) → (if b then record x { status = Some (Fail ENOENT) } else x).walker ≡ x.walker
failed_walker true x = refl
failed_walker false x = refl

failed_is : (walker fs : ℕ) (rows : List WaitRow) (row : WaitRow) → wait_of rows walker ≡ Some row → row.trigger.fs ≡ fs → row.status ≡ None → wait_of (map (failed_row fs) rows) walker ≡ Some (record row { status = Some (Fail ENOENT) })
failed_is walker fs [] row e on still = absurd cc
failed_is walker fs (x ∷ rows) row e on still =
    ap (λ (n : ℕ). cond (n == walker) (Some (failed_row fs x)) (wait_of (map (failed_row fs) rows) walker)) (failed_walker (x.trigger.fs == fs && is_none x.status) x)
    ∙ failed_by_cases walker fs x row rows (x.walker == walker) on still (λ later. failed_is walker fs rows row later on still) e

brought_on : (s : State) → IsWorld s → (walker : ℕ) (row : WaitRow) → wait_of s.kernel.waits.waits walker ≡ Some row → row.status ≡ None → CanBeBroughtOn s row
brought_on s world walker row is still =
    let w = waits_on s world walker row is still in
    let fs = row.trigger.fs in
    let event = events.AdminCatatonic fs in
    let does = catatonic_is s fs w.attach w.current in
    let own : wait_of s.kernel.waits.waits row.walker ≡ Some row = ap (wait_of s.kernel.waits.waits) (wait_number s.kernel.waits.waits walker row is) ∙ is in
    record {
      by_daemon = λ attach served.
          reaches_on most_acts row.token (Answers s row.token) (CanResume row.walker) (answered_resumes s walker row is still) s
          (can_answer s world fs attach served row.token w.token w.is_open w.fs);
      is_catatonic = ap (λ (o : EventOutcome). is_refused o.answer) does;
      by_administrator =
          resumes_on (next s event) (next_world s event tt world) row.walker (record row { status = Some (Fail ENOENT) }) (Fail ENOENT)
          (subst (λ (o : EventOutcome). wait_of (after s o).kernel.waits.waits row.walker ≡ Some (record row { status = Some (Fail ENOENT) })) (sym does) (failed_is row.walker fs s.kernel.waits.waits row own refl still)) refl;
    }

status_by_cases : (P : Type 0) (o : Option Status) → (o ≡ None → ⊥) → ((status : Status) → o ≡ Some status → P) → P
status_by_cases P None some h = absurd (some refl)
status_by_cases P (Some status) some h = h status refl

walkers_go_on : (s : State) → IsWorld s → WalkersCanGoOn s
walkers_go_on s world = record {
  waiting = brought_on s world;
  released = λ walker row is some. status_by_cases (CanResume walker s) row.status some (λ status its. resumes_on s world walker row status is its);
}

pub walkers_can_go_on : WaitingWalkersCanGoOn
walkers_can_go_on = after_runs WalkersCanGoOn walkers_go_on
