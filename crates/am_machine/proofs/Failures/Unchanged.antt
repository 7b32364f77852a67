-- What the kernel does leaves failures only where nothing is mounted, if it mounts nothing on a trigger.
use Rattle.std.proofs.Common.{◌≡◌, ◌⊎◌, ℕ, ◌+◌, ◌≤◌, ◌==◌, Bool, true, false, cond, List, [], ◌∷◌, ◌++◌, Option, Some, None, refl, sym, ap, subst, ◌∙◌, inl, inr, ⊎_elim}
use Rattle.std.specs.Prelude.{not, filter, find}
use Rattle.std.specs.Option.{option_map}
use Rattle.std.specs.List.{All}
use Rattle.am_names.specs.{same_trigger, Status, OpenToken, TokenKind, WaitRow, RiseBy}
use Rattle.am_names.specs.declared.trigger.Trigger.{Trigger}
use Rattle.am_names.specs.declared.trigger.Status.TheVariants.{Ready, Fail}
use Rattle.am_names.specs.declared.row.TokenKind.TheVariants.{Missing, Expire}
use Rattle.am_names.proofs.SameTriggers.{equal_by_same_trigger}
use Rattle.am_names.proofs.Basics.{equal_by_test}
use Rattle.am_wait.specs.{WaitRows, token_of, answered}
use Rattle.am_wait.proofs.FindLemmas.{or_first, find_append, unless_of, token_taken, tokens_off}
use Rattle.am_trigger.specs.{Autofs, autofs_of, Failure, FailureRows, failure_of, with_failure, without_failure, without_failures}
use Rattle.am_state.specs.{Obs}
use Rattle.am_kernel.specs.{KernelState, with_latest, made_catatonic, with_expiring, wait_collected_from, attach_of, mounted_on, acknowledged}
use Rattle.am_kernel.specs.Requests.{settled}
use Rattle.am_kernel.specs.Walks as walks
use Rattle.am_daemon.specs.{DaemonState, JobPlan}
use Rattle.am_machine.specs.{SuitsItsToken, IsAwaited, IsMended, FailuresAgree}
use Rattle.am_machine.proofs.Lists.Different.{all_found, mapped_some}
use Rattle.am_machine.proofs.Places.Unchanged.{was_there}
use Rattle.am_machine.proofs.Tokens.Unchanged.{bare}
use Rattle.am_machine.proofs.Tokens.Walks.{tokens_joined, last_joined, notice_token}
use Rattle.am_machine.proofs.Records.Tokens.{Later, stays_later, opened_later, closed_later}
use Rattle.am_machine.proofs.TriggerMounts.Unchanged.{Still, attached_autofs}
use Rattle.am_machine.proofs.Failures.Acts.{later_jobs}
use Rattle.am_machine.proofs.Tour.Walks as tour
use Rattle.am_machine.proofs.Tour.Walks.{AnyPath}

-- ---- failures that are taken away

module _ {X : Type 0} (test keep : X → Bool) where
  none_kept_by_cases : (x : X) (rows : List X) (b c : Bool) → (find test rows ≡ None → find test (filter keep rows) ≡ None) → test x ≡ b → cond b (Some x) (find test rows) ≡ None → find test (cond c (x ∷ filter keep rows) (filter keep rows)) ≡ None
  none_kept_by_cases x rows true c later t e = absurd cc
  none_kept_by_cases x rows false true later t e = rw t (later e)
  none_kept_by_cases x rows false false later t e = later e

  -- where none was found none is found of those that are kept
  none_kept : (rows : List X) → find test rows ≡ None → find test (filter keep rows) ≡ None
  none_kept [] e = refl
  none_kept (x ∷ rows) e = none_kept_by_cases x rows (test x) (keep x) (none_kept rows) refl e

  none_left_by_cases : (x : X) (rows : List X) (b : Bool) → keep x ≡ b → (test x ≡ true → keep x ≡ false) → find test (filter keep rows) ≡ None → find test (cond b (x ∷ filter keep rows) (filter keep rows)) ≡ None
  none_left_by_cases x rows false k gone later = later
  none_left_by_cases x rows true k gone later = by (test x) refl
    where
      by : (c : Bool) → test x ≡ c → cond (test x) (Some x) (find test (filter keep rows)) ≡ None
      by true t = absurd (let no : true ≡ false = sym k ∙ gone t in cc)
      by false t = rw t later

  -- where those that the test finds aren't kept none is found
  none_left : ((x : X) → test x ≡ true → keep x ≡ false) → (rows : List X) → find test (filter keep rows) ≡ None
  none_left gone [] = refl
  none_left gone (x ∷ rows) = none_left_by_cases x rows (keep x) refl (gone x) (none_left gone rows)

none_mapped : {X Y : Type 0} (f : X → Y) (o : Option X) → option_map f o ≡ None → o ≡ None
none_mapped f None e = refl
none_mapped f (Some x) e = absurd cc

abbrev at_trigger : Trigger → (Trigger × Failure) → Bool
at_trigger g row = same_trigger row.0 g

no_row : (rows : FailureRows) (g : Trigger) → failure_of rows g ≡ None → find (at_trigger g) rows ≡ None
no_row rows g e = none_mapped (λ (row : Trigger × Failure). row.1) (find (at_trigger g) rows) e

none_by : (rows : FailureRows) (g : Trigger) → find (at_trigger g) rows ≡ None → failure_of rows g ≡ None
none_by rows g e = ap (option_map (λ (row : Trigger × Failure). row.1)) e

pub still_mended : (trigger g : Trigger) (rows : FailureRows) → failure_of rows g ≡ None → failure_of (without_failure trigger rows) g ≡ None
still_mended trigger g rows e = none_by (without_failure trigger rows) g (none_kept (at_trigger g) (λ row. not (same_trigger row.0 trigger)) rows (no_row rows g e))

pub made_good : (g : Trigger) (rows : FailureRows) → failure_of (without_failure g rows) g ≡ None
made_good g rows = none_by (without_failure g rows) g (none_left (at_trigger g) (λ row. not (same_trigger row.0 g)) (λ row same. ap not same) rows)

none_of_fs : (fs : ℕ) (g : Trigger) (rows : FailureRows) → (g.fs == fs) ≡ true → failure_of (without_failures fs rows) g ≡ None
none_of_fs fs g rows is =
    none_by (without_failures fs rows) g (none_left (at_trigger g) (λ row. not (row.0.fs == fs)) (λ row same. ap (λ (t : Trigger). not (t.fs == fs)) (equal_by_same_trigger row.0 g same) ∙ ap not is) rows)

none_of_others : (fs : ℕ) (g : Trigger) (rows : FailureRows) → failure_of rows g ≡ None → failure_of (without_failures fs rows) g ≡ None
none_of_others fs g rows e = none_by (without_failures fs rows) g (none_kept (at_trigger g) (λ row. not (row.0.fs == fs)) rows (no_row rows g e))

-- what fails at another trigger
fails_elsewhere : (trigger g : Trigger) (failure : Failure) (rows : FailureRows) → same_trigger trigger g ≡ false → failure_of rows g ≡ None → failure_of (with_failure trigger failure rows) g ≡ None
fails_elsewhere trigger g failure rows other e =
    let none = no_row (without_failure trigger rows) g (still_mended trigger g rows e) in
    none_by (with_failure trigger failure rows) g
    (find_append (at_trigger g) (without_failure trigger rows) ((trigger, failure) ∷ []) ∙ (rw (none, other) refl))

-- ---- what the kernel's half keeps

-- numbers aren't taken back, open tokens are of the kind that they were, and each trigger that was mended, or
-- awaited, is so still
pub record GoesOn (k made : KernelState) : Type 0 where
  pub later : Later k.waits made.waits
  pub mended : (g : Trigger) → IsMended k g → IsMended made g

pub goes_itself : (k : KernelState) → GoesOn k k
goes_itself k = record { later = stays_later k.waits k.waits (λ t. refl) refl; mended = λ g h. h }

-- tokens stay but for their waiters, and failures stay
pub stays_goes : (k made : KernelState) → ((t : ℕ) → option_map bare (token_of made.waits.tokens t) ≡ option_map bare (token_of k.waits.tokens t)) → made.waits.last_token ≡ k.waits.last_token → made.failures ≡ k.failures → GoesOn k made
stays_goes k made tokens last failures = record {
  later = stays_later k.waits made.waits tokens last;
  mended = λ g. ⊎_elim
      (λ none. inl (ap (λ (rows : FailureRows). failure_of rows g) failures ∙ none))
      (λ awaited.
      let new = mapped_some bare (token_of k.waits.tokens awaited.token) (token_of made.waits.tokens awaited.token) awaited.row (tokens awaited.token) awaited.is_open in
      inr (record {
        token = awaited.token;
        row = new.0;
        is_open = new.1;
        asks = ap (λ (r : OpenToken). r.trigger) new.2 ∙ awaited.asks;
        kind = ap (λ (r : OpenToken). r.kind) new.2 ∙ awaited.kind;
      }));
}

first_of : (o other : Option OpenToken) (row : OpenToken) → o ≡ Some row → or_first o other ≡ Some row
first_of None other row e = absurd cc
first_of (Some x) other row e = e

-- one more token is open
pub opens_goes : (k made : KernelState) (new : OpenToken) → made.waits.tokens ≡ k.waits.tokens ++ new ∷ [] → new.token ≡ k.waits.last_token + 1 → made.waits.last_token ≡ k.waits.last_token + 1 → made.failures ≡ k.failures → GoesOn k made
opens_goes k made new tokens number last failures = record {
  later = opened_later k.waits made.waits new tokens number last;
  mended = λ g. ⊎_elim
      (λ none. inl (ap (λ (rows : FailureRows). failure_of rows g) failures ∙ none))
      (λ awaited. inr (record {
        token = awaited.token;
        row = awaited.row;
        is_open =
            ap (λ (rows : List OpenToken). token_of rows awaited.token) tokens
            ∙ find_append (λ (r : OpenToken). r.token == awaited.token) k.waits.tokens (new ∷ [])
            ∙ first_of (token_of k.waits.tokens awaited.token) _ awaited.row awaited.is_open;
        asks = awaited.asks;
        kind = awaited.kind;
      }));
}

-- the tokens of a file system close, and nothing that failed in it lasts
off_by_cases : (fs : ℕ) (o : Option OpenToken) (row : OpenToken) → o ≡ Some row → (row.trigger.fs == fs) ≡ false → unless_of fs o ≡ Some row
off_by_cases fs None row e other = absurd cc
off_by_cases fs (Some x) row e other = let same : x ≡ row = cc in rw same (rw other refl)

closes_by_cases : (k : KernelState) (fs : ℕ) → RiseBy (λ (r : OpenToken). r.token) 0 k.waits.tokens → (g : Trigger) (b : Bool) → (g.fs == fs) ≡ b → IsMended k g → IsMended (made_catatonic fs k) g
closes_by_cases k fs rise g true is h = inl (none_of_fs fs g k.failures is)
closes_by_cases k fs rise g false other (inl none) = inl (none_of_others fs g k.failures none)
closes_by_cases k fs rise g false other (inr awaited) = inr (record {
  token = awaited.token;
  row = awaited.row;
  is_open =
      tokens_off fs awaited.token 0 k.waits.tokens rise
      ∙ off_by_cases fs (token_of k.waits.tokens awaited.token) awaited.row awaited.is_open (subst (λ (t : Trigger). (t.fs == fs) ≡ false) (sym awaited.asks) other);
  asks = awaited.asks;
  kind = awaited.kind;
})

pub closed_goes : (k : KernelState) (fs : ℕ) → RiseBy (λ (r : OpenToken). r.token) 0 k.waits.tokens → GoesOn k (made_catatonic fs k)
closed_goes k fs rise = record { later = closed_later fs k.waits rise; mended = λ g h. closes_by_cases k fs rise g (g.fs == fs) refl h }

-- a new pipe
piped_by_cases : (k made : KernelState) (fs : ℕ) (g : Trigger) (b : Bool) → (g.fs == fs) ≡ b → made.waits ≡ k.waits → made.failures ≡ without_failures fs k.failures → IsMended k g → IsMended made g
piped_by_cases k made fs g true is waits failures h = inl (ap (λ (rows : FailureRows). failure_of rows g) failures ∙ none_of_fs fs g k.failures is)
piped_by_cases k made fs g false other waits failures (inl none) = inl (ap (λ (rows : FailureRows). failure_of rows g) failures ∙ none_of_others fs g k.failures none)
piped_by_cases k made fs g false other waits failures (inr awaited) = inr (subst (λ (w : WaitRows). IsAwaited w.tokens g) (sym waits) awaited)

pub piped_goes : (k made : KernelState) (fs : ℕ) → made.waits ≡ k.waits → made.failures ≡ without_failures fs k.failures → GoesOn k made
piped_goes k made fs waits failures = record {
  later = stays_later k.waits made.waits (λ t. ap (λ (w : WaitRows). option_map bare (token_of w.tokens t)) waits) (ap (λ (w : WaitRows). w.last_token) waits);
  mended = λ g h. piped_by_cases k made fs g (g.fs == fs) refl waits failures h;
}

-- ---- a token is acknowledged

-- another token that is open stays so
awaits_still : (k : KernelState) (token : ℕ) (status : Status) (g : Trigger) (awaited : IsAwaited k.waits.tokens g) → (token == awaited.token) ≡ false → IsAwaited (answered token status k.waits).tokens g
awaits_still k token status g awaited other = record {
  token = awaited.token;
  row = awaited.row;
  is_open = token_taken token k.waits.tokens awaited.token false other ∙ awaited.is_open;
  asks = awaited.asks;
  kind = awaited.kind;
}

-- its failures, by the kind of the token; where a mount has failed nothing is mounted on its trigger
module _ (k : KernelState) (token : ℕ) (its : OpenToken) (is_open : token_of k.waits.tokens token ≡ Some its) (g : Trigger) where
  abbrev made_by : Status → KernelState
  made_by status = acknowledged token status k

  failures_are : (status : Status) (kind : TokenKind) → its.kind ≡ kind → (made_by status).failures ≡ settled kind its.trigger status k.latest k.failures
  failures_are status kind e = rw is_open (ap (λ (kind : TokenKind). settled kind its.trigger status k.latest k.failures) e)

  -- the awaited token, where it is this one
  its_own : (awaited : IsAwaited k.waits.tokens g) → (token == awaited.token) ≡ true → its ≡ awaited.row
  its_own awaited is =
      let both : Some its ≡ Some awaited.row = sym is_open ∙ ap (token_of k.waits.tokens) (equal_by_test token awaited.token is) ∙ awaited.is_open in
      cc

  awaited_by_cases : (status : Status) (awaited : IsAwaited k.waits.tokens g) (b : Bool) → (token == awaited.token) ≡ b → (its ≡ awaited.row → IsMended (made_by status) g) → IsMended (made_by status) g
  awaited_by_cases status awaited true is here = here (its_own awaited is)
  awaited_by_cases status awaited false other here = inr (awaits_still k token status g awaited other)

  none_after : (status : Status) (kind : TokenKind) → its.kind ≡ kind → failure_of (settled kind its.trigger status k.latest k.failures) g ≡ None → IsMended (made_by status) g
  none_after status kind e none = inl (ap (λ (rows : FailureRows). failure_of rows g) (failures_are status kind e) ∙ none)

  ready_good : its.trigger ≡ g → failure_of (without_failure its.trigger k.failures) g ≡ None
  ready_good on = subst (λ (t : Trigger). failure_of (without_failure t k.failures) g ≡ None) (sym on) (made_good g k.failures)

  failed_by_cases : (status : Status) (failure : Failure) (b : Bool) → same_trigger its.trigger g ≡ b → (its.trigger ≡ g → ⊥) → (made_by status).failures ≡ with_failure its.trigger failure k.failures → failure_of k.failures g ≡ None → IsMended (made_by status) g
  failed_by_cases status failure true same apart is none = absurd (apart (equal_by_same_trigger its.trigger g same))
  failed_by_cases status failure false other apart is none = inl (ap (λ (rows : FailureRows). failure_of rows g) is ∙ fails_elsewhere its.trigger g failure k.failures other none)

  mended_by_cases : (kind : TokenKind) (status : Status) → its.kind ≡ kind → (kind ≡ Missing → (status ≡ Ready) ⊎ (its.trigger ≡ g → ⊥)) → IsMended k g → IsMended (made_by status) g
  mended_by_cases Expire status e free (inl none) = none_after status Expire e none
  mended_by_cases Expire status e free (inr awaited) =
      awaited_by_cases status awaited (token == awaited.token) refl
      (λ own. let no : Expire ≡ Missing = sym e ∙ ap (λ (r : OpenToken). r.kind) own ∙ awaited.kind in absurd cc)
  mended_by_cases Missing Ready e free (inl none) = none_after Ready Missing e (still_mended its.trigger g k.failures none)
  mended_by_cases Missing Ready e free (inr awaited) =
      awaited_by_cases Ready awaited (token == awaited.token) refl
      (λ own. none_after Ready Missing e (ready_good (ap (λ (r : OpenToken). r.trigger) own ∙ awaited.asks)))
  mended_by_cases Missing (Fail error) e free h = by (free refl) h
    where
      by : (Fail error ≡ Ready) ⊎ (its.trigger ≡ g → ⊥) → IsMended k g → IsMended (made_by (Fail error)) g
      by (inl never) old = absurd cc
      by (inr apart) (inl none) = failed_by_cases (Fail error) (record { no = error; at = k.latest }) (same_trigger its.trigger g) refl apart (failures_are (Fail error) Missing e) none
      by (inr apart) (inr awaited) =
          awaited_by_cases (Fail error) awaited (token == awaited.token) refl
          (λ own. absurd (apart (ap (λ (r : OpenToken). r.trigger) own ∙ awaited.asks)))

  pub acknowledged_mended : (status : Status) → (its.kind ≡ Missing → (status ≡ Ready) ⊎ (its.trigger ≡ g → ⊥)) → IsMended k g → IsMended (made_by status) g
  acknowledged_mended status free h = mended_by_cases its.kind status refl free h

-- ---- what walkers do

abbrev pub GoesBy : KernelState → List Obs → KernelState → Type 0
GoesBy k shown made = RiseBy (λ (r : OpenToken). r.token) 0 k.waits.tokens → GoesOn k made

after_freed : (kind : TokenKind) (k : KernelState) (wait : WaitRow) (moment : ℕ) (shown : List Obs) (made : KernelState) → GoesBy (wait_collected_from kind wait moment k) shown made → GoesBy k shown made
after_freed Missing k wait moment shown made later rise = let g = later rise in record { later = record { more = g.later.more; old = g.later.old }; mended = g.mended }
after_freed Expire k wait moment shown made later rise = let g = later rise in record { later = record { more = g.later.more; old = g.later.old }; mended = g.mended }

pub walkers : tour.Keeps AnyPath GoesBy
walkers = record {
  nothing = λ k rise. goes_itself k;
  arrived = λ k attempt at passed w rise. stays_goes k _ (λ t. refl) refl refl;
  joined = λ k attempt token passed w rise.
      let found = token_of k.waits.tokens token in
      stays_goes k (walks.with_joined attempt token passed k) (λ t. tokens_joined found token attempt.walker t k.waits) (last_joined found token attempt.walker k.waits) refl;
  notified = λ k attempt trigger attach passed w is rise. opens_goes k (walks.with_notified attempt trigger attach passed k) (notice_token k attempt.walker trigger Missing) refl refl refl refl;
  expiring = λ k walker fs moment immediate trigger attach x rise. opens_goes k (with_expiring walker trigger attach k) (notice_token k walker trigger Expire) refl refl refl refl;
  made_catatonic = λ k fs rise. closed_goes k fs rise;
  collected = λ k kind wait status moment shown made g later. after_freed kind k wait moment shown made later;
}

-- the latest moment is none of it
pub latest_goes : (k made : KernelState) (moment : ℕ) → GoesOn k made → GoesOn k (with_latest moment made)
latest_goes k made moment g = record { later = record { more = g.later.more; old = g.later.old }; mended = g.mended }

-- ---- where nothing is mounted on a trigger, and nothing unmounted from one

-- no file system has an attachment of those that were given that it hadn't
abbrev pub WasCurrent : KernelState → KernelState → Type 0
WasCurrent k made = (fs attach : ℕ) → attach ≤ k.last_attach → attach_of made fs ≡ Some attach → attach_of k fs ≡ Some attach

pub failures_still : (k made : KernelState) (d : DaemonState) → All (λ (row : JobPlan). (row.attach ≤ k.last_attach) × (row.trigger.fs ≤ k.last_fs)) d.jobs → WasCurrent k made → Still k made → Later k.waits made.waits →
    ((g : Trigger) (a : Autofs) (mount : ℕ) → autofs_of k.triggers g.fs ≡ Some a → mounted_on k g ≡ Some mount → IsMended k g → IsMended made g) → FailuresAgree k d → FailuresAgree made d
failures_still k made d given current still later mended h = record {
  suited = later_jobs k.waits made.waits d.jobs later h.suited;
  free = λ job row token error found now is_open missing next.
      let its = all_found (SuitsItsToken k.waits) (λ (r : JobPlan). r.token == job) d.jobs row h.suited found in
      let least = all_found (λ (r : JobPlan). (r.attach ≤ k.last_attach) × (r.trigger.fs ≤ k.last_fs)) (λ (r : JobPlan). r.token == job) d.jobs row given found in
      let old = later.old row.token token is_open its.given in
      let was = current row.trigger.fs row.attach least.0 now in
      let a = attached_autofs k row.trigger.fs row.attach was in
      still.still row.trigger a.0 a.1 ∙ h.free job row old.0 error found was old.1 (old.2 ∙ missing) next;
  mended = λ g a mount is on.
      let before = was_there (autofs_of made.triggers g.fs) (autofs_of k.triggers g.fs) a (still.sites g.fs) is in
      let there = sym (still.still g before.was before.is_was) ∙ on in
      mended g before.was mount before.is_was there (h.mended g before.was mount before.is_was there);
}
