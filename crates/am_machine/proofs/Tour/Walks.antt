-- From what walkers do to the changes of the kernel's rows that it comes to.
use Rattle.std.proofs.Common.{◌≡◌, ℕ, ◌+◌, Bool, true, false, ◌==◌, List, [], ◌∷◌, ◌++◌, Option, Some, None, refl, sym, subst}
use Rattle.std.specs.Prelude.{nat_le, is_some, is_none, if◌then◌else◌}
use Rattle.std.specs.List.{All}
use Rattle.am_names.specs.{errno_of, Status, PipeState, Position, WaitRow, TokenKind}
use Rattle.am_names.specs.declared.errno.Errno.{Errno}
use Rattle.am_names.specs.declared.trigger.Trigger.{Trigger}
use Rattle.am_names.specs.declared.trigger.Status.TheVariants.{Ready, Fail}
use Rattle.am_names.specs.declared.trigger.PipeState.TheVariants.{Room, Full, Gone}
use Rattle.am_names.specs.declared.row.TokenKind.TheVariants.{Missing, Expire}
use Rattle.am_names.proofs.Basics.{neither_of_or, equal_by_test, found_passes}
use Rattle.am_state.specs.{Obs}
use Rattle.am_state.specs.declared.obs.Obs.TheVariants as seen
use Rattle.am_wait.specs.{wait_of, is_exhausted, is_full}
use Rattle.am_wait.proofs.CallLemmas.{is_none_of}
use Rattle.am_wait.proofs.FindLemmas.{no_wait_left}
use Rattle.am_trigger.specs.{autofs_of}
use Rattle.am_expire.specs.{mount_of_walker}
use Rattle.am_walk.specs.{Stop, walk_of, IsIdle, StopsWell, IsOrderly}
use Rattle.am_walk.specs.declared.stop.Stop.TheVariants as stops
use Rattle.am_walk.specs.Scene.{Scene}
use Rattle.am_walk.proofs.LawLemmas.{orderly}
use Rattle.am_kernel.specs.{Attempt, Progress, WalkRow, KernelState, Proceeds, Fails, scene_of, attach_of, is_busy, packet_for, catatonic_observations, made_catatonic, passes}
use Rattle.am_kernel.specs.CallOutcome.{CallOutcome}
use Rattle.am_kernel.specs.Walks as walks
use Rattle.am_kernel.specs.Resumes as resumes
use Rattle.am_kernel.specs.Expires as expires

-- ---- what is known where a change comes

-- the walker waits on nothing, and is inside no mount
pub record IsIdleWalker (k : KernelState) (walker : ℕ) : Type 0 where
  pub waits : wait_of k.waits.waits walker ≡ None
  pub uses : mount_of_walker k.uses walker ≡ None

-- a walker that is free walks along its path, in a scene with the kernel's autofs, passes idle
-- triggers, and stops so
pub record Walking (Fits : List (List ℕ) → Type 0) (k : KernelState) (attempt : Attempt) (stop : Stop) (passed : List Trigger) : Type 0 where
  pub free : IsIdleWalker k attempt.walker
  pub path : Fits attempt.path
  pub scene : Scene
  pub autofs : scene.triggers.autofs ≡ k.triggers.autofs
  pub stop_is : (walk_of scene attempt.ns attempt.path).stop ≡ stop
  pub passed_is : (walk_of scene attempt.ns attempt.path).passed ≡ passed
  pub passes : All (IsIdle k.waits.tokens) passed
  pub stops : StopsWell k.waits.tokens stop

-- an acknowledged wait of a walker that is inside no mount
pub record IsGiven (k : KernelState) (wait : WaitRow) (status : Status) : Type 0 where
  pub waits : wait_of k.waits.waits wait.walker ≡ Some wait
  pub given : wait.status ≡ Some status
  pub outside : mount_of_walker k.uses wait.walker ≡ None

-- the trigger of the file system is next to expire, and the walker that asks is free
pub record Expires (k : KernelState) (walker fs moment : ℕ) (immediate : Bool) (trigger : Trigger) (attach : ℕ) : Type 0 where
  pub free : IsIdleWalker k walker
  pub current : attach_of k fs ≡ Some attach
  pub next : expires.next_of k fs moment immediate ≡ Some trigger

-- what is seen of a notice
abbrev pub noticed : KernelState → ℕ → ℕ → Trigger → TokenKind → List Obs
noticed k walker attach trigger kind =
    let token = k.waits.last_token + 1 in
    seen.Queued token attach (packet_for kind token walker trigger) ∷ seen.Waits walker token ∷ []

-- ---- a relation that keeps the changes

-- From the first state to the second, with what is seen between. Fits is what is known of the paths of
-- walks.
pub record Keeps (Fits : List (List ℕ) → Type 0) (P : KernelState → List Obs → KernelState → Type 0) : Type 0 where
  pub nothing : (k : KernelState) → P k [] k
  pub arrived : (k : KernelState) (attempt : Attempt) (at : Position) (passed : List Trigger) → Walking Fits k attempt (stops.Arrive at) passed →
      P k (passes attempt.walker passed ++ seen.Entered attempt.walker at.mount ∷ []) (walks.arrived attempt at.mount passed k)
  pub joined : (k : KernelState) (attempt : Attempt) (token : ℕ) (passed : List Trigger) → Walking Fits k attempt (stops.Block token) passed →
      P k (passes attempt.walker passed ++ seen.Waits attempt.walker token ∷ []) (walks.with_joined attempt token passed k)
  pub notified : (k : KernelState) (attempt : Attempt) (trigger : Trigger) (attach : ℕ) (passed : List Trigger) → Walking Fits k attempt (stops.Missing trigger) passed → attach_of k trigger.fs ≡ Some attach →
      P k (passes attempt.walker passed ++ noticed k attempt.walker attach trigger Missing) (walks.with_notified attempt trigger attach passed k)
  pub expiring : (k : KernelState) (walker fs moment : ℕ) (immediate : Bool) (trigger : Trigger) (attach : ℕ) → Expires k walker fs moment immediate trigger attach →
      P k (noticed k walker attach trigger Expire) (expires.with_expiring walker trigger attach k)
  pub made_catatonic : (k : KernelState) (fs : ℕ) → P k (catatonic_observations fs k) (made_catatonic fs k)
  -- the wait is collected, and the walker goes on
  pub collected : (k : KernelState) (kind : TokenKind) (wait : WaitRow) (status : Status) (moment : ℕ) (shown : List Obs) (made : KernelState) → IsGiven k wait status →
      P (resumes.wait_collected_from kind wait moment k) shown made → P k shown made

abbrev pub GoesBy : (KernelState → List Obs → KernelState → Type 0) → KernelState → CallOutcome → Type 0
GoesBy P k (Proceeds progress shown made) = P k shown made
GoesBy P k (Fails e) = Unit {0}

-- where the call goes on it goes by the relation
pub record Leaves (P : KernelState → List Obs → KernelState → Type 0) (k : KernelState) (o : CallOutcome) : Type 0 where
  pub well : GoesBy P k o

not_busy : (k : KernelState) (walker : ℕ) → is_busy k walker ≡ false → IsIdleWalker k walker
not_busy k walker h =
    let both = neither_of_or (is_some (wait_of k.waits.waits walker)) (is_some (mount_of_walker k.uses walker)) h in
    record { waits = is_none_of (wait_of k.waits.waits walker) both.0; uses = is_none_of (mount_of_walker k.uses walker) both.1 }

-- the walker is free once its wait is collected
freed_free : (kind : TokenKind) (k : KernelState) (wait : WaitRow) (status : Status) (moment walker : ℕ) → IsGiven k wait status → walker ≡ wait.walker → IsIdleWalker (resumes.wait_collected_from kind wait moment k) walker
freed_free Missing k wait status moment walker g same =
    subst (λ (w : ℕ). IsIdleWalker (resumes.wait_collected_from Missing wait moment k) w) (sym same) (record { waits = no_wait_left wait.walker k.waits.waits; uses = g.outside })
freed_free Expire k wait status moment walker g same =
    subst (λ (w : ℕ). IsIdleWalker (resumes.wait_collected_from Expire wait moment k) w) (sym same) (record { waits = no_wait_left wait.walker k.waits.waits; uses = g.outside })

-- what it meets then is as before
orderly_in : (kind : TokenKind) (k : KernelState) (wait : WaitRow) (row : WalkRow) (moment : ℕ) → IsOrderly (resumes.wait_collected_from kind wait moment k).waits.tokens (walk_of (scene_of k moment) row.ns row.path)
orderly_in Missing k wait row moment = orderly k.waits.tokens (scene_of k moment) refl row.ns row.path
orderly_in Expire k wait row moment = orderly k.waits.tokens (scene_of k moment) refl row.ns row.path

autofs_in : (kind : TokenKind) (k : KernelState) (wait : WaitRow) (moment : ℕ) → (scene_of k moment).triggers.autofs ≡ (resumes.wait_collected_from kind wait moment k).triggers.autofs
autofs_in Missing k wait moment = refl
autofs_in Expire k wait moment = refl

module _ (Fits : List (List ℕ) → Type 0) (P : KernelState → List Obs → KernelState → Type 0) (keeps : Keeps Fits P) where
  fails : (k : KernelState) (e : Errno) → Leaves P k (Fails e)
  fails k e = record { well = tt }

  nothing : (k : KernelState) (progress : Progress) → Leaves P k (Proceeds progress [] k)
  nothing k progress = record { well = keeps.nothing k }

  closes : (k : KernelState) (progress : Progress) (fs : ℕ) → Leaves P k (Proceeds progress (catatonic_observations fs k) (made_catatonic fs k))
  closes k progress fs = record { well = keeps.made_catatonic k fs }

  in_either_case : (k : KernelState) (b : Bool) (first second : CallOutcome) → Leaves P k first → Leaves P k second → Leaves P k (if b then first else second)
  in_either_case k true first second h g = h
  in_either_case k false first second h g = g

  -- the second, where the test fails
  where_false : (k : KernelState) (b : Bool) (first second : CallOutcome) → Leaves P k first → (b ≡ false → Leaves P k second) → Leaves P k (if b then first else second)
  where_false k true first second h g = h
  where_false k false first second h g = g refl

  -- ---- a walk begins

  notifies_by : (pipe : PipeState) (k : KernelState) (attempt : Attempt) (trigger : Trigger) (attach : ℕ) (passed : List Trigger) → Walking Fits k attempt (stops.Missing trigger) passed → attach_of k trigger.fs ≡ Some attach →
      Leaves P k (walks.notifies_by pipe k attempt trigger attach passed)
  notifies_by Room k attempt trigger attach passed w is = record { well = keeps.notified k attempt trigger attach passed w is }
  notifies_by Full k attempt trigger attach passed w is = fails k _
  notifies_by Gone k attempt trigger attach passed w is = closes k _ trigger.fs

  notifies : (attach : Option ℕ) (pipe : PipeState) (k : KernelState) (attempt : Attempt) (trigger : Trigger) (passed : List Trigger) → Walking Fits k attempt (stops.Missing trigger) passed → attach_of k trigger.fs ≡ attach →
      Leaves P k (walks.notifies attach pipe k attempt trigger passed)
  notifies None pipe k attempt trigger passed w is = fails k _
  notifies (Some attach) pipe k attempt trigger passed w is =
      in_either_case k (is_exhausted k.waits) _ _ (fails k _) (in_either_case k (is_full k.waits) _ _ (fails k _) (notifies_by pipe k attempt trigger attach passed w is))

  attempted_by : (stop : Stop) (pipe : PipeState) (k : KernelState) (attempt : Attempt) (passed : List Trigger) → Walking Fits k attempt stop passed → Leaves P k (walks.attempted_by stop pipe k attempt passed)
  attempted_by (stops.Arrive at) pipe k attempt passed w = record { well = keeps.arrived k attempt at passed w }
  attempted_by (stops.Block token) pipe k attempt passed w = in_either_case k (is_full k.waits) _ _ (fails k _) (record { well = keeps.joined k attempt token passed w })
  attempted_by (stops.Missing trigger) pipe k attempt passed w = notifies (attach_of k trigger.fs) pipe k attempt trigger passed w refl
  attempted_by (stops.Refuse e) pipe k attempt passed w = fails k e

  -- in a scene whose tokens are the kernel's
  attempted_with : (scene : Scene) (pipe : PipeState) (k : KernelState) (attempt : Attempt) → scene.triggers.autofs ≡ k.triggers.autofs → IsIdleWalker k attempt.walker → Fits attempt.path → IsOrderly k.waits.tokens (walk_of scene attempt.ns attempt.path) →
      Leaves P k (walks.attempted_with (walk_of scene attempt.ns attempt.path) pipe k attempt)
  attempted_with scene pipe k attempt same free path well =
      let walked = walk_of scene attempt.ns attempt.path in
      attempted_by walked.stop pipe k attempt walked.passed (record { free = free; path = path; scene = scene; autofs = same; stop_is = refl; passed_is = refl; passes = well.passes; stops = well.stops })

  pub walk : (pipe : PipeState) (k : KernelState) (attempt : Attempt) → Fits attempt.path → Leaves P k (walks.walk_at pipe k attempt)
  walk pipe k attempt path =
      where_false k (is_busy k attempt.walker) _ _ (fails k _)
      (λ idle. attempted_with (scene_of k attempt.moment) pipe k attempt refl (not_busy k attempt.walker idle) path (orderly k.waits.tokens (scene_of k attempt.moment) refl attempt.ns attempt.path))

  -- ---- an expiry is asked for

  expires_by : (pipe : PipeState) (k : KernelState) (walker fs moment : ℕ) (immediate : Bool) (trigger : Trigger) (attach : ℕ) → Expires k walker fs moment immediate trigger attach → Leaves P k (expires.expires_by pipe k walker trigger attach)
  expires_by Room k walker fs moment immediate trigger attach x = record { well = keeps.expiring k walker fs moment immediate trigger attach x }
  expires_by Full k walker fs moment immediate trigger attach x = fails k _
  expires_by Gone k walker fs moment immediate trigger attach x = closes k _ trigger.fs

  expires_next : (next : Option Trigger) (pipe : PipeState) (k : KernelState) (walker fs moment : ℕ) (immediate : Bool) (attach : ℕ) → IsIdleWalker k walker → attach_of k fs ≡ Some attach → expires.next_of k fs moment immediate ≡ next →
      Leaves P k (expires.expires_next next pipe k walker attach)
  expires_next None pipe k walker fs moment immediate attach free is e = fails k _
  expires_next (Some trigger) pipe k walker fs moment immediate attach free is e =
      in_either_case k (is_exhausted k.waits) _ _ (fails k _)
      (in_either_case k (is_full k.waits) _ _ (fails k _) (expires_by pipe k walker fs moment immediate trigger attach (record { free = free; current = is; next = e })))

  expires_under : (attach : Option ℕ) (pipe : PipeState) (k : KernelState) (walker fs moment : ℕ) (immediate : Bool) → IsIdleWalker k walker → attach_of k fs ≡ attach →
      Leaves P k (expires.expires_under attach pipe k walker (expires.next_of k fs moment immediate))
  expires_under None pipe k walker fs moment immediate free is = fails k _
  expires_under (Some attach) pipe k walker fs moment immediate free is = expires_next (expires.next_of k fs moment immediate) pipe k walker fs moment immediate attach free is refl

  pub expire : (pipe : PipeState) (k : KernelState) (walker fs moment : ℕ) (immediate : Bool) → Leaves P k (expires.expire_at pipe k walker fs moment immediate)
  expire pipe k walker fs moment immediate =
      in_either_case k (is_none (autofs_of k.triggers fs)) _ _ (fails k _)
      (where_false k (is_busy k walker) _ _ (fails k _) (λ idle. expires_under (attach_of k fs) pipe k walker fs moment immediate (not_busy k walker idle) refl))

  -- ---- a walker goes on

  or_failed : (o : CallOutcome) (k : KernelState) → Leaves P k o → Leaves P k (resumes.or_failed o k)
  or_failed (Proceeds progress shown made) k h = h
  or_failed (Fails e) k h = nothing k _

  after_collecting : (o : CallOutcome) (k : KernelState) (kind : TokenKind) (wait : WaitRow) (status : Status) (moment : ℕ) → IsGiven k wait status → Leaves P (resumes.wait_collected_from kind wait moment k) o → Leaves P k o
  after_collecting (Proceeds progress shown made) k kind wait status moment g h = record { well = keeps.collected k kind wait status moment shown made g h.well }
  after_collecting (Fails e) k kind wait status moment g h = fails k e

  again : (kind : TokenKind) (pipe : PipeState) (k : KernelState) (wait : WaitRow) (status : Status) (row : WalkRow) (moment : ℕ) → IsGiven k wait status → row.walker ≡ wait.walker → Fits row.path →
      Leaves P k (resumes.retry pipe k (resumes.wait_collected_from kind wait moment k) row moment)
  again kind pipe k wait status row moment g same path =
      let base = resumes.wait_collected_from kind wait moment k in
      let attempt = resumes.next_attempt row moment in
      after_collecting (resumes.retry pipe k base row moment) k kind wait status moment g
      (in_either_case base (nat_le resumes.max_attempts row.attempts) _ _ (nothing base _)
      (or_failed (walks.attempted_with (walk_of (scene_of k moment) row.ns row.path) pipe base attempt) base
      (attempted_with (scene_of k moment) pipe base attempt (autofs_in kind k wait moment) (freed_free kind k wait status moment row.walker g same) path (orderly_in kind k wait row moment))))

  resumed_as : (kind : TokenKind) (status : Status) (pipe : PipeState) (k : KernelState) (wait : WaitRow) (row : WalkRow) (moment : ℕ) → IsGiven k wait status → row.walker ≡ wait.walker → Fits row.path →
      Leaves P k (resumes.resumed_as kind status pipe k wait row moment)
  resumed_as Missing (Fail error) pipe k wait row moment g same path = after_collecting (resumes.failed (errno_of error) (resumes.wait_collected_from Missing wait moment k)) k Missing wait (Fail error) moment g (nothing _ _)
  resumed_as Missing Ready pipe k wait row moment g same path = again Missing pipe k wait Ready row moment g same path
  resumed_as Expire status pipe k wait row moment g same path = again Expire pipe k wait status row moment g same path

  expired_as : (status : Status) (k : KernelState) → Leaves P k (resumes.expired_as status k)
  expired_as Ready k = nothing k _
  expired_as (Fail error) k = nothing k _

  expiry_finished_as : (kind : TokenKind) (status : Status) (k : KernelState) (wait : WaitRow) (moment : ℕ) → IsGiven k wait status → Leaves P k (resumes.expiry_finished_as kind status k wait moment)
  expiry_finished_as Missing status k wait moment g = fails k _
  expiry_finished_as Expire status k wait moment g =
      let base = resumes.wait_collected_from Expire wait moment k in
      after_collecting (resumes.expired_as status base) k Expire wait status moment g (expired_as status base)

  -- what is known of the paths of the walks that wait
  abbrev FitWalks : KernelState → Type 0
  FitWalks k = (walker : ℕ) (row : WalkRow) → resumes.walk_in k.walks walker ≡ Some row → Fits row.path

  resumed_walk : (row : Option WalkRow) (status : Status) (pipe : PipeState) (k : KernelState) (wait : WaitRow) (moment : ℕ) → FitWalks k → IsGiven k wait status → resumes.walk_in k.walks wait.walker ≡ row →
      Leaves P k (resumes.resumed_walk row status pipe k wait moment)
  resumed_walk None status pipe k wait moment paths g e = expiry_finished_as wait.kind status k wait moment g
  resumed_walk (Some row) status pipe k wait moment paths g e =
      resumed_as wait.kind status pipe k wait row moment g (equal_by_test row.walker wait.walker (found_passes (λ (r : WalkRow). r.walker == wait.walker) k.walks row e)) (paths wait.walker row e)

  resumed_by : (status : Option Status) (pipe : PipeState) (k : KernelState) (wait : WaitRow) (moment : ℕ) → FitWalks k → wait.status ≡ status → wait_of k.waits.waits wait.walker ≡ Some wait → mount_of_walker k.uses wait.walker ≡ None →
      Leaves P k (resumes.resumed_by status pipe k wait moment)
  resumed_by None pipe k wait moment paths given is outside = fails k _
  resumed_by (Some status) pipe k wait moment paths given is outside =
      resumed_walk (resumes.walk_in k.walks wait.walker) status pipe k wait moment paths (record { waits = is; given = given; outside = outside }) refl

  resumed_at : (wait : Option WaitRow) (pipe : PipeState) (k : KernelState) (walker moment : ℕ) → FitWalks k → wait_of k.waits.waits walker ≡ wait → mount_of_walker k.uses walker ≡ None → Leaves P k (resumes.resumed_at wait pipe k moment)
  resumed_at None pipe k walker moment paths e outside = fails k _
  resumed_at (Some wait) pipe k walker moment paths e outside =
      let same = sym (equal_by_test wait.walker walker (found_passes (λ (r : WaitRow). r.walker == walker) k.waits.waits wait e)) in
      resumed_by wait.status pipe k wait moment paths refl (subst (λ (w : ℕ). wait_of k.waits.waits w ≡ Some wait) same e) (subst (λ (w : ℕ). mount_of_walker k.uses w ≡ None) same outside)

  pub resume : (pipe : PipeState) (k : KernelState) (walker moment : ℕ) → FitWalks k → Leaves P k (resumes.resume_at pipe k walker moment)
  resume pipe k walker moment paths =
      where_false k (is_some (mount_of_walker k.uses walker)) _ _ (fails k _)
      (λ outside. resumed_at (wait_of k.waits.waits walker) pipe k walker moment paths refl (is_none_of (mount_of_walker k.uses walker) outside))

-- two relations at once
abbrev pub Both : (KernelState → List Obs → KernelState → Type 0) → (KernelState → List Obs → KernelState → Type 0) → KernelState → List Obs → KernelState → Type 0
Both P Q k shown made = P k shown made × Q k shown made

pub both : (Fits : List (List ℕ) → Type 0) (P Q : KernelState → List Obs → KernelState → Type 0) → Keeps Fits P → Keeps Fits Q → Keeps Fits (Both P Q)
both Fits P Q p q = record {
  nothing = λ k. (p.nothing k, q.nothing k);
  arrived = λ k attempt at passed w. (p.arrived k attempt at passed w, q.arrived k attempt at passed w);
  joined = λ k attempt token passed w. (p.joined k attempt token passed w, q.joined k attempt token passed w);
  notified = λ k attempt trigger attach passed w is. (p.notified k attempt trigger attach passed w is, q.notified k attempt trigger attach passed w is);
  expiring = λ k walker fs moment immediate trigger attach x. (p.expiring k walker fs moment immediate trigger attach x, q.expiring k walker fs moment immediate trigger attach x);
  made_catatonic = λ k fs. (p.made_catatonic k fs, q.made_catatonic k fs);
  collected = λ k kind wait status moment shown made g later. (p.collected k kind wait status moment shown made g later.0, q.collected k kind wait status moment shown made g later.1);
}

-- where nothing is asked of paths
abbrev pub AnyPath : List (List ℕ) → Type 0
AnyPath path = Unit {0}

-- where nothing is asked of what walkers do
abbrev pub AnyMove : KernelState → List Obs → KernelState → Type 0
AnyMove k shown made = Unit {0}

pub any_move : (Fits : List (List ℕ) → Type 0) → Keeps Fits AnyMove
any_move Fits = record {
  nothing = λ k. tt;
  arrived = λ k attempt at passed w. tt;
  joined = λ k attempt token passed w. tt;
  notified = λ k attempt trigger attach passed w is. tt;
  expiring = λ k walker fs moment immediate trigger attach x. tt;
  made_catatonic = λ k fs. tt;
  collected = λ k kind wait status moment shown made g later. tt;
}
