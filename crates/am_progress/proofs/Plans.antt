-- A job acts on its own trigger, unmounts first, if it does, mounts behind its directory, and has few acts.
use Rattle.std.proofs.Common.{◌≡◌, ◌⊎◌, ℕ, zero, suc, Bool, true, false, List, [], ◌∷◌, ◌++◌, Option, Some, None, refl, sym, ap, subst, inl, inr, ◌∙◌}
use Rattle.std.specs.Prelude.{⊤, ◌==◌, is_some, if◌then◌else◌}
use Rattle.std.specs.List.{All}
use Rattle.std.proofs.lemmas.List.Elements.{All-nil, All-cons, All-head, All-tail, All-push}
use Rattle.am_names.specs.declared.fail_no.FailNo.TheVariants.{ENOENT}
use Rattle.am_names.specs.declared.trigger.Trigger.{Trigger}
use Rattle.am_names.specs.{Status, TokenKind}
use Rattle.am_names.specs.declared.trigger.Status.TheVariants.{Ready, Fail}
use Rattle.am_names.specs.declared.row.TokenKind.TheVariants.{Missing, Expire}
use Rattle.am_names.proofs.Basics.{some_injective}
use Rattle.am_map.specs.EntryText.{EntryText}
use Rattle.am_wire.specs.{Packet, token_kind}
use Rattle.am_state.specs.{Record}
use Rattle.am_state.specs.declared.daemon_row.Record.TheVariants.{Mounted}
use Rattle.am_job.specs.{Act, Outcome, Plan, Ended, Next, next_of, rest_of, reply, book_and_reply, at_directory, after_mount, without_mount, rest_of_mount, mount_entry, after_failed_umount, rest_of_umount, unmounting, plan_for}
use Rattle.am_job.specs.Plans.{followed_by}
use Rattle.am_job.specs.declared.act.Act.TheVariants as act
use Rattle.am_job.specs.declared.act.Outcome.TheVariants.{Done, Made, Failed}
use Rattle.am_daemon.specs.{DaemonState, JobPlan, walked, is_ended, going, finished_in, job_for, trigger_of, mounted_for, plan_of_packet, entry_of}
use Rattle.am_progress.specs.{HasActs, most_acts, HasFewActs, is_to_mount}

-- ---- whose acts they are

-- the act is on this trigger, and a directory is made or removed only where it has a name
abbrev pub IsOwn : Trigger → Act → Type 0
IsOwn g (act.Mkdir trigger) = (trigger ≡ g) × (is_some g.name ≡ true)
IsOwn g (act.Mount trigger entry) = trigger ≡ g
IsOwn g (act.Umount trigger) = trigger ≡ g
IsOwn g (act.Rmdir trigger) = (trigger ≡ g) × (is_some g.name ≡ true)
IsOwn g (act.Record trigger entry) = ⊤
IsOwn g (act.Reply status) = ⊤

-- so it is of each act that is left
abbrev pub AreOwn : Trigger → Plan → Type 0
AreOwn g Ended = ⊤
AreOwn g (Next a rest) = IsOwn g a × ((o : Outcome) → AreOwn g (rest o))

pub next_own : (g : Trigger) (plan : Plan) (a : Act) → AreOwn g plan → next_of plan ≡ Some a → IsOwn g a
next_own g Ended a h e = absurd cc
next_own g (Next b rest) a h e = let same : b ≡ a = cc in subst (IsOwn g) same h.0

rest_own : (g : Trigger) (plan : Plan) (outcome : Outcome) → AreOwn g plan → AreOwn g (rest_of outcome plan)
rest_own g Ended outcome h = tt
rest_own g (Next a rest) outcome h = h.1 outcome

reply_own : (g : Trigger) (status : Status) → AreOwn g (reply status)
reply_own g status = (tt, λ o. tt)

book_own : (g : Trigger) (entry : Option Record) (status : Status) → AreOwn g (book_and_reply g entry status)
book_own g entry status = (tt, λ o. reply_own g status)

mkdir_own : (g : Trigger) (name : Option (List ℕ)) (rest : Plan) → g.name ≡ name → AreOwn g rest → AreOwn g (at_directory name (act.Mkdir g) rest)
mkdir_own g None rest e h = h
mkdir_own g (Some name) rest e h = ((refl, rw e refl), λ o. h)

rmdir_own : (g : Trigger) (name : Option (List ℕ)) (rest : Plan) → g.name ≡ name → AreOwn g rest → AreOwn g (at_directory name (act.Rmdir g) rest)
rmdir_own g None rest e h = h
rmdir_own g (Some name) rest e h = ((refl, rw e refl), λ o. h)

after_mount_own : (g : Trigger) (o : Outcome) → AreOwn g (rest_of_mount g o)
after_mount_own g (Made mount) = book_own g (Some (Mounted mount)) Ready
after_mount_own g (Failed error) = rmdir_own g g.name (without_mount g error) refl (book_own g None (Fail error))
after_mount_own g Done = rmdir_own g g.name (without_mount g ENOENT) refl (book_own g None (Fail ENOENT))

after_umount_own : (g : Trigger) (mount : ℕ) (o : Outcome) → AreOwn g (rest_of_umount g mount o)
after_umount_own g mount (Failed error) = book_own g (Some (Mounted mount)) (Fail error)
after_umount_own g mount o = rmdir_own g g.name (book_and_reply g None Ready) refl (book_own g None Ready)

plan_own : (kind : TokenKind) (g : Trigger) (mounted : Option ℕ) (entry : Option EntryText) → AreOwn g (plan_for kind g mounted entry)
plan_own Missing g (Some mount) entry = reply_own g Ready
plan_own Missing g None (Some entry) = mkdir_own g g.name (mount_entry g entry) refl (refl, after_mount_own g)
plan_own Missing g None None = book_own g None (Fail ENOENT)
plan_own Expire g (Some mount) entry = (refl, after_umount_own g mount)
plan_own Expire g None entry = reply_own g (Fail ENOENT)

-- ---- an unmount is the first act

abbrev IsNoUmount : Act → Type 0
IsNoUmount (act.Umount trigger) = ⊥
IsNoUmount a = ⊤

-- nothing is unmounted
abbrev MountsAll : Plan → Type 0
MountsAll Ended = ⊤
MountsAll (Next a rest) = IsNoUmount a × ((o : Outcome) → MountsAll (rest o))

-- the plan is that of an unmount as a whole, or nothing is unmounted
abbrev pub IsWholeUmount : Trigger → Plan → Type 0
IsWholeUmount g plan = ((mount : ℕ) × (plan ≡ unmounting g mount)) ⊎ MountsAll plan

reply_mounts : (status : Status) → MountsAll (reply status)
reply_mounts status = (tt, λ o. tt)

book_mounts : (g : Trigger) (entry : Option Record) (status : Status) → MountsAll (book_and_reply g entry status)
book_mounts g entry status = (tt, λ o. reply_mounts status)

directory_mounts : (name : Option (List ℕ)) (a : Act) (rest : Plan) → IsNoUmount a → MountsAll rest → MountsAll (at_directory name a rest)
directory_mounts None a rest plain h = h
directory_mounts (Some name) a rest plain h = (plain, λ o. h)

after_mount_mounts : (g : Trigger) (o : Outcome) → MountsAll (rest_of_mount g o)
after_mount_mounts g (Made mount) = book_mounts g (Some (Mounted mount)) Ready
after_mount_mounts g (Failed error) = directory_mounts g.name (act.Rmdir g) (without_mount g error) tt (book_mounts g None (Fail error))
after_mount_mounts g Done = directory_mounts g.name (act.Rmdir g) (without_mount g ENOENT) tt (book_mounts g None (Fail ENOENT))

after_umount_mounts : (g : Trigger) (mount : ℕ) (o : Outcome) → MountsAll (rest_of_umount g mount o)
after_umount_mounts g mount (Failed error) = book_mounts g (Some (Mounted mount)) (Fail error)
after_umount_mounts g mount o = directory_mounts g.name (act.Rmdir g) (book_and_reply g None Ready) tt (book_mounts g None Ready)

plan_umounts : (kind : TokenKind) (g : Trigger) (mounted : Option ℕ) (entry : Option EntryText) → IsWholeUmount g (plan_for kind g mounted entry)
plan_umounts Missing g (Some mount) entry = inr (reply_mounts Ready)
plan_umounts Missing g None (Some entry) = inr (directory_mounts g.name (act.Mkdir g) (mount_entry g entry) tt (tt, after_mount_mounts g))
plan_umounts Missing g None None = inr (book_mounts g None (Fail ENOENT))
plan_umounts Expire g (Some mount) entry = inl (mount, refl)
plan_umounts Expire g None entry = inr (reply_mounts (Fail ENOENT))

rest_mounts : (plan : Plan) (outcome : Outcome) → MountsAll plan → MountsAll (rest_of outcome plan)
rest_mounts Ended outcome h = tt
rest_mounts (Next a rest) outcome h = h.1 outcome

rest_umounts : (g : Trigger) (plan : Plan) (outcome : Outcome) → IsWholeUmount g plan → IsWholeUmount g (rest_of outcome plan)
rest_umounts g plan outcome (inl whole) = inr (subst (λ (p : Plan). MountsAll (rest_of outcome p)) (sym whole.1) (after_umount_mounts g whole.0 outcome))
rest_umounts g plan outcome (inr none) = inr (rest_mounts plan outcome none)

no_umount : (plan : Plan) (g : Trigger) → MountsAll plan → next_of plan ≡ Some (act.Umount g) → ⊥
no_umount Ended g h e = absurd cc
no_umount (Next a rest) g h e =
    let same : a ≡ act.Umount g = cc in
    subst IsNoUmount same h.0

-- a plan whose next act is an unmount is that of an unmount as a whole
pub umount_whole : (g on : Trigger) (plan : Plan) → IsWholeUmount g plan → next_of plan ≡ Some (act.Umount on) → (mount : ℕ) × (plan ≡ unmounting g mount)
umount_whole g on plan (inl whole) e = whole
umount_whole g on plan (inr none) e = absurd (no_umount plan on none e)

-- ---- a mount comes after its directory, and then nothing is mounted

abbrev IsNoMount : Act → Type 0
IsNoMount (act.Mkdir trigger) = ⊥
IsNoMount (act.Mount trigger entry) = ⊥
IsNoMount a = ⊤

-- nothing is mounted
abbrev MountsNothing : Plan → Type 0
MountsNothing Ended = ⊤
MountsNothing (Next a rest) = IsNoMount a × ((o : Outcome) → MountsNothing (rest o))

-- the plan is that of a mount as a whole, with its directory or behind it, or nothing is mounted
abbrev pub IsWholeMount : Trigger → Plan → Type 0
IsWholeMount g plan =
    ((entry : EntryText) × (plan ≡ followed_by (act.Mkdir g) (mount_entry g entry)))
    ⊎ (((entry : EntryText) × (plan ≡ mount_entry g entry)) ⊎ MountsNothing plan)

reply_mounts_nothing : (status : Status) → MountsNothing (reply status)
reply_mounts_nothing status = (tt, λ o. tt)

book_mounts_nothing : (g : Trigger) (entry : Option Record) (status : Status) → MountsNothing (book_and_reply g entry status)
book_mounts_nothing g entry status = (tt, λ o. reply_mounts_nothing status)

directory_mounts_nothing : (name : Option (List ℕ)) (g : Trigger) (rest : Plan) → MountsNothing rest → MountsNothing (at_directory name (act.Rmdir g) rest)
directory_mounts_nothing None g rest h = h
directory_mounts_nothing (Some name) g rest h = (tt, λ o. h)

after_mount_nothing : (g : Trigger) (o : Outcome) → MountsNothing (rest_of_mount g o)
after_mount_nothing g (Made mount) = book_mounts_nothing g (Some (Mounted mount)) Ready
after_mount_nothing g (Failed error) = directory_mounts_nothing g.name g (without_mount g error) (book_mounts_nothing g None (Fail error))
after_mount_nothing g Done = directory_mounts_nothing g.name g (without_mount g ENOENT) (book_mounts_nothing g None (Fail ENOENT))

after_umount_nothing : (g : Trigger) (mount : ℕ) (o : Outcome) → MountsNothing (rest_of_umount g mount o)
after_umount_nothing g mount (Failed error) = book_mounts_nothing g (Some (Mounted mount)) (Fail error)
after_umount_nothing g mount o = directory_mounts_nothing g.name g (book_and_reply g None Ready) (book_mounts_nothing g None Ready)

mounting_whole : (g : Trigger) (entry : EntryText) (name : Option (List ℕ)) → IsWholeMount g (at_directory name (act.Mkdir g) (mount_entry g entry))
mounting_whole g entry None = inr (inl (entry, refl))
mounting_whole g entry (Some name) = inl (entry, refl)

plan_mounts : (kind : TokenKind) (g : Trigger) (mounted : Option ℕ) (entry : Option EntryText) → IsWholeMount g (plan_for kind g mounted entry)
plan_mounts Missing g (Some mount) entry = inr (inr (reply_mounts_nothing Ready))
plan_mounts Missing g None (Some entry) = mounting_whole g entry g.name
plan_mounts Missing g None None = inr (inr (book_mounts_nothing g None (Fail ENOENT)))
plan_mounts Expire g (Some mount) entry = inr (inr (tt, after_umount_nothing g mount))
plan_mounts Expire g None entry = inr (inr (reply_mounts_nothing (Fail ENOENT)))

rest_nothing : (plan : Plan) (outcome : Outcome) → MountsNothing plan → MountsNothing (rest_of outcome plan)
rest_nothing Ended outcome h = tt
rest_nothing (Next a rest) outcome h = h.1 outcome

rest_whole_mount : (g : Trigger) (plan : Plan) (outcome : Outcome) → IsWholeMount g plan → IsWholeMount g (rest_of outcome plan)
rest_whole_mount g plan outcome (inl whole) = inr (inl (whole.0, ap (rest_of outcome) whole.1))
rest_whole_mount g plan outcome (inr (inl whole)) = inr (inr (subst (λ (p : Plan). MountsNothing (rest_of outcome p)) (sym whole.1) (after_mount_nothing g outcome)))
rest_whole_mount g plan outcome (inr (inr none)) = inr (inr (rest_nothing plan outcome none))

-- a plan that mounts nothing is about to mount nothing
pub no_mount_left : (plan : Plan) → MountsNothing plan → is_to_mount (next_of plan) ≡ true → ⊥
no_mount_left Ended h about = absurd cc
no_mount_left (Next (act.Mkdir trigger) rest) h about = h.0
no_mount_left (Next (act.Mount trigger entry) rest) h about = h.0
no_mount_left (Next a rest) h about = absurd cc

-- ---- a mount comes first, or behind its directory

no_mount : (plan : Plan) (g : Trigger) (entry : EntryText) → MountsNothing plan → next_of plan ≡ Some (act.Mount g entry) → ⊥
no_mount Ended g entry h e = absurd cc
no_mount (Next a rest) g entry h e =
    let same : a ≡ act.Mount g entry = cc in
    subst IsNoMount same h.0

-- the act makes no directory
abbrev pub NoDirectory : Act → Type 0
NoDirectory (act.Mkdir trigger) = ⊥
NoDirectory a = ⊤

-- behind any act but the making of its directory no mount comes
pub no_mount_after : (g : Trigger) (plan : Plan) (outcome : Outcome) (a : Act) (h : Trigger) (entry : EntryText) → IsWholeMount g plan → next_of plan ≡ Some a → NoDirectory a → next_of (rest_of outcome plan) ≡ Some (act.Mount h entry) → ⊥
no_mount_after g plan outcome a h entry (inl whole) e other next =
    let same : a ≡ act.Mkdir g = some_injective (sym e ∙ ap next_of whole.1) in
    subst NoDirectory same other
no_mount_after g plan outcome a h entry (inr (inl whole)) e other next =
    no_mount (rest_of outcome plan) h entry (subst (λ (p : Plan). MountsNothing (rest_of outcome p)) (sym whole.1) (after_mount_nothing g outcome)) next
no_mount_after g plan outcome a h entry (inr (inr none)) e other next = no_mount (rest_of outcome plan) h entry (rest_nothing plan outcome none) next

-- nor does one come first where there is a directory to make
pub no_mount_first : (kind : TokenKind) (g : Trigger) (mounted : Option ℕ) (entry : Option EntryText) (name : Option (List ℕ)) (h : Trigger) (e : EntryText) → g.name ≡ name → next_of (plan_for kind g mounted entry) ≡ Some (act.Mount h e) → is_some name ≡ true → ⊥
no_mount_first Missing g (Some mount) entry name h e is next named = absurd cc
no_mount_first Missing g None (Some one) None h e is next named = absurd cc
no_mount_first Missing g None (Some one) (Some name) h e is next named =
    let first : Some (act.Mkdir g) ≡ Some (act.Mount h e) = sym (ap (λ (n : Option (List ℕ)). next_of (at_directory n (act.Mkdir g) (mount_entry g one))) is) ∙ next in
    absurd cc
no_mount_first Missing g None None name h e is next named = absurd cc
no_mount_first Expire g (Some mount) entry name h e is next named = absurd cc
no_mount_first Expire g None entry name h e is next named = absurd cc

-- ---- how many acts there are

pub more_acts : (most : ℕ) (plan : Plan) → HasActs most plan → HasActs (suc most) plan
more_acts most Ended h = tt
more_acts zero (Next a rest) h = absurd h
more_acts (suc most) (Next a rest) h = λ o. more_acts most (rest o) (h o)

rest_acts : (most : ℕ) (plan : Plan) (outcome : Outcome) → HasActs (suc most) plan → HasActs (suc most) (rest_of outcome plan)
rest_acts most Ended outcome h = tt
rest_acts most (Next a rest) outcome h = more_acts most (rest outcome) (h outcome)

directory_acts : (most : ℕ) (name : Option (List ℕ)) (a : Act) (rest : Plan) → HasActs most rest → HasActs (suc most) (at_directory name a rest)
directory_acts most None a rest h = more_acts most rest h
directory_acts most (Some name) a rest h = λ o. h

reply_acts : (status : Status) → HasActs 1 (reply status)
reply_acts status = λ o. tt

book_acts : (g : Trigger) (entry : Option Record) (status : Status) → HasActs 2 (book_and_reply g entry status)
book_acts g entry status = λ o. reply_acts status

after_mount_acts : (g : Trigger) (o : Outcome) → HasActs 3 (rest_of_mount g o)
after_mount_acts g (Made mount) = more_acts 2 (after_mount g mount) (book_acts g (Some (Mounted mount)) Ready)
after_mount_acts g (Failed error) = directory_acts 2 g.name (act.Rmdir g) (without_mount g error) (book_acts g None (Fail error))
after_mount_acts g Done = directory_acts 2 g.name (act.Rmdir g) (without_mount g ENOENT) (book_acts g None (Fail ENOENT))

after_umount_acts : (g : Trigger) (mount : ℕ) (o : Outcome) → HasActs 3 (rest_of_umount g mount o)
after_umount_acts g mount (Failed error) = more_acts 2 (after_failed_umount g mount error) (book_acts g (Some (Mounted mount)) (Fail error))
after_umount_acts g mount o = directory_acts 2 g.name (act.Rmdir g) (book_and_reply g None Ready) (book_acts g None Ready)

pub plan_acts : (kind : TokenKind) (g : Trigger) (mounted : Option ℕ) (entry : Option EntryText) → HasActs 5 (plan_for kind g mounted entry)
plan_acts Missing g (Some mount) entry = more_acts 4 (reply Ready) (more_acts 3 (reply Ready) (more_acts 2 (reply Ready) (more_acts 1 (reply Ready) (reply_acts Ready))))
plan_acts Missing g None (Some entry) = directory_acts 4 g.name (act.Mkdir g) (mount_entry g entry) (after_mount_acts g)
plan_acts Missing g None None =
    let plan = without_mount g ENOENT in
    more_acts 4 plan (more_acts 3 plan (more_acts 2 plan (book_acts g None (Fail ENOENT))))
plan_acts Expire g (Some mount) entry = more_acts 4 (unmounting g mount) (after_umount_acts g mount)
plan_acts Expire g None entry = let plan = reply (Fail ENOENT) in more_acts 4 plan (more_acts 3 plan (more_acts 2 plan (more_acts 1 plan (reply_acts (Fail ENOENT)))))

-- ---- the jobs

-- a job on its own trigger that unmounts first, if it does, mounts behind its directory, and has few acts left
pub record IsOfPlan (row : JobPlan) : Type 0 where
  pub own : AreOwn row.trigger row.plan
  pub umounts : IsWholeUmount row.trigger row.plan
  pub mounts : IsWholeMount row.trigger row.plan
  pub few : HasFewActs row

pub packet_plan : (d : DaemonState) (packet : Packet) → HasActs most_acts (plan_of_packet d packet)
packet_plan d packet = plan_acts (token_kind packet.kind) (trigger_of packet) (mounted_for d packet) (entry_of d (trigger_of packet))

pub job_of_plan : (attach : ℕ) (packet : Packet) (d : DaemonState) → IsOfPlan (job_for attach packet d)
job_of_plan attach packet d = record {
  own = plan_own (token_kind packet.kind) (trigger_of packet) (mounted_for d packet) (entry_of d (trigger_of packet));
  umounts = plan_umounts (token_kind packet.kind) (trigger_of packet) (mounted_for d packet) (entry_of d (trigger_of packet));
  mounts = plan_mounts (token_kind packet.kind) (trigger_of packet) (mounted_for d packet) (entry_of d (trigger_of packet));
  few = packet_plan d packet;
}

walked_of_plan : (row : JobPlan) (outcome : Outcome) → IsOfPlan row → IsOfPlan (walked outcome row)
walked_of_plan row outcome h = record {
  own = rest_own row.trigger row.plan outcome h.own;
  umounts = rest_umounts row.trigger row.plan outcome h.umounts;
  mounts = rest_whole_mount row.trigger row.plan outcome h.mounts;
  few = rest_acts 4 row.plan outcome h.few;
}

going_by_cases : (ended : Bool) (row : JobPlan) (jobs : List JobPlan) → IsOfPlan row → All IsOfPlan jobs → All IsOfPlan (if ended then jobs else row ∷ jobs)
going_by_cases true row jobs p h = h
going_by_cases false row jobs p h = All-cons IsOfPlan row jobs p h

finished_by_cases : (outcome : Outcome) (row : JobPlan) (jobs left : List JobPlan) (b : Bool) → IsOfPlan row → All IsOfPlan jobs → All IsOfPlan left → All IsOfPlan (if b then going (walked outcome row) jobs else row ∷ left)
finished_by_cases outcome row jobs left true p h later = going_by_cases (is_ended (walked outcome row)) (walked outcome row) jobs (walked_of_plan row outcome p) h
finished_by_cases outcome row jobs left false p h later = All-cons IsOfPlan row left p later

pub finished_of_plan : (job : ℕ) (outcome : Outcome) (jobs : List JobPlan) → All IsOfPlan jobs → All IsOfPlan (finished_in job outcome jobs)
finished_of_plan job outcome [] h = All-nil IsOfPlan
finished_of_plan job outcome (row ∷ jobs) h =
    let rest = All-tail IsOfPlan row jobs h in
    finished_by_cases outcome row jobs (finished_in job outcome jobs) (row.token == job) (All-head IsOfPlan row jobs h) rest (finished_of_plan job outcome jobs rest)

pub taken_of_plan : (attach : ℕ) (packet : Packet) (d : DaemonState) → All IsOfPlan d.jobs → All IsOfPlan (d.jobs ++ job_for attach packet d ∷ [])
taken_of_plan attach packet d h = All-push IsOfPlan d.jobs (job_for attach packet d) h (job_of_plan attach packet d)
