-- What comes of a packet, by what came of the call.
use Rattle.std.proofs.Common.{◌≡◌, ℕ, ◌==◌, ◌||◌, Bool, true, false, cond, not, List, Option, Some, None, map, refl, ap, ◌∙◌}
use Rattle.std.specs.Prelude.{Result, Ok, Err, IfOk, OnOk, OnErr, find, is_some}
use Rattle.std.specs.Option.{option_map}
use Rattle.am_names.proofs.Basics.{none_where_not_some}
use Rattle.am_wire.specs.{Packet}
use Rattle.am_job.specs.{JobState, record_of}
use Rattle.am_daemon.specs.{DaemonFault, DaemonState, JobPlan, job_plan, job_of, job_for, knows, holds, is_pending, trigger_of, delivery_fault, taken_up, IsTakenUp}
use Rattle.am_daemon.specs.declared.fault.DaemonFault.TheVariants.{UnknownFs, OldAttach, Busy}
use Rattle.am_daemon.proofs.JobLemmas.{find_mapped}

pub left_as : (attach : ℕ) (packet : Packet) (old new : DaemonState) (outcome : Result ℕ DaemonFault) →
    IfOk outcome (λ job. job ≡ packet.token) → OnOk outcome (new ≡ taken_up attach packet old) → OnErr outcome (new ≡ old) →
    IsTakenUp attach (Ok packet) old outcome new
left_as attach packet old new (Ok job) token up same = (token, up)
left_as attach packet old new (Err fault) token up same = same

-- ---- the token of a packet that passes all tests

no_job_of_it : (attach : ℕ) (packet : Packet) (d : DaemonState) → delivery_fault attach packet d ≡ None → job_of d.jobs packet.token ≡ None
no_job_of_it attach packet d passes =
    by (knows d packet.dev) (holds d packet.dev attach) (is_pending (record_of d.book (trigger_of packet))) (is_some (job_of d.jobs packet.token)) refl passes
  where
    by : (known held pending there : Bool) → is_some (job_of d.jobs packet.token) ≡ there →
        cond (not known) (Some UnknownFs) (cond (not held) (Some OldAttach) (cond (pending || there) (Some Busy) None)) ≡ None →
        job_of d.jobs packet.token ≡ None
    by known held pending false e h = none_where_not_some _ e
    by false held pending true e h = absurd cc
    by true false pending true e h = absurd cc
    by true true true true e h = absurd cc
    by true true false true e h = absurd cc

none_made : {A B : Type 0} (f : A → B) (o : Option A) → option_map f o ≡ None → o ≡ None
none_made f None h = refl
none_made f (Some x) h = absurd cc

pub fresh_job : (attach : ℕ) (packet : Packet) (d : DaemonState) (rows : List JobState) (job : JobState) →
    map job_plan rows ≡ d.jobs → job_plan job ≡ job_for attach packet d → delivery_fault attach packet d ≡ None →
    find (λ (row : JobState). row.token == job.token) rows ≡ None
fresh_job attach packet d rows job kept made passes =
    none_made job_plan (find (λ (row : JobState). row.token == job.token) rows)
    (find_mapped job_plan (λ (row : JobPlan). row.token == job.token) rows
    ∙ ap (λ (jobs : List JobPlan). job_of jobs job.token) kept
    ∙ ap (λ (row : JobPlan). job_of d.jobs row.token) made
    ∙ no_job_of_it attach packet d passes)
