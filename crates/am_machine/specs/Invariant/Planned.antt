-- What a job has left to do (own choice).
use Rattle.std.specs.Prelude.{◌≡◌, ⊤, Bool, true, false, List}
use Rattle.std.specs.List.{All}
use Rattle.am_names.specs.declared.trigger.Trigger.{Trigger}
use Rattle.am_job.specs.{Act, Outcome, Plan, Ended, Next, IsEnded, AcknowledgesLast, ClaimsRight}
use Rattle.am_job.specs.declared.act.Act.TheVariants as act
use Rattle.am_job.specs.declared.act.Outcome.TheVariants.{Done}
use Rattle.am_daemon.specs.{JobPlan, is_pending}

-- The acts that are left write the book where those before are done. In the rest of a plan they do
-- whatever comes of those (`IsRest`).
abbrev pub has_record_left : Plan → Bool
has_record_left Ended = false
has_record_left (Next (act.Record trigger entry) rest) = true
has_record_left (Next (act.Reply status) rest) = false
has_record_left (Next a rest) = has_record_left (rest Done)

-- What may come after an act. What a job mounts, unmounts and writes is on its own trigger. The
-- record is written once, as one that isn't pending; before that it is still to be written, and after
-- it no more. A reply is the last act.
abbrev pub Precedes : Trigger → Act → Plan → Type 0
Precedes g (act.Mkdir trigger) rest = has_record_left rest ≡ true
Precedes g (act.Mount trigger entry) rest = (trigger ≡ g) × (has_record_left rest ≡ true)
Precedes g (act.Umount trigger) rest = (trigger ≡ g) × (has_record_left rest ≡ true)
Precedes g (act.Rmdir trigger) rest = has_record_left rest ≡ true
Precedes g (act.Record trigger entry) rest =
    (trigger ≡ g) × (is_pending entry ≡ false) × (has_record_left rest ≡ false)
Precedes g (act.Reply status) rest = IsEnded rest

-- the acts are the rest of a plan for this trigger: so it is after each act, whatever comes of it
abbrev pub IsRest : Trigger → Plan → Type 0
IsRest g Ended = ⊤
IsRest g (Next a rest) = (o : Outcome) → Precedes g a (rest o) × IsRest g (rest o)

-- The notification is still to be acknowledged, once, last of all, so that no job in the list has
-- ended; what is left claims what is mounted, and is the rest of a plan for the job's trigger.
pub record IsPlanned (row : JobPlan) : Type 0 where
  pub last : AcknowledgesLast row.plan
  pub claims_right : ClaimsRight row.plan
  pub rest : IsRest row.trigger row.plan

-- each job is the rest of a plan
abbrev pub ArePlanned : List JobPlan → Type 0
ArePlanned jobs = All IsPlanned jobs
