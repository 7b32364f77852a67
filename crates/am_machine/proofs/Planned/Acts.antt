-- What jobs have left to do stays the rest of a plan for their trigger.
use Rattle.std.proofs.Common.{◌≡◌, ◌⊎◌, ◌∙◌, ◌==◌, ℕ, Bool, true, false, List, [], ◌∷◌, Some, refl, ap, inl, inr}
use Rattle.std.specs.Prelude.{is_some, not, if◌then◌else◌}
use Rattle.std.proofs.lemmas.List.Elements.{All-nil, All-cons, All-head, All-tail}
use Rattle.am_names.specs.{Status}
use Rattle.am_job.specs.{Act, Outcome, Plan, Ended, Next, next_of, rest_of, IsEnded, AcknowledgesLast}
use Rattle.am_job.specs.declared.act.Act.TheVariants as act
use Rattle.am_job.specs.declared.act.Outcome.TheVariants.{Done}
use Rattle.am_job.proofs.PlanLemmas.{rest_lawful}
use Rattle.am_daemon.specs.{JobPlan, walked, is_ended, going, finished_in}
use Rattle.am_machine.specs.{IsPlanned, ArePlanned}
use Rattle.am_machine.proofs.Planned.Rests.{goes_on_rest}

-- ---- when a job ends

abbrev pub acknowledges : Act → Bool
acknowledges (act.Reply status) = true
acknowledges _ = false

goes_left : (plan : Plan) → AcknowledgesLast plan → not (is_some (next_of plan)) ≡ false
goes_left Ended h = absurd h
goes_left (Next a rest) h = refl

act_left : (rest : Outcome → Plan) (a : Act) (outcome : Outcome) → AcknowledgesLast (Next a rest) → acknowledges a ≡ false → not (is_some (next_of (rest outcome))) ≡ false
act_left rest (act.Reply status) outcome h e = absurd cc
act_left rest a outcome h e = goes_left (rest outcome) (h outcome)

-- a job goes on after each act but an acknowledgement
pub goes_after : (plan : Plan) (outcome : Outcome) (a : Act) → AcknowledgesLast plan → next_of plan ≡ Some a → acknowledges a ≡ false → not (is_some (next_of (rest_of outcome plan))) ≡ false
goes_after Ended outcome a h e r = absurd h
goes_after (Next b rest) outcome a h e r =
    let same : b ≡ a = cc in
    act_left rest b outcome h (ap acknowledges same ∙ r)

no_next_where_ended : (rest : Plan) → IsEnded rest → not (is_some (next_of rest)) ≡ true
no_next_where_ended Ended h = refl
no_next_where_ended (Next a rest) h = absurd h

reply_ended : (rest : Outcome → Plan) (b : Act) (status : Status) → b ≡ act.Reply status → AcknowledgesLast (Next b rest) → IsEnded (rest Done)
reply_ended rest (act.Reply other) status e l = l Done
reply_ended rest b status e l = absurd cc

-- and ends with that
pub ends_after : (plan : Plan) (status : Status) → AcknowledgesLast plan → next_of plan ≡ Some (act.Reply status) → not (is_some (next_of (rest_of Done plan))) ≡ true
ends_after Ended status h e = absurd h
ends_after (Next b rest) status h e =
    let same : b ≡ act.Reply status = cc in
    no_next_where_ended (rest Done) (reply_ended rest b status same h)

-- ---- the jobs

-- a plan that hasn't ended has still to acknowledge
still_last : (plan : Plan) → not (is_some (next_of plan)) ≡ false → IsEnded plan ⊎ AcknowledgesLast plan → AcknowledgesLast plan
still_last plan going (inr last) = last
still_last Ended going (inl ended) = absurd cc
still_last (Next a rest) going (inl ended) = absurd ended

walked_planned : (row : JobPlan) (outcome : Outcome) → IsPlanned row → is_ended (walked outcome row) ≡ false → IsPlanned (walked outcome row)
walked_planned row outcome h going =
    let plan = rest_of outcome row.plan in
    let lawful = rest_lawful row.plan outcome (record { acknowledges = inr h.last; claims_right = h.claims_right }) in
    record {
      last = still_last plan going lawful.acknowledges;
      claims_right = lawful.claims_right;
      rest = goes_on_rest row.trigger row.plan outcome h.rest;
    }

-- a job that has ended is gone
going_planned : (ended : Bool) (row : JobPlan) (jobs : List JobPlan) → (ended ≡ false → IsPlanned row) → ArePlanned jobs → ArePlanned (if ended then jobs else row ∷ jobs)
going_planned true row jobs p h = h
going_planned false row jobs p h = All-cons IsPlanned row jobs (p refl) h

planned_by_cases : (outcome : Outcome) (row : JobPlan) (jobs left : List JobPlan) (b : Bool) → IsPlanned row → ArePlanned jobs → ArePlanned left → ArePlanned (if b then going (walked outcome row) jobs else row ∷ left)
planned_by_cases outcome row jobs left true p h later = going_planned (is_ended (walked outcome row)) (walked outcome row) jobs (walked_planned row outcome p) h
planned_by_cases outcome row jobs left false p h later = All-cons IsPlanned row left p later

pub finished_planned : (job : ℕ) (outcome : Outcome) (jobs : List JobPlan) → ArePlanned jobs → ArePlanned (finished_in job outcome jobs)
finished_planned job outcome [] h = All-nil IsPlanned
finished_planned job outcome (row ∷ jobs) h =
    let rest = All-tail IsPlanned row jobs h in
    planned_by_cases outcome row jobs (finished_in job outcome jobs) (row.token == job) (All-head IsPlanned row jobs h) rest (finished_planned job outcome jobs rest)
