-- The plan of the acts that a job has left: own choice (docs/DECISIONS.md, "`am_daemon` keeps a
-- job as `am_job` has it"). What comes after an act is a function of its outcome, so a job keeps
-- the next act and a word for that function.
use Rattle.std.specs.Prelude.{None}
use Rattle.am_names.specs.declared.trigger.Trigger.{Trigger}
use Rattle.am_job.specs.declared.act.Outcome.{Outcome}
use Rattle.am_job.specs.declared.left.Left.{Left}
use Rattle.am_job.specs.declared.left.Left.TheVariants as left
use Rattle.am_job.specs.declared.left.Later.{Later}
use Rattle.am_job.specs.declared.left.Later.TheVariants as later
use Rattle.am_job.specs.Plans.{Plan, Ended, Next, reply, book_and_reply, mount_entry, rest_of_mount, rest_of_umount}

-- what is left when this has come of the act before
abbrev pub after : Trigger → Later → Outcome → Plan
after trigger later.Nothing outcome = Ended
after trigger (later.Reply status) outcome = reply status
after trigger (later.RecordNone status) outcome = book_and_reply trigger None status
after trigger (later.Mount entry) outcome = mount_entry trigger entry
after trigger later.AfterMount outcome = rest_of_mount trigger outcome
after trigger (later.AfterUmount mount) outcome = rest_of_umount trigger mount outcome

-- the plan of what is left
abbrev pub plan_left : Trigger → Left → Plan
plan_left trigger left.Ended = Ended
plan_left trigger (left.Next a then) = Next a (after trigger then)
