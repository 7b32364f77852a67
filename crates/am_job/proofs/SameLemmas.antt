-- Records that `==` tells apart, and what is left of a plan.
use Rattle.std.proofs.Common.{rules, tests, ◌≡◌, ℕ, List, Option, Some, None, refl, ap}
use Rattle.std.specs.Bool.{Decides}
use Rattle.am_names.specs.declared.trigger.Trigger.{Trigger}
use Rattle.am_names.specs.declared.fail_no.FailNo.TheVariants.{ENOENT}
use Rattle.am_state.specs.{Record}
use Rattle.am_state.specs.contracts.daemon_row.RecordPartialEq.TheImpl.{eq-value as record_eq}
use Rattle.am_state.specs.declared.daemon_row.Record.TheVariants.{Mounting, Mounted, Unmounting}
use Rattle.am_job.specs.declared.act.Act.TheVariants as act
use Rattle.am_job.specs.declared.act.Outcome.TheVariants.{Done, Made, Failed}
use Rattle.am_job.specs.declared.left.Left.{Left}
use Rattle.am_job.specs.declared.left.Left.TheVariants as left
use Rattle.am_job.specs.declared.left.Later.{Later}
use Rattle.am_job.specs.declared.left.Later.TheVariants as later
use Rattle.am_job.specs.Plans.{Plan, Ended, Next}
use Rattle.am_job.specs.Left.{plan_left, after}

-- `==` tells whether two records are the same
pub record_decides : (a b : Record) → Decides (record_eq.it a b) (a ≡ b)
record_decides a b = search (rules, tests)

-- ---- what comes after an act is known by what it comes to

-- the status of a plan that begins with its acknowledgement, else what stands for none
abbrev later_reply : Plan → Later
later_reply (Next (act.Reply status) rest) = later.RecordNone status
later_reply plan = later.Nothing

-- what comes after an act, where a failure comes to writing down that nothing is mounted: the mount
-- of an entry, if a mount is written down, else that alone
abbrev later_none : Plan → Plan → Later
later_none (Next (act.Record trigger (Some entry)) then) rest = later.AfterMount
later_none made rest = later_reply rest

-- what comes after an act, by the plans where it failed and where it made a mount
abbrev later_by : Plan → Plan → Later
later_by Ended made = later.Nothing
later_by (Next (act.Mkdir trigger) rest) made = later.Nothing
later_by (Next (act.Mount trigger entry) rest) made = later.Mount entry
later_by (Next (act.Umount trigger) rest) made = later.Nothing
later_by (Next (act.Rmdir trigger) rest) made = later.AfterMount
later_by (Next (act.Record trigger None) rest) made = later_none made (rest Done)
later_by (Next (act.Record trigger (Some (Mounting token))) rest) made = later.Nothing
later_by (Next (act.Record trigger (Some (Mounted mount))) rest) made = later.AfterUmount mount
later_by (Next (act.Record trigger (Some (Unmounting token mount))) rest) made = later.Nothing
later_by (Next (act.Reply status) rest) made = later.Reply status

-- the acts that are left, by their plan
abbrev pub left_of : Plan → Left
left_of Ended = left.Ended
left_of (Next a rest) = left.Next a (later_by (rest (Failed ENOENT)) (rest (Made 0)))

after_back : (trigger : Trigger) (name : Option (List ℕ)) → trigger.name ≡ name → (l : Later) → later_by (after trigger l (Failed ENOENT)) (after trigger l (Made 0)) ≡ l
after_back trigger name is later.Nothing = refl
after_back trigger name is (later.Reply status) = refl
after_back trigger name is (later.RecordNone status) = refl
after_back trigger name is (later.Mount entry) = refl
after_back trigger None is later.AfterMount = rw is refl
after_back trigger (Some name) is later.AfterMount = rw is refl
after_back trigger name is (later.AfterUmount mount) = refl

-- a plan tells which acts are left
pub left_back : (trigger : Trigger) (l : Left) → left_of (plan_left trigger l) ≡ l
left_back trigger left.Ended = refl
left_back trigger (left.Next a then) = ap (left.Next a) (after_back trigger trigger.name refl then)
