-- What is true of each plan (autofs.rst, "Communicating with autofs: root directory ioctls";
-- docs/DECISIONS.md, "The daemon records before it replies").
use Rattle.std.specs.Prelude.{◌≡◌, ◌⊎◌, ⊤, ℕ, Option, Some, None, if◌then◌else◌}
use Rattle.am_job.specs.declared.act.Act.{Act}
use Rattle.am_job.specs.declared.act.Act.TheVariants as act
use Rattle.am_job.specs.declared.act.Outcome.{Outcome}
use Rattle.am_job.specs.declared.act.Outcome.TheVariants.{Done, Made}
use Rattle.am_job.specs.Plans.{Plan, Ended, Next, is_reply, claims}

-- no act is left
abbrev pub IsEnded : Plan → Type 0
IsEnded Ended = ⊤
IsEnded (Next a rest) = ⊥

-- whatever comes of the acts, the notification is acknowledged, and nothing comes after that
abbrev pub AcknowledgesLast : Plan → Type 0
AcknowledgesLast Ended = ⊥
AcknowledgesLast (Next (act.Reply status) rest) = (o : Outcome) → IsEnded (rest o)
AcknowledgesLast (Next a rest) = (o : Outcome) → AcknowledgesLast (rest o)

-- whatever comes of the acts, the book is written before the notification is acknowledged
abbrev pub RecordsFirst : Plan → Type 0
RecordsFirst Ended = ⊥
RecordsFirst (Next (act.Record trigger entry) rest) = ⊤
RecordsFirst (Next (act.Reply status) rest) = ⊥
RecordsFirst (Next a rest) = (o : Outcome) → RecordsFirst (rest o)

-- what the daemon has mounted on the trigger when this came of an act, where it was that before
abbrev pub mounted_after : Act → Outcome → Option ℕ → Option ℕ
mounted_after (act.Mount trigger entry) (Made mount) before = Some mount
mounted_after (act.Umount trigger) Done before = None
mounted_after (act.Umount trigger) (Made mount) before = None
mounted_after a outcome before = before

-- The acts that are left claim what is mounted after this one. What is written down already they
-- claim no more.
abbrev pub ClaimsFollow : Act → Outcome → Option ℕ → Plan → Type 0
ClaimsFollow (act.Record trigger entry) outcome before rest = ⊤
ClaimsFollow (act.Reply status) outcome before rest = ⊤
ClaimsFollow a outcome before rest = claims rest ≡ mounted_after a outcome before

-- after each act, whatever comes of it, what is claimed follows
abbrev pub ClaimsRight : Plan → Type 0
ClaimsRight Ended = ⊤
ClaimsRight (Next a rest) =
    (o : Outcome) → ClaimsFollow a o (claims (Next a rest)) (rest o) × ClaimsRight (rest o)

-- the acts that a job has left: it has acknowledged, or will, once
pub record IsLawful (plan : Plan) : Type 0 where
  pub acknowledges : IsEnded plan ⊎ AcknowledgesLast plan
  pub claims_right : ClaimsRight plan

-- a plan claims from the beginning what is mounted, if it does more than acknowledge
abbrev pub claimed_first : Plan → Option ℕ → Option ℕ
claimed_first plan mounted = if is_reply plan then None else mounted
