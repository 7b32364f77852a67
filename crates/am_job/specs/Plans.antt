-- What a daemon does for one packet: a finite tree of acts, with a branch for each outcome of an
-- act (autofs.rst, "Communicating with autofs: the event pipe").
use Rattle.std.specs.Prelude.{ℕ, Bool, true, false, List, Option, Some, None}
use Rattle.am_names.specs.declared.fail_no.FailNo.{FailNo}
use Rattle.am_names.specs.declared.fail_no.FailNo.TheVariants.{ENOENT}
use Rattle.am_names.specs.declared.trigger.Trigger.{Trigger}
use Rattle.am_names.specs.{Status, TokenKind}
use Rattle.am_names.specs.declared.trigger.Status.TheVariants.{Ready, Fail}
use Rattle.am_names.specs.declared.row.TokenKind.TheVariants.{Missing, Expire}
use Rattle.am_map.specs.EntryText.{EntryText}
use Rattle.am_state.specs.{Record}
use Rattle.am_state.specs.declared.daemon_row.Record.TheVariants.{Mounting, Mounted, Unmounting}
use Rattle.am_job.specs.declared.act.Act.{Act}
use Rattle.am_job.specs.declared.act.Act.TheVariants as act
use Rattle.am_job.specs.declared.act.Outcome.{Outcome}
use Rattle.am_job.specs.declared.act.Outcome.TheVariants.{Done, Made, Failed}

-- the acts that are left: none, or one, and what is left by what comes of it
pub data Plan : Type 0 where
  Ended : Plan
  Next : Act → (Outcome → Plan) → Plan

-- the act that comes next
abbrev pub next_of : Plan → Option Act
next_of Ended = None
next_of (Next a rest) = Some a

-- what is left when this has come of the next act
abbrev pub rest_of : Outcome → Plan → Plan
rest_of outcome Ended = Ended
rest_of outcome (Next a rest) = rest outcome

-- an act, and then the rest, whatever comes of the act
abbrev pub followed_by : Act → Plan → Plan
followed_by a rest = Next a (λ outcome. rest)

-- the notification is acknowledged, and the job ends
abbrev pub reply : Status → Plan
reply status = followed_by (act.Reply status) Ended

-- the book is written first, and then the notification is acknowledged, so that no walker is
-- released before the book is right
abbrev pub book_and_reply : Trigger → Option Record → Status → Plan
book_and_reply trigger entry status = followed_by (act.Record trigger entry) (reply status)

-- an act on the directory of an indirect trigger, and then the rest; a direct trigger has none
abbrev pub at_directory : Option (List ℕ) → Act → Plan → Plan
at_directory None a rest = rest
at_directory (Some name) a rest = followed_by a rest

-- ---- a packet that asks for a mount

-- the mount came: it is written down, READY
abbrev pub after_mount : Trigger → ℕ → Plan
after_mount trigger mount = book_and_reply trigger (Some (Mounted mount)) Ready

-- there is nothing to mount, or the mount failed with this error: that there is none is written
-- down, FAIL with the error
abbrev pub without_mount : Trigger → FailNo → Plan
without_mount trigger error = book_and_reply trigger None (Fail error)

-- the mount failed with this error: its directory goes again
abbrev pub after_failed_mount : Trigger → FailNo → Plan
after_failed_mount trigger error =
    at_directory trigger.name (act.Rmdir trigger) (without_mount trigger error)

-- after the mount, by what came of it; one that tells no mount has failed with ENOENT
abbrev pub rest_of_mount : Trigger → Outcome → Plan
rest_of_mount trigger (Made mount) = after_mount trigger mount
rest_of_mount trigger (Failed error) = after_failed_mount trigger error
rest_of_mount trigger Done = after_failed_mount trigger ENOENT

-- the entry is mounted, and the rest goes by what comes of that
abbrev pub mount_entry : Trigger → EntryText → Plan
mount_entry trigger entry = Next (act.Mount trigger entry) (rest_of_mount trigger)

-- the directory is made, and the entry is mounted on it
abbrev pub mounting : Trigger → EntryText → Plan
mounting trigger entry =
    at_directory trigger.name (act.Mkdir trigger) (mount_entry trigger entry)

-- by what the book says of the trigger, and by the entry of its key; where there is nothing to
-- mount, FAIL with ENOENT
abbrev pub missing_plan : Trigger → Option ℕ → Option EntryText → Plan
missing_plan trigger (Some mount) entry = reply Ready
missing_plan trigger None (Some entry) = mounting trigger entry
missing_plan trigger None None = without_mount trigger ENOENT

-- ---- a packet that asks for an expiry

-- what was mounted has gone: its directory goes too, that there is none is written down, READY
abbrev pub after_umount : Trigger → Plan
after_umount trigger =
    at_directory trigger.name (act.Rmdir trigger) (book_and_reply trigger None Ready)

-- the unmount failed with this error: the mount stays, and that is written down, FAIL with the
-- error
abbrev pub after_failed_umount : Trigger → ℕ → FailNo → Plan
after_failed_umount trigger mount error = book_and_reply trigger (Some (Mounted mount)) (Fail error)

-- after the unmount of this mount, by what came of it
abbrev pub rest_of_umount : Trigger → ℕ → Outcome → Plan
rest_of_umount trigger mount (Failed error) = after_failed_umount trigger mount error
rest_of_umount trigger mount outcome = after_umount trigger

-- it is unmounted, and the rest goes by what comes of that
abbrev pub unmounting : Trigger → ℕ → Plan
unmounting trigger mount = Next (act.Umount trigger) (rest_of_umount trigger mount)

-- by what the book says of the trigger; where it has no record of a mount, FAIL with ENOENT
abbrev pub expire_plan : Trigger → Option ℕ → Plan
expire_plan trigger (Some mount) = unmounting trigger mount
expire_plan trigger None = reply (Fail ENOENT)

-- ---- the plan for a packet

-- by the kind of its token, what the book says to be mounted on its trigger, and the entry of its
-- key
abbrev pub plan_for : TokenKind → Trigger → Option ℕ → Option EntryText → Plan
plan_for Missing trigger mounted entry = missing_plan trigger mounted entry
plan_for Expire trigger mounted entry = expire_plan trigger mounted

-- ---- what the acts that are left claim to be mounted on the trigger, at the daemon's mount

-- the mount that a record names
abbrev pub mount_in : Option Record → Option ℕ
mount_in None = None
mount_in (Some (Mounting token)) = None
mount_in (Some (Mounted mount)) = Some mount
mount_in (Some (Unmounting token mount)) = Some mount

-- nothing before a mount, what an unmount takes while it hasn't come, and else what is to be
-- written down
abbrev pub claims : Plan → Option ℕ
claims Ended = None
claims (Next (act.Mkdir trigger) rest) = None
claims (Next (act.Mount trigger entry) rest) = None
claims (Next (act.Umount trigger) rest) = claims (rest (Failed ENOENT))
claims (Next (act.Rmdir trigger) rest) = claims (rest Done)
claims (Next (act.Record trigger entry) rest) = mount_in entry
claims (Next (act.Reply status) rest) = None

-- ---- a plan that is a reply alone: the record stays

-- the next act acknowledges the notification
abbrev pub is_reply : Plan → Bool
is_reply Ended = false
is_reply (Next (act.Reply status) rest) = true
is_reply (Next a rest) = false
