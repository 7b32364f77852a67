-- The laws of all plans, and that what is left of a plan keeps them.
use Rattle.std.proofs.Common.{◌≡◌, ◌⊎◌, inl, inr, ℕ, List, Option, Some, None, refl}
use Rattle.std.specs.Prelude.{IsTrue, IfSome}
use Rattle.am_names.specs.declared.fail_no.FailNo.{FailNo}
use Rattle.am_names.specs.declared.fail_no.FailNo.TheVariants.{ENOENT}
use Rattle.am_names.specs.declared.trigger.Trigger.{Trigger}
use Rattle.am_names.specs.{Status, TokenKind}
use Rattle.am_names.specs.declared.trigger.Status.TheVariants.{Ready, Fail}
use Rattle.am_names.specs.declared.row.TokenKind.TheVariants.{Missing, Expire}
use Rattle.am_map.specs.EntryText.{EntryText}
use Rattle.am_state.specs.{Record}
use Rattle.am_state.specs.declared.daemon_row.Record.TheVariants.{Mounted}
use Rattle.am_job.specs.{Act, Outcome, Plan, Ended, Next, plan_for, is_reply, claims, at_directory, rest_of, next_of, without_mount, after_failed_mount, rest_of_mount, after_umount, rest_of_umount, mount_entry, unmounting, book_and_reply, reply, IsEnded, AcknowledgesLast, RecordsFirst, ClaimsRight, ClaimsFollow, IsLawful, claimed_first}
use Rattle.am_job.specs.declared.act.Act.TheVariants as act
use Rattle.am_job.specs.declared.act.Outcome.TheVariants.{Done, Made, Failed}

-- ---- the notification is acknowledged, once and last

rmdir_acknowledges : (trigger : Trigger) (name : Option (List ℕ)) (rest : Plan) → AcknowledgesLast rest → AcknowledgesLast (at_directory name (act.Rmdir trigger) rest)
rmdir_acknowledges trigger None rest h = h
rmdir_acknowledges trigger (Some name) rest h = λ o. h

mkdir_acknowledges : (trigger : Trigger) (name : Option (List ℕ)) (rest : Plan) → AcknowledgesLast rest → AcknowledgesLast (at_directory name (act.Mkdir trigger) rest)
mkdir_acknowledges trigger None rest h = h
mkdir_acknowledges trigger (Some name) rest h = λ o. h

book_acknowledges : (trigger : Trigger) (entry : Option Record) (status : Status) → AcknowledgesLast (book_and_reply trigger entry status)
book_acknowledges trigger entry status = λ o p. tt

failed_acknowledges : (trigger : Trigger) (error : FailNo) → AcknowledgesLast (after_failed_mount trigger error)
failed_acknowledges trigger error = rmdir_acknowledges trigger trigger.name (without_mount trigger error) (book_acknowledges trigger None (Fail error))

mount_acknowledges : (trigger : Trigger) (o : Outcome) → AcknowledgesLast (rest_of_mount trigger o)
mount_acknowledges trigger (Made mount) = book_acknowledges trigger (Some (Mounted mount)) Ready
mount_acknowledges trigger (Failed error) = failed_acknowledges trigger error
mount_acknowledges trigger Done = failed_acknowledges trigger ENOENT

umount_acknowledges : (trigger : Trigger) (mount : ℕ) (o : Outcome) → AcknowledgesLast (rest_of_umount trigger mount o)
umount_acknowledges trigger mount (Failed error) = book_acknowledges trigger (Some (Mounted mount)) (Fail error)
umount_acknowledges trigger mount o = rmdir_acknowledges trigger trigger.name (book_and_reply trigger None Ready) (book_acknowledges trigger None Ready)

pub plan_acknowledges : (kind : TokenKind) (trigger : Trigger) (mounted : Option ℕ) (entry : Option EntryText) → AcknowledgesLast (plan_for kind trigger mounted entry)
plan_acknowledges Missing trigger (Some mount) entry = λ o. tt
plan_acknowledges Missing trigger None (Some entry) = mkdir_acknowledges trigger trigger.name (mount_entry trigger entry) (mount_acknowledges trigger)
plan_acknowledges Missing trigger None None = book_acknowledges trigger None (Fail ENOENT)
plan_acknowledges Expire trigger (Some mount) entry = umount_acknowledges trigger mount
plan_acknowledges Expire trigger None entry = λ o. tt

-- ---- the book is written first

rmdir_records : (trigger : Trigger) (name : Option (List ℕ)) (rest : Plan) → RecordsFirst rest → RecordsFirst (at_directory name (act.Rmdir trigger) rest)
rmdir_records trigger None rest h = h
rmdir_records trigger (Some name) rest h = λ o. h

mkdir_records : (trigger : Trigger) (name : Option (List ℕ)) (rest : Plan) → RecordsFirst rest → RecordsFirst (at_directory name (act.Mkdir trigger) rest)
mkdir_records trigger None rest h = h
mkdir_records trigger (Some name) rest h = λ o. h

mount_records : (trigger : Trigger) (o : Outcome) → RecordsFirst (rest_of_mount trigger o)
mount_records trigger (Made mount) = tt
mount_records trigger (Failed error) = rmdir_records trigger trigger.name (without_mount trigger error) tt
mount_records trigger Done = rmdir_records trigger trigger.name (without_mount trigger ENOENT) tt

umount_records : (trigger : Trigger) (mount : ℕ) (o : Outcome) → RecordsFirst (rest_of_umount trigger mount o)
umount_records trigger mount (Failed error) = tt
umount_records trigger mount o = rmdir_records trigger trigger.name (book_and_reply trigger None Ready) tt

pub plan_records : (kind : TokenKind) (trigger : Trigger) (mounted : Option ℕ) (entry : Option EntryText) → IsTrue (is_reply (plan_for kind trigger mounted entry)) ⊎ RecordsFirst (plan_for kind trigger mounted entry)
plan_records Missing trigger (Some mount) entry = inl refl
plan_records Missing trigger None (Some entry) = inr (mkdir_records trigger trigger.name (mount_entry trigger entry) (mount_records trigger))
plan_records Missing trigger None None = inr tt
plan_records Expire trigger (Some mount) entry = inr (umount_records trigger mount)
plan_records Expire trigger None entry = inl refl

-- ---- what is mounted is claimed

rmdir_claims : (trigger : Trigger) (name : Option (List ℕ)) (rest : Plan) → claims (at_directory name (act.Rmdir trigger) rest) ≡ claims rest
rmdir_claims trigger None rest = refl
rmdir_claims trigger (Some name) rest = refl

rmdir_right : (trigger : Trigger) (name : Option (List ℕ)) (rest : Plan) → ClaimsRight rest → ClaimsRight (at_directory name (act.Rmdir trigger) rest)
rmdir_right trigger None rest h = h
rmdir_right trigger (Some name) rest h = λ o. (refl, h)

mkdir_right : (trigger : Trigger) (name : Option (List ℕ)) (rest : Plan) → claims rest ≡ None → ClaimsRight rest → ClaimsRight (at_directory name (act.Mkdir trigger) rest)
mkdir_right trigger None rest none h = h
mkdir_right trigger (Some name) rest none h = λ o. (none, h)

reply_right : (status : Status) → ClaimsRight (reply status)
reply_right status = λ o. (tt, tt)

book_right : (trigger : Trigger) (entry : Option Record) (status : Status) → ClaimsRight (book_and_reply trigger entry status)
book_right trigger entry status = λ o. (tt, reply_right status)

failed_mount_right : (trigger : Trigger) (error : FailNo) → (claims (after_failed_mount trigger error) ≡ None) × ClaimsRight (after_failed_mount trigger error)
failed_mount_right trigger error =
    (rmdir_claims trigger trigger.name (without_mount trigger error), rmdir_right trigger trigger.name (without_mount trigger error) (book_right trigger None (Fail error)))

mount_right : (trigger : Trigger) (entry : EntryText) → ClaimsRight (mount_entry trigger entry)
mount_right trigger entry Done = failed_mount_right trigger ENOENT
mount_right trigger entry (Made mount) = (refl, book_right trigger (Some (Mounted mount)) Ready)
mount_right trigger entry (Failed error) = failed_mount_right trigger error

umounted_right : (trigger : Trigger) → (claims (after_umount trigger) ≡ None) × ClaimsRight (after_umount trigger)
umounted_right trigger =
    (rmdir_claims trigger trigger.name (book_and_reply trigger None Ready), rmdir_right trigger trigger.name (book_and_reply trigger None Ready) (book_right trigger None Ready))

umount_right : (trigger : Trigger) (mount : ℕ) → ClaimsRight (unmounting trigger mount)
umount_right trigger mount Done = umounted_right trigger
umount_right trigger mount (Made other) = umounted_right trigger
umount_right trigger mount (Failed error) = (refl, book_right trigger (Some (Mounted mount)) (Fail error))

pub plan_right : (kind : TokenKind) (trigger : Trigger) (mounted : Option ℕ) (entry : Option EntryText) → ClaimsRight (plan_for kind trigger mounted entry)
plan_right Missing trigger (Some mount) entry = reply_right Ready
plan_right Missing trigger None (Some entry) = mkdir_right trigger trigger.name (mount_entry trigger entry) refl (mount_right trigger entry)
plan_right Missing trigger None None = book_right trigger None (Fail ENOENT)
plan_right Expire trigger (Some mount) entry = umount_right trigger mount
plan_right Expire trigger None entry = reply_right (Fail ENOENT)

pub plan_claims : (kind : TokenKind) (trigger : Trigger) (mounted : Option ℕ) (entry : Option EntryText) → claims (plan_for kind trigger mounted entry) ≡ claimed_first (plan_for kind trigger mounted entry) mounted
plan_claims Missing trigger (Some mount) entry = refl
plan_claims Missing trigger None (Some entry) = by trigger.name
  where
    by : (name : Option (List ℕ)) → claims (at_directory name (act.Mkdir trigger) (mount_entry trigger entry)) ≡ claimed_first (at_directory name (act.Mkdir trigger) (mount_entry trigger entry)) None
    by None = refl
    by (Some name) = refl
plan_claims Missing trigger None None = refl
plan_claims Expire trigger (Some mount) entry = refl
plan_claims Expire trigger None entry = refl

pub plan_lawful : (kind : TokenKind) (trigger : Trigger) (mounted : Option ℕ) (entry : Option EntryText) → IsLawful (plan_for kind trigger mounted entry)
plan_lawful kind trigger mounted entry = record {
  acknowledges = inr (plan_acknowledges kind trigger mounted entry);
  claims_right = plan_right kind trigger mounted entry;
}

-- ---- what is left keeps the laws

goes_on : (a : Act) (rest : Outcome → Plan) (outcome : Outcome) → AcknowledgesLast (Next a rest) → IsEnded (rest outcome) ⊎ AcknowledgesLast (rest outcome)
goes_on (act.Reply status) rest outcome h = inl (h outcome)
goes_on a rest outcome h = inr (h outcome)

rest_acknowledges : (plan : Plan) (outcome : Outcome) → IsEnded plan ⊎ AcknowledgesLast plan → IsEnded (rest_of outcome plan) ⊎ AcknowledgesLast (rest_of outcome plan)
rest_acknowledges Ended outcome h = inl tt
rest_acknowledges (Next a rest) outcome (inl h) = absurd h
rest_acknowledges (Next a rest) outcome (inr h) = goes_on a rest outcome h

rest_right : (plan : Plan) (outcome : Outcome) → ClaimsRight plan → ClaimsRight (rest_of outcome plan)
rest_right Ended outcome h = tt
rest_right (Next a rest) outcome h = (h outcome).1

pub rest_lawful : (plan : Plan) (outcome : Outcome) → IsLawful plan → IsLawful (rest_of outcome plan)
rest_lawful plan outcome h = record {
  acknowledges = rest_acknowledges plan outcome h.acknowledges;
  claims_right = rest_right plan outcome h.claims_right;
}

pub rest_claims : (plan : Plan) (outcome : Outcome) → ClaimsRight plan → IfSome (next_of plan) (λ a. ClaimsFollow a outcome (claims plan) (rest_of outcome plan))
rest_claims Ended outcome h = tt
rest_claims (Next a rest) outcome h = (h outcome).0
