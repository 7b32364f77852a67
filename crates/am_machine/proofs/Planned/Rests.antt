-- What a job has left is the rest of a plan for its trigger: so it begins, and so it goes on.
use Rattle.std.proofs.Common.{◌≡◌, ℕ, true, false, List, Option, Some, None, refl, sym, subst, ◌∙◌}
use Rattle.std.specs.Prelude.{not}
use Rattle.am_names.specs.declared.fail_no.FailNo.TheVariants.{ENOENT}
use Rattle.am_names.specs.declared.trigger.Trigger.{Trigger}
use Rattle.am_names.specs.{Status, TokenKind}
use Rattle.am_names.specs.declared.trigger.Status.TheVariants.{Ready, Fail}
use Rattle.am_names.specs.declared.row.TokenKind.TheVariants.{Missing, Expire}
use Rattle.am_map.specs.EntryText.{EntryText}
use Rattle.am_state.specs.{Record}
use Rattle.am_state.specs.declared.daemon_row.Record.TheVariants.{Mounted}
use Rattle.am_job.specs.{Act, Outcome, Plan, Ended, Next, plan_for, is_reply, at_directory, rest_of, next_of, without_mount, rest_of_mount, rest_of_umount, unmounting, mount_entry, book_and_reply, reply, IsEnded, AcknowledgesLast}
use Rattle.am_job.specs.declared.act.Act.TheVariants as act
use Rattle.am_job.specs.declared.act.Outcome.TheVariants.{Done, Made, Failed}
use Rattle.am_job.proofs.PlanLemmas.{plan_acknowledges}
use Rattle.am_daemon.specs.{writes, is_pending}
use Rattle.am_machine.specs.{has_record_left, IsRest}

-- ---- a plan begins as a rest of itself

reply_rest : (g : Trigger) (status : Status) → IsRest g (reply status)
reply_rest g status = λ o. (tt, tt)

book_rest : (g : Trigger) (entry : Option Record) (status : Status) → is_pending entry ≡ false → IsRest g (book_and_reply g entry status)
book_rest g entry status settled = λ o. ((refl, settled, refl), reply_rest g status)

-- the record is still to be written, in the rest of a plan
abbrev IsUnwritten : Trigger → Plan → Type 0
IsUnwritten g plan = (has_record_left plan ≡ true) × IsRest g plan

mkdir_rest : (g : Trigger) (name : Option (List ℕ)) (rest : Plan) → IsUnwritten g rest → IsUnwritten g (at_directory name (act.Mkdir g) rest)
mkdir_rest g None rest h = h
mkdir_rest g (Some name) rest h = (h.0, λ o. h)

rmdir_rest : (g : Trigger) (name : Option (List ℕ)) (rest : Plan) → IsUnwritten g rest → IsUnwritten g (at_directory name (act.Rmdir g) rest)
rmdir_rest g None rest h = h
rmdir_rest g (Some name) rest h = (h.0, λ o. h)

after_mount : (g : Trigger) (o : Outcome) → IsUnwritten g (rest_of_mount g o)
after_mount g (Made mount) = (refl, book_rest g (Some (Mounted mount)) Ready refl)
after_mount g (Failed error) = rmdir_rest g g.name (without_mount g error) (refl, book_rest g None (Fail error) refl)
after_mount g Done = rmdir_rest g g.name (without_mount g ENOENT) (refl, book_rest g None (Fail ENOENT) refl)

after_umount : (g : Trigger) (mount : ℕ) (o : Outcome) → IsUnwritten g (rest_of_umount g mount o)
after_umount g mount (Failed error) = (refl, book_rest g (Some (Mounted mount)) (Fail error) refl)
after_umount g mount o = rmdir_rest g g.name (book_and_reply g None Ready) (refl, book_rest g None Ready refl)

-- an unmount as a whole has still to write the record
pub umount_left : (g : Trigger) (mount : ℕ) → has_record_left (unmounting g mount) ≡ true
umount_left g mount = (after_umount g mount Done).0

mount_rest : (g : Trigger) (entry : EntryText) → IsUnwritten g (mount_entry g entry)
mount_rest g entry = ((after_mount g Done).0, λ o. ((refl, (after_mount g o).0), (after_mount g o).1))

pub plan_rest : (kind : TokenKind) (g : Trigger) (mounted : Option ℕ) (entry : Option EntryText) → IsRest g (plan_for kind g mounted entry)
plan_rest Missing g (Some mount) entry = reply_rest g Ready
plan_rest Missing g None (Some entry) = (mkdir_rest g g.name (mount_entry g entry) (mount_rest g entry)).1
plan_rest Missing g None None = book_rest g None (Fail ENOENT) refl
plan_rest Expire g (Some mount) entry = λ o. ((refl, (after_umount g mount o).0), (after_umount g mount o).1)
plan_rest Expire g None entry = reply_rest g (Fail ENOENT)

-- ---- the record is still to be written where a plan is more than a reply

left_by_cases : (g : Trigger) (a : Act) (rest : Outcome → Plan) → IsRest g (Next a rest) → has_record_left (Next a rest) ≡ not (is_reply (Next a rest))
left_by_cases g (act.Mkdir trigger) rest h = (h Done).0
left_by_cases g (act.Mount trigger entry) rest h = (h Done).0.1
left_by_cases g (act.Umount trigger) rest h = (h Done).0.1
left_by_cases g (act.Rmdir trigger) rest h = (h Done).0
left_by_cases g (act.Record trigger entry) rest h = refl
left_by_cases g (act.Reply status) rest h = refl

left_of : (g : Trigger) (plan : Plan) → AcknowledgesLast plan → IsRest g plan → has_record_left plan ≡ not (is_reply plan)
left_of g Ended last h = absurd last
left_of g (Next a rest) last h = left_by_cases g a rest h

pub plan_left : (kind : TokenKind) (g : Trigger) (mounted : Option ℕ) (entry : Option EntryText) → has_record_left (plan_for kind g mounted entry) ≡ not (is_reply (plan_for kind g mounted entry))
plan_left kind g mounted entry = left_of g (plan_for kind g mounted entry) (plan_acknowledges kind g mounted entry) (plan_rest kind g mounted entry)

-- ---- a job goes on

-- what is left after an act is a rest again
pub goes_on_rest : (g : Trigger) (plan : Plan) (outcome : Outcome) → IsRest g plan → IsRest g (rest_of outcome plan)
goes_on_rest g Ended outcome h = tt
goes_on_rest g (Next a rest) outcome h = (h outcome).1

ended_none : (rest : Plan) → IsEnded rest → has_record_left rest ≡ false
ended_none Ended h = refl
ended_none (Next a rest) h = absurd h

kept_by_cases : (g : Trigger) (a : Act) (rest : Outcome → Plan) (outcome : Outcome) → writes (Some a) ≡ None → IsRest g (Next a rest) → has_record_left (rest outcome) ≡ has_record_left (Next a rest)
kept_by_cases g (act.Mkdir trigger) rest outcome none h = (h outcome).0 ∙ sym (h Done).0
kept_by_cases g (act.Mount trigger entry) rest outcome none h = (h outcome).0.1 ∙ sym (h Done).0.1
kept_by_cases g (act.Umount trigger) rest outcome none h = (h outcome).0.1 ∙ sym (h Done).0.1
kept_by_cases g (act.Rmdir trigger) rest outcome none h = (h outcome).0 ∙ sym (h Done).0
kept_by_cases g (act.Record trigger entry) rest outcome none h = absurd cc
kept_by_cases g (act.Reply status) rest outcome none h = ended_none (rest outcome) (h outcome).0

-- an act that writes nothing leaves the record to be written as before
pub left_kept : (g : Trigger) (plan : Plan) (outcome : Outcome) → writes (next_of plan) ≡ None → IsRest g plan → has_record_left (rest_of outcome plan) ≡ has_record_left plan
left_kept g Ended outcome none h = refl
left_kept g (Next a rest) outcome none h = kept_by_cases g a rest outcome none h

-- an act that writes the record, and what it leaves
pub record Writes (g : Trigger) (plan : Plan) (outcome : Outcome) (trigger : Trigger) (entry : Option Record) : Type 0 where
  pub trigger_is : trigger ≡ g
  pub settled : is_pending entry ≡ false
  pub before : has_record_left plan ≡ true
  pub written : has_record_left (rest_of outcome plan) ≡ false

writes_by_cases : (g : Trigger) (a : Act) (rest : Outcome → Plan) (outcome : Outcome) (trigger : Trigger) (entry : Option Record) → a ≡ act.Record trigger entry → IsRest g (Next a rest) → Writes g (Next a rest) outcome trigger entry
writes_by_cases g (act.Record to what) rest outcome trigger entry e h =
    let f = (h outcome).0 in
    let same_to : to ≡ trigger = cc in
    let same_what : what ≡ entry = cc in
    record {
      trigger_is = sym same_to ∙ f.0;
      settled = subst (λ (o : Option Record). is_pending o ≡ false) same_what f.1;
      before = refl;
      written = f.2;
    }
writes_by_cases g a rest outcome trigger entry e h = absurd cc

pub left_written : (g : Trigger) (plan : Plan) (outcome : Outcome) (trigger : Trigger) (entry : Option Record) → next_of plan ≡ Some (act.Record trigger entry) → IsRest g plan → Writes g plan outcome trigger entry
left_written g Ended outcome trigger entry e h = absurd cc
left_written g (Next a rest) outcome trigger entry e h =
    let same : a ≡ act.Record trigger entry = cc in
    writes_by_cases g a rest outcome trigger entry same h
