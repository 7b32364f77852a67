-- What the daemon takes up and writes down stays below the numbers that were given.
use Rattle.std.proofs.Common.{◌≡◌, ℕ, ◌≤◌, ◌==◌, Bool, true, false, List, map, Option, Some, None, refl, sym, subst}
use Rattle.std.specs.Prelude.{find, if◌then◌else◌}
use Rattle.std.specs.Option.{option_map}
use Rattle.std.specs.List.{All}
use Rattle.std.proofs.lemmas.List.Elements.{All-push}
use Rattle.am_names.specs.declared.trigger.Trigger.{Trigger}
use Rattle.am_names.proofs.Basics.{equal_by_test, found_passes}
use Rattle.am_state.specs.{QueuedRow, Record, RecordRow}
use Rattle.am_kernel.specs.{Attached, KernelState, is_live, attach_of, without_packet}
use Rattle.am_job.specs.{Act, Outcome, next_of, is_reply, recorded}
use Rattle.am_job.specs.declared.act.Act.TheVariants as act
use Rattle.am_daemon.specs.{DaemonState, JobPlan, trigger_of, plan_of_packet, pending_of, job_of, job_for, taken_up, next_in, writes, book_after, finished}
use Rattle.am_machine.specs.{NumbersAreAllocated, AreDifferent, IsPlanned, IsInPipe}
use Rattle.am_machine.proofs.Lists.Different.{all_found}
use Rattle.am_machine.proofs.Tokens.Catatonic.{dev_of}
use Rattle.am_machine.proofs.Tokens.Jobs.{finished_all}
use Rattle.am_machine.proofs.Planned.Rests.{left_written}
use Rattle.am_machine.proofs.Attachments.Grows.{rise_all}
use Rattle.am_machine.proofs.Attachments.Rows.{book_recorded}

abbrev Below : ℕ → RecordRow → Type 0
Below last row = row.trigger.fs ≤ last

abbrev IsOld : KernelState → JobPlan → Type 0
IsOld k row = (row.attach ≤ k.last_attach) × (row.trigger.fs ≤ k.last_fs)

-- ---- a current attachment was given

given_by_cases : (k : KernelState) (d : DaemonState) (fs attach : ℕ) (live : Bool) (o : Option Attached) → find (λ (r : Attached). r.fs == fs) k.attached ≡ o → (if live then option_map (λ (r : Attached). r.attach) o else None) ≡ Some attach → NumbersAreAllocated k d → (attach ≤ k.last_attach) × (fs ≤ k.last_fs)
given_by_cases k d fs attach false o is e h = absurd cc
given_by_cases k d fs attach true None is e h = absurd cc
given_by_cases k d fs attach true (Some row) is e h =
    let same : row.attach ≡ attach = cc in
    let number : row.fs ≡ fs = equal_by_test row.fs fs (found_passes (λ (r : Attached). r.fs == fs) k.attached row is) in
    (subst (λ (n : ℕ). n ≤ k.last_attach) same (all_found (λ (r : Attached). r.attach ≤ k.last_attach) (λ (r : Attached). r.fs == fs) k.attached row h.attached is), subst (λ (n : ℕ). n ≤ k.last_fs) number (all_found (λ (r : Attached). r.fs ≤ k.last_fs) (λ (r : Attached). r.fs == fs) k.attached row (rise_all k.last_fs 0 k.attached h.rise) is))

pub attach_given : (k : KernelState) (d : DaemonState) (fs attach : ℕ) → attach_of k fs ≡ Some attach → NumbersAreAllocated k d → (attach ≤ k.last_attach) × (fs ≤ k.last_fs)
attach_given k d fs attach e h = given_by_cases k d fs attach (is_live k fs) (find (λ (r : Attached). r.fs == fs) k.attached) refl e h

-- ---- a packet is taken up

told_by_cases : (last : ℕ) (reply : Bool) (g : Trigger) (entry : Option Record) (book : List RecordRow) → g.fs ≤ last → All (Below last) book → All (Below last) (if reply then book else recorded g entry book)
told_by_cases last true g entry book le h = h
told_by_cases last false g entry book le h = book_recorded last g entry book le h

pub given_taken : (k : KernelState) (d : DaemonState) (row : QueuedRow) → IsInPipe k d.jobs row → NumbersAreAllocated k d → NumbersAreAllocated (without_packet row.token k) (taken_up row.attach row.packet d)
given_taken k d row p h =
    let both = attach_given k d p.token.trigger.fs row.attach p.current h in
    let fs : row.packet.dev ≤ k.last_fs = subst (λ (n : ℕ). n ≤ k.last_fs) (sym (dev_of row.packet p.token p.asks)) both.1 in
    record {
      rise = h.rise;
      attached = h.attached;
      autofs = h.autofs;
      known = h.known;
      familiar = h.familiar;
      jobs = All-push (IsOld k) d.jobs (job_for row.attach row.packet d) h.jobs (both.0, fs);
      book = told_by_cases k.last_fs (is_reply (plan_of_packet d row.packet)) (trigger_of row.packet) (pending_of d row.packet) d.book fs h.book;
    }

-- ---- a job goes on, or ends

after_by_cases : (last : ℕ) (next : Option Act) (book : List RecordRow) → ((g : Trigger) (entry : Option Record) → next ≡ Some (act.Record g entry) → g.fs ≤ last) → All (Below last) book → All (Below last) (book_after (writes next) book)
after_by_cases last None book own h = h
after_by_cases last (Some (act.Mkdir g)) book own h = h
after_by_cases last (Some (act.Mount g entry)) book own h = h
after_by_cases last (Some (act.Umount g)) book own h = h
after_by_cases last (Some (act.Rmdir g)) book own h = h
after_by_cases last (Some (act.Record g entry)) book own h = book_recorded last g entry book (own g entry refl) h
after_by_cases last (Some (act.Reply status)) book own h = h

pub given_finished : (k : KernelState) (d : DaemonState) (row : JobPlan) (outcome : Outcome) → job_of d.jobs row.token ≡ Some row → IsPlanned row → AreDifferent (map (λ (r : JobPlan). r.token) d.jobs) → NumbersAreAllocated k d → NumbersAreAllocated k (finished row.token outcome d)
given_finished k d row outcome is planned differ h =
    let its = all_found (IsOld k) (λ (r : JobPlan). r.token == row.token) d.jobs row h.jobs is in
    record {
      rise = h.rise;
      attached = h.attached;
      autofs = h.autofs;
      known = h.known;
      familiar = h.familiar;
      jobs = finished_all (IsOld k) (IsOld k) row.token outcome row (λ r other old. old) (λ old ended. old) d.jobs is differ h.jobs;
      book = subst (λ (o : Option JobPlan). All (Below k.last_fs) (book_after (writes (next_in o)) d.book)) (sym is)
          (after_by_cases k.last_fs (next_of row.plan) d.book (λ g entry e. subst (λ (t : Trigger). t.fs ≤ k.last_fs) (sym (left_written row.trigger row.plan outcome g entry e planned.rest).trigger_is) its.1) h.book);
    }
