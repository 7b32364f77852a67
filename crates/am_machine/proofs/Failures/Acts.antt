-- The acts of a job suit the kind of its token: so a plan begins, and so it goes on.
use Rattle.std.proofs.Common.{◌≡◌, ◌∙◌, ℕ, ◌==◌, Bool, true, false, List, [], ◌∷◌, ◌++◌, Option, Some, None, refl, sym, ap, subst, arith}
use Rattle.std.specs.Prelude.{if◌then◌else◌}
use Rattle.std.specs.List.{All}
use Rattle.std.proofs.lemmas.List.Elements.{All-nil, All-cons, All-head, All-tail, All-push, All-weaker}
use Rattle.am_names.specs.declared.fail_no.FailNo.{FailNo}
use Rattle.am_names.specs.declared.fail_no.FailNo.TheVariants.{ENOENT}
use Rattle.am_names.specs.declared.trigger.Trigger.{Trigger}
use Rattle.am_names.specs.{Status, OpenToken, TokenKind}
use Rattle.am_names.specs.declared.trigger.Status.TheVariants.{Ready, Fail}
use Rattle.am_names.specs.declared.row.TokenKind.TheVariants.{Missing, Expire}
use Rattle.am_map.specs.EntryText.{EntryText}
use Rattle.am_wire.specs.{token_kind}
use Rattle.am_state.specs.{Record, QueuedRow}
use Rattle.am_state.specs.declared.daemon_row.Record.TheVariants.{Mounted}
use Rattle.am_wait.specs.{WaitRows, token_of}
use Rattle.am_kernel.specs.{KernelState}
use Rattle.am_job.specs.{Act, Outcome, Plan, Ended, Next, plan_for, at_directory, rest_of, next_of, without_mount, rest_of_mount, rest_of_umount, mount_entry, book_and_reply, reply, IsEnded}
use Rattle.am_job.specs.declared.act.Act.TheVariants as act
use Rattle.am_job.specs.declared.act.Outcome.TheVariants.{Done, Made, Failed}
use Rattle.am_daemon.specs.{DaemonState, JobPlan, trigger_of, mounted_for, entry_of, plan_of_packet, job_for, walked, is_ended, going, finished_in, writes}
use Rattle.am_machine.specs.{Asked, IsInPipe, IsRest, has_record_left, AllSuit, SuitsItsToken}
use Rattle.am_machine.proofs.Tokens.Notify.{AreNumbered, token_given}
use Rattle.am_machine.proofs.Records.Tokens.{Later}

-- ---- a plan begins so

reply_suits : (kind : TokenKind) (status : Status) → AllSuit kind (reply status)
reply_suits Missing status = λ o. (tt, tt)
reply_suits Expire status = λ o. (tt, tt)

-- that there is no mount is written down before it is acknowledged as failed
missing_written : (g : Trigger) (entry : Option Record) (status : Status) → ((error : FailNo) → status ≡ Fail error → entry ≡ None) → AllSuit Missing (book_and_reply g entry status)
missing_written g entry status h = λ o. ((λ error e. h error (let same : status ≡ Fail error = cc in same)), reply_suits Missing status)

expire_written : (g : Trigger) (entry : Option Record) (status : Status) → AllSuit Expire (book_and_reply g entry status)
expire_written g entry status = λ o. (tt, reply_suits Expire status)

mkdir_suits : (g : Trigger) (name : Option (List ℕ)) (rest : Plan) → AllSuit Missing rest → AllSuit Missing (at_directory name (act.Mkdir g) rest)
mkdir_suits g None rest h = h
mkdir_suits g (Some name) rest h = λ o. (tt, h)

rmdir_suits : (kind : TokenKind) (g : Trigger) (name : Option (List ℕ)) (rest : Plan) → AllSuit kind rest → AllSuit kind (at_directory name (act.Rmdir g) rest)
rmdir_suits kind g None rest h = h
rmdir_suits Missing g (Some name) rest h = λ o. (tt, h)
rmdir_suits Expire g (Some name) rest h = λ o. (tt, h)

without_mount_suits : (g : Trigger) (error : FailNo) → AllSuit Missing (at_directory g.name (act.Rmdir g) (without_mount g error))
without_mount_suits g error = rmdir_suits Missing g g.name (without_mount g error) (missing_written g None (Fail error) (λ other e. refl))

after_mount : (g : Trigger) (o : Outcome) → AllSuit Missing (rest_of_mount g o)
after_mount g (Made mount) = missing_written g (Some (Mounted mount)) Ready (λ error e. absurd cc)
after_mount g (Failed error) = without_mount_suits g error
after_mount g Done = without_mount_suits g ENOENT

after_umount : (g : Trigger) (mount : ℕ) (o : Outcome) → AllSuit Expire (rest_of_umount g mount o)
after_umount g mount (Failed error) = expire_written g (Some (Mounted mount)) (Fail error)
after_umount g mount o = rmdir_suits Expire g g.name (book_and_reply g None Ready) (expire_written g None Ready)

plan_suits : (kind : TokenKind) (g : Trigger) (mounted : Option ℕ) (entry : Option EntryText) → AllSuit kind (plan_for kind g mounted entry)
plan_suits Missing g (Some mount) entry = reply_suits Missing Ready
plan_suits Missing g None (Some entry) = mkdir_suits g g.name (mount_entry g entry) (λ o. (tt, after_mount g o))
plan_suits Missing g None None = missing_written g None (Fail ENOENT) (λ error e. refl)
plan_suits Expire g (Some mount) entry = λ o. (tt, after_umount g mount o)
plan_suits Expire g None entry = reply_suits Expire (Fail ENOENT)

at_directory_none : (name : Option (List ℕ)) (a : Act) (rest : Plan) (status : Status) → (next_of rest ≡ Some (act.Reply status) → ⊥) → (a ≡ act.Reply status → ⊥) → next_of (at_directory name a rest) ≡ Some (act.Reply status) → ⊥
at_directory_none None a rest status h other e = h e
at_directory_none (Some name) a rest status h other e = other (let same : a ≡ act.Reply status = cc in same)

-- no missing mount is acknowledged as failed at once
pub not_failed_at_once : (g : Trigger) (mounted : Option ℕ) (entry : Option EntryText) (error : FailNo) → next_of (plan_for Missing g mounted entry) ≡ Some (act.Reply (Fail error)) → ⊥
not_failed_at_once g (Some mount) entry error e = absurd cc
not_failed_at_once g None (Some entry) error e = at_directory_none g.name (act.Mkdir g) (mount_entry g entry) (Fail error) (λ f. absurd cc) (λ f. absurd cc) e
not_failed_at_once g None None error e = absurd cc

-- ---- it goes on so

rest_suits : (kind : TokenKind) (plan : Plan) (o : Outcome) → AllSuit kind plan → AllSuit kind (rest_of o plan)
rest_suits kind Ended o h = tt
rest_suits kind (Next a rest) o h = (h o).1

-- a job of an older world
later_job : (w made : WaitRows) (job : JobPlan) → Later w made → SuitsItsToken w job → SuitsItsToken made job
later_job w made job l h = record {
  given = let most = h.given in omega (arith, most, l.more);
  acts = λ row e.
      let old = l.old job.token row e h.given in
      subst (λ (kind : TokenKind). AllSuit kind job.plan) old.2 (h.acts old.0 old.1);
}

pub later_jobs : (w made : WaitRows) (jobs : List JobPlan) → Later w made → All (SuitsItsToken w) jobs → All (SuitsItsToken made) jobs
later_jobs w made jobs l h = All-weaker (SuitsItsToken w) (SuitsItsToken made) (λ job one. later_job w made job l one) jobs h

walked_suits : (w : WaitRows) (row : JobPlan) (o : Outcome) → SuitsItsToken w row → SuitsItsToken w (walked o row)
walked_suits w row o h = record { given = h.given; acts = λ token e. rest_suits token.kind row.plan o (h.acts token e) }

-- a job that has ended is gone
going_suits : (w : WaitRows) (ended : Bool) (row : JobPlan) (jobs : List JobPlan) → SuitsItsToken w row → All (SuitsItsToken w) jobs → All (SuitsItsToken w) (if ended then jobs else row ∷ jobs)
going_suits w true row jobs p h = h
going_suits w false row jobs p h = All-cons (SuitsItsToken w) row jobs p h

suited_by_cases : (w : WaitRows) (o : Outcome) (row : JobPlan) (jobs left : List JobPlan) (b : Bool) → SuitsItsToken w row → All (SuitsItsToken w) jobs → All (SuitsItsToken w) left → All (SuitsItsToken w) (if b then going (walked o row) jobs else row ∷ left)
suited_by_cases w o row jobs left true p h later = going_suits w (is_ended (walked o row)) (walked o row) jobs (walked_suits w row o p) h
suited_by_cases w o row jobs left false p h later = All-cons (SuitsItsToken w) row left p later

pub finished_suits : (w : WaitRows) (job : ℕ) (o : Outcome) (jobs : List JobPlan) → All (SuitsItsToken w) jobs → All (SuitsItsToken w) (finished_in job o jobs)
finished_suits w job o [] h = All-nil (SuitsItsToken w)
finished_suits w job o (row ∷ jobs) h =
    let rest = All-tail (SuitsItsToken w) row jobs h in
    suited_by_cases w o row jobs (finished_in job o jobs) (row.token == job) (All-head (SuitsItsToken w) row jobs h) rest (finished_suits w job o jobs rest)

-- a packet is taken up
pub taken_suits : (k : KernelState) (d : DaemonState) (row : QueuedRow) → IsInPipe k d.jobs row → AreNumbered k.waits.tokens k.waits.last_token d.jobs → All (SuitsItsToken k.waits) d.jobs → All (SuitsItsToken k.waits) (d.jobs ++ job_for row.attach row.packet d ∷ [])
taken_suits k d row p n h =
    let is_open : token_of k.waits.tokens row.packet.token ≡ Some p.token = ap (token_of k.waits.tokens) p.numbered ∙ p.is_open in
    All-push (SuitsItsToken k.waits) d.jobs (job_for row.attach row.packet d) h (record {
      given = token_given k.waits.last_token row.packet.token k.waits.tokens p.token n.given is_open;
      acts = λ token e.
          let same : token ≡ p.token = cc in
          let kind : token_kind row.packet.kind ≡ token.kind = ap (λ (a : Asked). a.kind) p.asks ∙ sym (ap (λ (r : OpenToken). r.kind) same) in
          subst (λ (kind : TokenKind). AllSuit kind (plan_of_packet d row.packet)) kind (plan_suits (token_kind row.packet.kind) (trigger_of row.packet) (mounted_for d row.packet) (entry_of d (trigger_of row.packet)));
    })

-- ---- an acknowledgement comes only once the book is written

ended_next : (rest : Plan) (status : Status) → IsEnded rest → next_of rest ≡ Some (act.Reply status) → ⊥
ended_next Ended status h e = absurd cc
ended_next (Next a rest) status h e = h

left_next : (rest : Plan) (status : Status) → has_record_left rest ≡ true → next_of rest ≡ Some (act.Reply status) → ⊥
left_next Ended status h e = absurd cc
left_next (Next a rest) status h e =
    let same : a ≡ act.Reply status = cc in
    let no : has_record_left (Next (act.Reply status) rest) ≡ true = subst (λ (b : Act). has_record_left (Next b rest) ≡ true) same h in
    absurd cc

next_by_cases : (g : Trigger) (a : Act) (rest : Outcome → Plan) (o : Outcome) (status : Status) → writes (Some a) ≡ None → IsRest g (Next a rest) → next_of (rest o) ≡ Some (act.Reply status) → ⊥
next_by_cases g (act.Mkdir trigger) rest o status none h e = left_next (rest o) status (h o).0 e
next_by_cases g (act.Mount trigger entry) rest o status none h e = left_next (rest o) status (h o).0.1 e
next_by_cases g (act.Umount trigger) rest o status none h e = left_next (rest o) status (h o).0.1 e
next_by_cases g (act.Rmdir trigger) rest o status none h e = left_next (rest o) status (h o).0 e
next_by_cases g (act.Record trigger entry) rest o status none h e = absurd cc
next_by_cases g (act.Reply other) rest o status none h e = ended_next (rest o) status (h o).0 e

-- no act but that on the book leaves a plan that acknowledges next
pub acknowledges_later : (g : Trigger) (plan : Plan) (o : Outcome) (status : Status) → writes (next_of plan) ≡ None → IsRest g plan → next_of (rest_of o plan) ≡ Some (act.Reply status) → ⊥
acknowledges_later g Ended o status none h e = absurd cc
acknowledges_later g (Next a rest) o status none h e = next_by_cases g a rest o status none h e

-- and after that on the book there was none to mount, where a missing mount has failed
written_by_cases : (a : Act) (rest : Outcome → Plan) (o : Outcome) (trigger : Trigger) (entry : Option Record) (error : FailNo) → a ≡ act.Record trigger entry → AllSuit Missing (Next a rest) → next_of (rest o) ≡ Some (act.Reply (Fail error)) → entry ≡ None
written_by_cases (act.Record to what) rest o trigger entry error same h e =
    let its : what ≡ entry = cc in
    sym its ∙ (h o).0 error e
written_by_cases a rest o trigger entry error same h e = absurd cc

pub failed_is_none : (plan : Plan) (o : Outcome) (trigger : Trigger) (entry : Option Record) (error : FailNo) → next_of plan ≡ Some (act.Record trigger entry) → AllSuit Missing plan → next_of (rest_of o plan) ≡ Some (act.Reply (Fail error)) → entry ≡ None
failed_is_none Ended o trigger entry error same h e = absurd cc
failed_is_none (Next a rest) o trigger entry error same h e = written_by_cases a rest o trigger entry error (let its : a ≡ act.Record trigger entry = cc in its) h e

-- a job that mounts has no expire token, and one that unmounts no missing one
mounting_by_cases : (a : Act) (rest : Outcome → Plan) (trigger : Trigger) (entry : EntryText) (kind : TokenKind) → a ≡ act.Mount trigger entry → AllSuit kind (Next a rest) → kind ≡ Missing
mounting_by_cases (act.Mount to what) rest trigger entry Missing same h = refl
mounting_by_cases (act.Mount to what) rest trigger entry Expire same h = absurd ((h Done).0)
mounting_by_cases a rest trigger entry kind same h = absurd cc

pub mounting_is_missing : (plan : Plan) (trigger : Trigger) (entry : EntryText) (kind : TokenKind) → next_of plan ≡ Some (act.Mount trigger entry) → AllSuit kind plan → kind ≡ Missing
mounting_is_missing Ended trigger entry kind e h = absurd cc
mounting_is_missing (Next a rest) trigger entry kind e h = mounting_by_cases a rest trigger entry kind (let its : a ≡ act.Mount trigger entry = cc in its) h

unmounting_by_cases : (a : Act) (rest : Outcome → Plan) (trigger : Trigger) (kind : TokenKind) → a ≡ act.Umount trigger → AllSuit kind (Next a rest) → kind ≡ Missing → ⊥
unmounting_by_cases (act.Umount to) rest trigger Missing same h e = (h Done).0
unmounting_by_cases (act.Umount to) rest trigger Expire same h e = absurd cc
unmounting_by_cases a rest trigger kind same h e = absurd cc

pub unmounting_is_no_missing : (plan : Plan) (trigger : Trigger) (kind : TokenKind) → next_of plan ≡ Some (act.Umount trigger) → AllSuit kind plan → kind ≡ Missing → ⊥
unmounting_is_no_missing Ended trigger kind e h same = absurd cc
unmounting_is_no_missing (Next a rest) trigger kind e h same = unmounting_by_cases a rest trigger kind (let its : a ≡ act.Umount trigger = cc in its) h same
