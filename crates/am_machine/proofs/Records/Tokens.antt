-- A pending record stays one of its token, as long as that is open.
use Rattle.std.proofs.Common.{◌≡◌, ℕ, ◌+◌, ◌≤◌, Bool, true, false, cond, List, [], ◌∷◌, ◌++◌, map, Option, Some, None, refl, sym, ap, subst, ◌∙◌, arith}
use Rattle.std.specs.Prelude.{◌==◌, not, if◌then◌else◌}
use Rattle.std.specs.Option.{option_map}
use Rattle.std.specs.List.{list_any}
use Rattle.std.proofs.lemmas.Bool.Decides.{nat_tests}
use Rattle.std.proofs.lemmas.List.Elements.{All-filter, All-map, All-push, All-weaker}
use Rattle.am_names.specs.{same_trigger, Status, OpenToken, TokenKind, RiseBy}
use Rattle.am_names.specs.declared.trigger.Trigger.{Trigger}
use Rattle.am_names.specs.declared.row.TokenKind.TheVariants.{Missing, Expire}
use Rattle.am_names.proofs.Basics.{equal_by_test}
use Rattle.am_wait.specs.{WaitRows, token_of, answered, fs_released}
use Rattle.am_wait.proofs.FindLemmas.{or_first, find_append, token_taken, tokens_off}
use Rattle.am_state.specs.{Record, RecordRow, QueuedRow}
use Rattle.am_state.specs.declared.daemon_row.Record.TheVariants.{Mounting, Mounted, Unmounting}
use Rattle.am_wire.specs.{token_kind}
use Rattle.am_job.specs.{Act, Outcome, record_row, with_record, recorded, next_of, is_reply}
use Rattle.am_job.specs.declared.act.Act.TheVariants as act
use Rattle.am_kernel.specs.{KernelState}
use Rattle.am_daemon.specs.{DaemonState, JobPlan, writes, next_in, book_after, finished, all_mounted, job_of, taken_up, trigger_of, mounted_for, pending, pending_of, is_pending, plan_of_packet}
use Rattle.am_machine.specs.{Asked, IsInPipe, is_of_kind, IsOfItsToken, AreOfTheirTokens, IsPlanned}
use Rattle.am_machine.proofs.Planned.Rests.{left_written}
use Rattle.am_machine.proofs.Lists.Different.{mapped_some}
use Rattle.am_machine.proofs.Tokens.Unchanged.{bare}
use Rattle.am_machine.proofs.Tokens.Catatonic.{kept_row}
use Rattle.am_machine.proofs.Tokens.Notify.{AreNumbered, token_given}
use Rattle.am_machine.proofs.Lists.Found.{some_unless}

-- ---- tokens go on

-- numbers aren't taken back, and a token of a number that was given was open, of the same kind
pub record Later (w made : WaitRows) : Type 0 where
  pub more : w.last_token ≤ made.last_token
  pub old : (t : ℕ) (row : OpenToken) → token_of made.tokens t ≡ Some row → t ≤ w.last_token → (before : OpenToken) × (token_of w.tokens t ≡ Some before) × (before.kind ≡ row.kind)

later_entry : (w made : WaitRows) (entry : Record) → Later w made → IsOfItsToken w entry → IsOfItsToken made entry
later_entry w made entry l h = record {
  given = λ token is. let most = h.given token is in omega (arith, most, l.more);
  kind = λ token row e is.
      let old = l.old token row e (h.given token is) in
      ap (λ (kind : TokenKind). is_of_kind kind entry) (sym old.2) ∙ h.kind token old.0 old.1 is;
}

pub later_records : (w made : WaitRows) (book : List RecordRow) → Later w made → AreOfTheirTokens w book → AreOfTheirTokens made book
later_records w made book l h = All-weaker (λ (row : RecordRow). IsOfItsToken w row.entry) (λ (row : RecordRow). IsOfItsToken made row.entry) (λ row one. later_entry w made row.entry l one) book h

-- the tokens stay but for their waiters
pub stays_later : (w made : WaitRows) → ((t : ℕ) → option_map bare (token_of made.tokens t) ≡ option_map bare (token_of w.tokens t)) → made.last_token ≡ w.last_token → Later w made
stays_later w made same last = record {
  more = omega (arith, last);
  old = λ t row e most.
      let before = mapped_some bare (token_of made.tokens t) (token_of w.tokens t) row (sym (same t)) e in
      (before.0, before.1, ap (λ (r : OpenToken). r.kind) before.2);
}

-- the tokens of a file system close
pub closed_later : (fs : ℕ) (w : WaitRows) → RiseBy (λ (row : OpenToken). row.token) 0 w.tokens → Later w (fs_released fs w)
closed_later fs w rise = record {
  more = omega arith;
  old = λ t row e most. (row, (kept_row fs (token_of w.tokens t) row (sym (tokens_off fs t 0 w.tokens rise) ∙ e)).0, refl);
}

-- one token closes
pub answered_later : (token : ℕ) (status : Status) (w : WaitRows) → Later w (answered token status w)
answered_later token status w = record {
  more = omega arith;
  old = λ t row e most. (row, (some_unless (token == t) (token_of w.tokens t) row (sym (token_taken token w.tokens t (token == t) refl) ∙ e)).1, refl);
}

above : (last n t : ℕ) → n ≡ last + 1 → t ≤ last → (n == t) ≡ false
above last n t new most = grind (arith, nat_tests, new, most)

found_in_the_first : (o : Option OpenToken) (b : Bool) (new row : OpenToken) → b ≡ false → or_first o (cond b (Some new) None) ≡ Some row → o ≡ Some row
found_in_the_first (Some x) b new row other e = e
found_in_the_first None true new row other e = absurd cc
found_in_the_first None false new row other e = e

-- one more token is open
pub opened_later : (w made : WaitRows) (new : OpenToken) → made.tokens ≡ w.tokens ++ new ∷ [] → new.token ≡ w.last_token + 1 → made.last_token ≡ w.last_token + 1 → Later w made
opened_later w made new tokens number last = record {
  more = omega (arith, last);
  old = λ t row e most.
      let now = ap (λ (rows : List OpenToken). token_of rows t) tokens ∙ find_append (λ (r : OpenToken). r.token == t) w.tokens (new ∷ []) in
      (row, found_in_the_first (token_of w.tokens t) (new.token == t) new row (above w.last_token new.token t number most) (sym now ∙ e), refl);
}

-- ---- the book changes

-- a record that isn't pending
settled_fits : (w : WaitRows) (entry : Record) → is_pending (Some entry) ≡ false → IsOfItsToken w entry
settled_fits w (Mounting token) h = absurd cc
settled_fits w (Mounted mount) h = record { given = λ token is. absurd cc; kind = λ token row e is. absurd cc }
settled_fits w (Unmounting token mount) h = absurd cc

record_row_fits : (w : WaitRows) (b : Bool) (row : RecordRow) (entry : Record) → IsOfItsToken w entry → IsOfItsToken w row.entry → IsOfItsToken w (if b then record row { entry = entry } else row).entry
record_row_fits w true row entry here old = here
record_row_fits w false row entry here old = old

with_by_cases : (w : WaitRows) (g : Trigger) (entry : Record) (book : List RecordRow) (b : Bool) → IsOfItsToken w entry → AreOfTheirTokens w book → AreOfTheirTokens w (if b then map (record_row g entry) book else book ++ (record { trigger = g; entry = entry }) ∷ [])
with_by_cases w g entry book true here h =
    All-map (λ (row : RecordRow). IsOfItsToken w row.entry) (record_row g entry) book
    (All-weaker (λ (row : RecordRow). IsOfItsToken w row.entry) (λ (row : RecordRow). IsOfItsToken w (record_row g entry row).entry) (λ row old. record_row_fits w (same_trigger row.trigger g) row entry here old) book h)
with_by_cases w g entry book false here h = All-push (λ (row : RecordRow). IsOfItsToken w row.entry) book (record { trigger = g; entry = entry }) h here

pub records_with : (w : WaitRows) (g : Trigger) (entry : Record) (book : List RecordRow) → IsOfItsToken w entry → AreOfTheirTokens w book → AreOfTheirTokens w (with_record g entry book)
records_with w g entry book here h = with_by_cases w g entry book (list_any (λ row. same_trigger row.trigger g) book) here h

recorded_fits : (w : WaitRows) (g : Trigger) (entry : Option Record) (book : List RecordRow) → ((e : Record) → entry ≡ Some e → IsOfItsToken w e) → AreOfTheirTokens w book → AreOfTheirTokens w (recorded g entry book)
recorded_fits w g None book here h = All-filter (λ (row : RecordRow). not (same_trigger row.trigger g)) (λ (row : RecordRow). IsOfItsToken w row.entry) book h
recorded_fits w g (Some entry) book here h = records_with w g entry book (here entry refl) h

-- what stands is written down as mounted
pub mounted_fits : (w : WaitRows) (standing : List (Trigger × ℕ)) (book : List RecordRow) → AreOfTheirTokens w book → AreOfTheirTokens w (all_mounted standing book)
mounted_fits w [] book h = h
mounted_fits w (one ∷ standing) book h = mounted_fits w standing (with_record one.0 (Mounted one.1) book) (records_with w one.0 (Mounted one.1) book (settled_fits w (Mounted one.1) refl) h)

-- ---- a packet is taken up

pending_fits : (w : WaitRows) (kind : TokenKind) (token : ℕ) (mounted : Option ℕ) → token ≤ w.last_token → ((row : OpenToken) → token_of w.tokens token ≡ Some row → row.kind ≡ kind) → (e : Record) → pending kind token mounted ≡ Some e → IsOfItsToken w e
pending_fits w Missing token mounted most kind e is =
    subst (IsOfItsToken w) (let same : Mounting token ≡ e = cc in same) (record {
      given = λ t here. subst (λ (n : ℕ). n ≤ w.last_token) (equal_by_test token t here) most;
      kind = λ t row e here. ap (λ (k : TokenKind). is_of_kind k (Mounting token)) (kind row (ap (token_of w.tokens) (equal_by_test token t here) ∙ e));
    })
pending_fits w Expire token None most kind e is = absurd cc
pending_fits w Expire token (Some mount) most kind e is =
    subst (IsOfItsToken w) (let same : Unmounting token mount ≡ e = cc in same) (record {
      given = λ t here. subst (λ (n : ℕ). n ≤ w.last_token) (equal_by_test token t here) most;
      kind = λ t row e here. ap (λ (k : TokenKind). is_of_kind k (Unmounting token mount)) (kind row (ap (token_of w.tokens) (equal_by_test token t here) ∙ e));
    })

told_fits : (w : WaitRows) (reply : Bool) (g : Trigger) (entry : Option Record) (book : List RecordRow) → ((e : Record) → entry ≡ Some e → IsOfItsToken w e) → AreOfTheirTokens w book → AreOfTheirTokens w (if reply then book else recorded g entry book)
told_fits w true g entry book here h = h
told_fits w false g entry book here h = recorded_fits w g entry book here h

pub taken_fits : (k : KernelState) (d : DaemonState) (row : QueuedRow) → IsInPipe k d.jobs row → AreNumbered k.waits.tokens k.waits.last_token d.jobs → AreOfTheirTokens k.waits d.book → AreOfTheirTokens k.waits (taken_up row.attach row.packet d).book
taken_fits k d row p n h =
    let is_open : token_of k.waits.tokens row.packet.token ≡ Some p.token = ap (token_of k.waits.tokens) p.numbered ∙ p.is_open in
    let most = token_given k.waits.last_token row.packet.token k.waits.tokens p.token n.given is_open in
    told_fits k.waits (is_reply (plan_of_packet d row.packet)) (trigger_of row.packet) (pending_of d row.packet) d.book
    (pending_fits k.waits (token_kind row.packet.kind) row.packet.token (mounted_for d row.packet) most
    (λ other e.
    let same : other ≡ p.token = cc in
    ap (λ (r : OpenToken). r.kind) same ∙ sym (ap (λ (a : Asked). a.kind) p.asks))) h

-- ---- a job goes on, or ends

after_by_cases : (w : WaitRows) (next : Option Act) (book : List RecordRow) → ((g : Trigger) (entry : Option Record) → next ≡ Some (act.Record g entry) → is_pending entry ≡ false) → AreOfTheirTokens w book → AreOfTheirTokens w (book_after (writes next) book)
after_by_cases w None book settled h = h
after_by_cases w (Some (act.Mkdir g)) book settled h = h
after_by_cases w (Some (act.Mount g entry)) book settled h = h
after_by_cases w (Some (act.Umount g)) book settled h = h
after_by_cases w (Some (act.Rmdir g)) book settled h = h
after_by_cases w (Some (act.Record g entry)) book settled h = recorded_fits w g entry book (λ e is. settled_fits w e (ap is_pending (sym is) ∙ settled g entry refl)) h
after_by_cases w (Some (act.Reply status)) book settled h = h

pub finished_fits : (w : WaitRows) (d : DaemonState) (row : JobPlan) (outcome : Outcome) → job_of d.jobs row.token ≡ Some row → IsPlanned row → AreOfTheirTokens w d.book → AreOfTheirTokens w (finished row.token outcome d).book
finished_fits w d row outcome is planned h =
    subst (λ (o : Option JobPlan). AreOfTheirTokens w (book_after (writes (next_in o)) d.book)) (sym is)
    (after_by_cases w (next_of row.plan) d.book (λ g entry e. (left_written row.trigger row.plan outcome g entry e planned.rest).settled) h)
