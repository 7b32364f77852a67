use Rattle.std.proofs.Common.{◌≡◌, ℕ, Some, None, false, arith, sym, ap, subst, ◌∙◌}
use Rattle.std.specs.Prelude.{nat_le}
use Rattle.std.proofs.lemmas.Bool.Decides.{nat_tests}
use Rattle.std.specs.Option.{option_copied}
use Rattle.am_expire.specs.{mount_of_walker}
use Rattle.am_kernel.specs.{WalkRow, Attempt, KernelState, walk_in, max_attempts, next_attempt, HasNoOpenWait}
use Rattle.am_kernel.specs.declared.waited.Waited.{Waited}
use Rattle.am_kernel.proofs.RetryLemmas.{found_number, error_of_outcome, again_goes, again_falls}
use Rattle.am_kernel.proofs.kernel.Kernel.retry.Goals as goal

pub attempt-requires-clause-outside : goal.attempt-requires-clause-outside
attempt-requires-clause-outside c =
    let k = c.args.self.now in
    let next = c.next-attempt.ensures ∙ ap (λ (r : WalkRow). next_attempt r c.args.moment) c.in_ok-row.ensures in
    let found : walk_in k.walks c.args.wait.now.walker ≡ Some c.in-Some.row.now = sym c.walk_row.ensures ∙ ap (λ o. option_copied o) c.in-Some.is in
    let same : c.next-attempt.result.walker ≡ c.args.wait.now.walker = ap (λ (b : Attempt). b.walker) next ∙ found_number (λ (row : WalkRow). row.walker) c.args.wait.now.walker k.walks c.in-Some.row.now found in
    subst (λ (n : ℕ). mount_of_walker k.uses n ≡ None) (sym same) c.requires.outside

pub attempt-requires-clause-free : goal.attempt-requires-clause-free
attempt-requires-clause-free c =
    let k = c.args.self.now in
    let next = c.next-attempt.ensures ∙ ap (λ (r : WalkRow). next_attempt r c.args.moment) c.in_ok-row.ensures in
    let found : walk_in k.walks c.args.wait.now.walker ≡ Some c.in-Some.row.now = sym c.walk_row.ensures ∙ ap (λ o. option_copied o) c.in-Some.is in
    let same : c.next-attempt.result.walker ≡ c.args.wait.now.walker = ap (λ (b : Attempt). b.walker) next ∙ found_number (λ (row : WalkRow). row.walker) c.args.wait.now.walker k.walks c.in-Some.row.now found in
    subst (λ (n : ℕ). HasNoOpenWait c.waited_on-waited.result n k.waits) (sym same)
    (subst (λ (w : Waited). HasNoOpenWait w c.args.wait.now.walker k.waits) (sym c.waited_on-waited.ensures) c.requires.free)

pub fail_retry-requires : goal.fail_retry-requires
fail_retry-requires c =
    subst (λ (s : KernelState). HasNoOpenWait c.waited_on-waited.result c.args.wait.now.walker s.waits) (sym (error_of_outcome _ c.in-Err.errno c.args.self.now c.attempt.new.self c.args.seen.now.items c.attempt.new.seen.items c.in-Err.ensures).0.state)
    (subst (λ (w : Waited). HasNoOpenWait w c.args.wait.now.walker c.args.self.now.waits) (sym c.waited_on-waited.ensures) c.requires.free)

pub returns-in-Ok : goal.returns-in-Ok
returns-in-Ok c =
    let k = c.args.self.now in
    let next = c.next-attempt.ensures ∙ ap (λ (r : WalkRow). next_attempt r c.args.moment) c.in_ok-row.ensures in
    let row = c.in-Some.row.now in
    let found : walk_in k.walks c.args.wait.now.walker ≡ Some row = sym c.walk_row.ensures ∙ ap (λ o. option_copied o) c.in-Some.is in
    let few : nat_le max_attempts row.attempts ≡ false = grind (arith, nat_tests, c.if-row-ge-MAX_ATTEMPTS.false) in
    again_goes row c.args.wait.now c.next-attempt.result c.waited_on-waited.result c.args.pipe k c.attempt.new.self c.args.moment c.in-Ok.progress c.args.seen.now.items c.attempt.new.seen.items next c.waited_on-waited.ensures found few c.in-Ok.ensures

pub returns : goal.returns
returns c =
    let k = c.args.self.now in
    let next = c.next-attempt.ensures ∙ ap (λ (r : WalkRow). next_attempt r c.args.moment) c.in_ok-row.ensures in
    let row = c.in-Some.row.now in
    let found : walk_in k.walks c.args.wait.now.walker ≡ Some row = sym c.walk_row.ensures ∙ ap (λ o. option_copied o) c.in-Some.is in
    let few : nat_le max_attempts row.attempts ≡ false = grind (arith, nat_tests, c.if-row-ge-MAX_ATTEMPTS.false) in
    again_falls row c.args.wait.now c.next-attempt.result c.waited_on-waited.result c.args.pipe k c.attempt.new.self c.fail_retry.new.self c.args.moment c.in-Err.errno c.fail_retry.result c.args.seen.now.items c.attempt.new.seen.items c.fail_retry.new.seen.items next c.waited_on-waited.ensures found few c.in-Err.ensures c.fail_retry.ensures
