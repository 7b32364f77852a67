use Rattle.std.proofs.Common.{ℕ, ◌+◌, [], ◌∷◌, Some, None, refl, sym, ap, ◌∙◌}
use Rattle.std.proofs.lemmas.List.{append-nil}
use Rattle.am_names.specs.declared.fail_no.FailNo.TheVariants.{ENOENT}
use Rattle.am_job.specs.declared.act.Outcome.TheVariants as came
use Rattle.am_kernel.specs.{location_of, coming, mount_on_refusal, with_mount_on}
use Rattle.am_state.specs.declared.obs.Obs.TheVariants as seen
use Rattle.am_daemon.specs.{finished}
use Rattle.am_machine.specs.declared.answer.Answer.TheVariants as answers
use Rattle.am_machine.specs.{mount_fails, mount_act, mounts}
use Rattle.am_world.specs.{whole_state, row_for}
use Rattle.am_world.proofs.ActLemmas.{row_token_is_job, row_attach_is_turns}
use Rattle.am_world.proofs.WentLemmas.{none_unless_failed, went, went_unseen, mount_unwell, mount_tried, first_unless_memory, goes_by_equal_outcome}
use Rattle.am_world.proofs.machine.Machine.mount_on.Goals as goal

pub returns-in-Some : goal.returns-in-Some
returns-in-Some c =
    let s = whole_state c.args.self.now in
    let row = row_for s.daemon c.args.coming.now.job in
    goes_by_equal_outcome (mount_act s row c.args.trigger.now c.args.failure) (mount_fails s row c.in-Some.no) s answers.FailedMount _
    (mount_unwell s row c.args.trigger.now c.args.failure c.in-Some.no c.args.coming.now.attach (row_attach_is_turns c.args.coming.now s.daemon c.requires.comes) c.if-not-is_current.ensures c.in-Some.is) refl
    (went_unseen s row c.args.coming.now.job (came.Failed c.in-Some.no) answers.FailedMount s.kernel c.args.self.now.kernel _ (row_token_is_job c.args.coming.now s.daemon c.requires.comes) c.finish.ensures refl)

pub returns-in-Ok : goal.returns-in-Ok
returns-in-Ok c =
    let s = whole_state c.args.self.now in
    let row = row_for s.daemon c.args.coming.now.job in
    let mount = s.kernel.table.last_mount + 1 in
    goes_by_equal_outcome (mount_act s row c.args.trigger.now c.args.failure) (mounts s row c.args.trigger.now) s (answers.DidMount c.in-Ok.mount) _
    (mount_tried s row c.args.trigger.now c.args.failure c.args.coming.now.attach None (row_attach_is_turns c.args.coming.now s.daemon c.requires.comes) c.if-not-is_current.ensures (none_unless_failed c.args.failure c.in_default.not-Some) c.in-Ok.ensures.refusal)
    (ap (λ (m : ℕ). answers.DidMount m) c.in-Ok.ensures.mount)
    (went s row c.args.coming.now.job (came.Made mount) (answers.DidMount mount) (seen.Mounted (coming s.kernel (location_of s.kernel c.args.trigger.now.fs)) ∷ []) (with_mount_on c.args.trigger.now s.kernel) c.mount_on.new.self _ _ (row_token_is_job c.args.coming.now s.daemon c.requires.comes)
    (c.finish-in-Ok.ensures ∙ ap (λ (m : ℕ). finished c.args.coming.now.job (came.Made m) s.daemon) c.in-Ok.ensures.mount) c.in-Ok.ensures.ok c.in-Ok.ensures.shown)

pub returns-else-is_no_memory : goal.returns-else-is_no_memory
returns-else-is_no_memory c =
    let s = whole_state c.args.self.now in
    let row = row_for s.daemon c.args.coming.now.job in
    let errno = c.in-Err.errno in
    goes_by_equal_outcome (mount_act s row c.args.trigger.now c.args.failure) (mount_fails s row ENOENT) s answers.FailedMount _
    (mount_tried s row c.args.trigger.now c.args.failure c.args.coming.now.attach (Some errno) (row_attach_is_turns c.args.coming.now s.daemon c.requires.comes) c.if-not-is_current.ensures (none_unless_failed c.args.failure c.in_default.not-Some)
    (first_unless_memory ℕ (mount_on_refusal s.kernel c.args.coming.now.attach c.args.trigger.now) errno c.mount_on.result c.in-Err.is c.mount_on.ensures.refusal (sym c.is_no_memory.ensures ∙ c.if-is_no_memory.false))) refl
    (went s row c.args.coming.now.job (came.Failed ENOENT) answers.FailedMount [] s.kernel c.mount_on.new.self _ _ (row_token_is_job c.args.coming.now s.daemon c.requires.comes) c.finish-in-Err.ensures c.in-Err.ensures.err
    (c.in-Err.ensures.unseen ∙ sym (append-nil s.trace)))
