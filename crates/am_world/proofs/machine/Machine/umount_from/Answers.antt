use Rattle.std.proofs.Common.{[], ◌∷◌, Some, None, refl, sym, ◌∙◌}
use Rattle.std.proofs.lemmas.List.{append-nil}
use Rattle.am_names.specs.declared.fail_no.FailNo.TheVariants.{ENOENT}
use Rattle.am_job.specs.declared.act.Outcome.TheVariants as came
use Rattle.am_kernel.specs.{gone_from, umount_from_refusal, without_mounts}
use Rattle.am_state.specs.declared.obs.Obs.TheVariants as seen
use Rattle.am_machine.specs.declared.answer.Answer.TheVariants as answers
use Rattle.am_machine.specs.{umount_fails, umount_act, umounts}
use Rattle.am_world.specs.{whole_state, row_for}
use Rattle.am_world.proofs.ActLemmas.{row_token_is_job, row_attach_is_turns}
use Rattle.am_world.proofs.WentLemmas.{none_unless_failed, went, went_unseen, umount_unwell, umount_tried, first_unless_memory, goes_by_equal_outcome}
use Rattle.am_world.proofs.machine.Machine.umount_from.Goals as goal

pub returns-in-Some : goal.returns-in-Some
returns-in-Some c =
    let s = whole_state c.args.self.now in
    let row = row_for s.daemon c.args.coming.now.job in
    goes_by_equal_outcome (umount_act s row c.args.trigger.now c.args.failure) (umount_fails s row c.in-Some.no) s answers.FailedUmount _
    (umount_unwell s row c.args.trigger.now c.args.failure c.in-Some.no c.args.coming.now.attach (row_attach_is_turns c.args.coming.now s.daemon c.requires.comes) c.if-not-is_current.ensures c.in-Some.is) refl
    (went_unseen s row c.args.coming.now.job (came.Failed c.in-Some.no) answers.FailedUmount s.kernel c.args.self.now.kernel _ (row_token_is_job c.args.coming.now s.daemon c.requires.comes) c.finish.ensures refl)

pub returns-in-Ok : goal.returns-in-Ok
returns-in-Ok c =
    let s = whole_state c.args.self.now in
    let row = row_for s.daemon c.args.coming.now.job in
    let gone = gone_from s.kernel c.args.trigger.now in
    goes_by_equal_outcome (umount_act s row c.args.trigger.now c.args.failure) (umounts s row c.args.trigger.now) s answers.DidUmount _
    (umount_tried s row c.args.trigger.now c.args.failure c.args.coming.now.attach None (row_attach_is_turns c.args.coming.now s.daemon c.requires.comes) c.if-not-is_current.ensures (none_unless_failed c.args.failure c.in_default.not-Some) c.in-Ok.ensures.refusal)
    refl
    (went s row c.args.coming.now.job came.Done answers.DidUmount (seen.Unmounted gone ∷ []) (without_mounts gone s.kernel) c.umount_from.new.self _ _ (row_token_is_job c.args.coming.now s.daemon c.requires.comes)
    c.finish-in-Ok.ensures c.in-Ok.ensures.ok c.in-Ok.ensures.shown)

pub returns-else-is_no_memory : goal.returns-else-is_no_memory
returns-else-is_no_memory c =
    let s = whole_state c.args.self.now in
    let row = row_for s.daemon c.args.coming.now.job in
    let errno = c.in-Err.errno in
    goes_by_equal_outcome (umount_act s row c.args.trigger.now c.args.failure) (umount_fails s row ENOENT) s answers.FailedUmount _
    (umount_tried s row c.args.trigger.now c.args.failure c.args.coming.now.attach (Some errno) (row_attach_is_turns c.args.coming.now s.daemon c.requires.comes) c.if-not-is_current.ensures (none_unless_failed c.args.failure c.in_default.not-Some)
    (first_unless_memory _ (umount_from_refusal s.kernel c.args.coming.now.attach c.args.trigger.now) errno c.umount_from.result c.in-Err.is c.umount_from.ensures.refusal (sym c.is_no_memory.ensures ∙ c.if-is_no_memory.false))) refl
    (went s row c.args.coming.now.job (came.Failed ENOENT) answers.FailedUmount [] s.kernel c.umount_from.new.self _ _ (row_token_is_job c.args.coming.now s.daemon c.requires.comes) c.finish-in-Err.ensures c.in-Err.ensures.err
    (c.in-Err.ensures.unseen ∙ sym (append-nil s.trace)))
