use Rattle.std.proofs.Common.{ℕ, sym, ap, ◌∙◌}
use Rattle.am_kernel.specs.{answer_refusal}
use Rattle.am_machine.specs.{reply_by}
use Rattle.am_world.specs.{whole_state, row_for}
use Rattle.am_world.specs.declared.acts.ActKind.TheVariants as act_kind
use Rattle.am_world.proofs.ActLemmas.{acts_mount, acts_umount, acts_record, acts_reply, goes_as_looked_up, next_by_look_up, row_attach_is_turns, row_token_is_job}
use Rattle.am_world.proofs.machine.Machine.act.Goals as goal

pub returns-in-Mount : goal.returns-in-Mount
returns-in-Mount c =
    let s = whole_state c.args.self.now in
    let found = sym c.next_act_of.ensures ∙ c.in-Some.is in
    goes_as_looked_up s c.args.job c.in-Some.coming c.args.failure _ c.mount_on.result _ found (acts_mount s c.in-Some.coming c.args.failure c.in-Mount.trigger (next_by_look_up c.in-Some.coming c.args.job (act_kind.Mount c.in-Mount.trigger) s.daemon found c.in-Mount.is)) c.mount_on.ensures

pub returns-in-Umount : goal.returns-in-Umount
returns-in-Umount c =
    let s = whole_state c.args.self.now in
    let found = sym c.next_act_of.ensures ∙ c.in-Some.is in
    goes_as_looked_up s c.args.job c.in-Some.coming c.args.failure _ c.umount_from.result _ found (acts_umount s c.in-Some.coming c.args.failure c.in-Umount.trigger (next_by_look_up c.in-Some.coming c.args.job (act_kind.Umount c.in-Umount.trigger) s.daemon found c.in-Umount.is)) c.umount_from.ensures

pub returns-in-Record : goal.returns-in-Record
returns-in-Record c =
    let s = whole_state c.args.self.now in
    let found = sym c.next_act_of.ensures ∙ c.in-Some.is in
    goes_as_looked_up s c.args.job c.in-Some.coming c.args.failure _ c.write_down.result _ found (acts_record s c.in-Some.coming c.args.failure c.in-Record.trigger c.in-Record.entry (next_by_look_up c.in-Some.coming c.args.job (act_kind.Record c.in-Record.trigger c.in-Record.entry) s.daemon found c.in-Record.is)) c.write_down.ensures

pub returns-in-Reply : goal.returns-in-Reply
returns-in-Reply c =
    let s = whole_state c.args.self.now in
    let found = sym c.next_act_of.ensures ∙ c.in-Some.is in
    let n = next_by_look_up c.in-Some.coming c.args.job (act_kind.Reply c.in-Reply.status) s.daemon found c.in-Reply.is in
    let row = row_for s.daemon c.in-Some.coming.job in
    let same = ap (λ (a : ℕ). reply_by (answer_refusal s.kernel a row.token) s row c.in-Reply.status) (row_attach_is_turns c.in-Some.coming s.daemon n.comes)
    ∙ ap (λ (t : ℕ). reply_by (answer_refusal s.kernel c.in-Some.coming.attach t) s row c.in-Reply.status) (row_token_is_job c.in-Some.coming s.daemon n.comes) in
    goes_as_looked_up s c.args.job c.in-Some.coming c.args.failure _ c.reply.result _ found (acts_reply s c.in-Some.coming c.args.failure c.in-Reply.status n ∙ same) c.reply.ensures
