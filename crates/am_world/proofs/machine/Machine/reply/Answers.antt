use Rattle.std.proofs.Common.{◌≡◌, ℕ, ◌++◌, List, Option, None, refl, sym, ap, ◌∙◌}
use Rattle.am_names.specs.declared.errno.Errno.{Errno}
use Rattle.am_job.specs.declared.act.Outcome.TheVariants as came
use Rattle.am_state.specs.{Obs}
use Rattle.am_kernel.specs.{answer_refusal, acknowledged, answering}
use Rattle.am_machine.specs.declared.answer.Answer.TheVariants as answers
use Rattle.am_machine.specs.{reply_by}
use Rattle.am_world.specs.{whole_state, row_for}
use Rattle.am_world.proofs.ActLemmas.{row_token_is_job}
use Rattle.am_world.proofs.WentLemmas.{went, goes_by_equal_outcome}
use Rattle.am_world.proofs.machine.Machine.reply.Goals as goal

pub returns : goal.returns
returns c =
    let s = whole_state c.args.self.now in
    let number = c.args.coming.now.job in
    let shown = c.job.inside.0 in
    let status = c.args.status in
    let row = row_for s.daemon number in
    let token = row_token_is_job c.args.coming.now s.daemon c.requires.comes in
    let its : shown ≡ row.token = c.job.view_is ∙ sym token in
    goes_by_equal_outcome (reply_by (answer_refusal s.kernel c.args.coming.now.attach number) s row status) (reply_by None s row status) s answers.DidReply _
    (ap (λ (f : Option Errno). reply_by f s row status) (ap (λ (n : ℕ). answer_refusal s.kernel c.args.coming.now.attach n) (sym c.job.view_is) ∙ c.in_ok-answer.ensures.refusal)) refl
    (went s row number came.Done answers.DidReply (answering row.token status s.kernel) (acknowledged row.token status s.kernel) c.answer.new.self _ _ token c.finish.ensures
    (c.in_ok-answer.ensures.ok ∙ ap (λ (n : ℕ). acknowledged n status s.kernel) its)
    (c.in_ok-append.ensures.items
    ∙ ap (λ (more : List Obs). c.reserve.new.self.items ++ more) c.in_ok-shown.ensures
    ∙ ap (λ (t : List Obs). t ++ answering shown status s.kernel) c.reserve.ensures.items
    ∙ ap (λ (n : ℕ). s.trace ++ answering n status s.kernel) its))
