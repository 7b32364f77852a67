use Rattle.std.proofs.Common.{sym, ◌∙◌}
use Rattle.am_kernel.specs.{mkdir_refusal}
use Rattle.am_world.specs.{whole_state, row_for}
use Rattle.am_world.proofs.ActLemmas.{row_token_is_job}
use Rattle.am_world.proofs.WentLemmas.{mkdir_goes, mkdir_fails}
use Rattle.am_world.proofs.machine.Machine.make_directory.Goals as goal

pub returns-in-Ok : goal.returns-in-Ok
returns-in-Ok c =
    let s = whole_state c.args.self.now in
    mkdir_goes c.mkdir.result (mkdir_refusal s.kernel c.args.coming.now.attach c.args.trigger.now) s (row_for s.daemon c.args.coming.now.job) c.args.trigger.now c.args.coming.now.job c.mkdir.new.self _
    c.mkdir.ensures.refusal c.mkdir.ensures.ok c.mkdir.ensures.err (sym c.as_made-came.ensures ∙ c.in-Ok.is) (row_token_is_job c.args.coming.now s.daemon c.requires.comes) c.finish.ensures

pub returns-in-Err : goal.returns-in-Err
returns-in-Err c =
    let s = whole_state c.args.self.now in
    mkdir_fails c.mkdir.result (mkdir_refusal s.kernel c.args.coming.now.attach c.args.trigger.now) s (row_for s.daemon c.args.coming.now.job) c.args.trigger.now c.in-Err.errno c.mkdir.new.self
    c.mkdir.ensures.refusal c.mkdir.ensures.err (sym c.as_made-came.ensures ∙ c.in-Err.is)
