use Rattle.std.proofs.Common.{ℕ}
use Rattle.am_kernel.specs.{resume_at}
use Rattle.am_kernel.proofs.MomentLemmas.{moment_counts}
use Rattle.am_kernel.proofs.kernel.Kernel.resume.Goals as goal

pub returns : goal.returns
returns c =
    let k = c.args.self.now in
    let of = λ (m : ℕ). resume_at c.args.pipe k c.args.walker m in
    moment_counts of c.args.now c.moment-moment.result c.in_ok-progress.progress k c.resume_at.new.self _ _ _ c.moment-moment.ensures c.self.view_is c.in_ok-progress.ensures
