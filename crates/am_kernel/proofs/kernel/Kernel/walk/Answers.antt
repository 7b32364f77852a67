use Rattle.std.proofs.Common.{ℕ}
use Rattle.am_kernel.specs.{first_attempt, walk_at}
use Rattle.am_kernel.proofs.MomentLemmas.{moment_counts}
use Rattle.am_kernel.proofs.kernel.Kernel.walk.Goals as goal

pub returns : goal.returns
returns c =
    let k = c.args.self.now in
    let of = λ (m : ℕ). walk_at c.args.pipe k (first_attempt c.args.walker c.args.ns c.args.path.now m) in
    moment_counts of c.args.now c.moment-moment.result c.in_ok-progress.progress k c.walk_at.new.self _ _ _ c.moment-moment.ensures c.self.view_is c.in_ok-progress.ensures
