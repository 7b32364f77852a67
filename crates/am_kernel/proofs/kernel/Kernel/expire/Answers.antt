use Rattle.std.proofs.Common.{ℕ}
use Rattle.am_kernel.specs.{expire_at}
use Rattle.am_kernel.proofs.MomentLemmas.{moment_counts}
use Rattle.am_kernel.proofs.kernel.Kernel.expire.Goals as goal

pub returns : goal.returns
returns c =
    let k = c.args.self.now in
    let of = λ (m : ℕ). expire_at c.args.pipe k c.args.walker c.args.fs m c.args.immediate in
    moment_counts of c.args.now c.moment-moment.result c.in_ok-progress.progress k c.expire_at.new.self _ _ _ c.moment-moment.ensures c.self.view_is c.in_ok-progress.ensures
