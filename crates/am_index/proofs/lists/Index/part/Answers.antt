use Rattle.std.proofs.Common.{◌≤◌, ◌<◌, length, arith, rules}
use Rattle.am_index.specs.{listed}
use Rattle.am_index.proofs.JoinLemmas.{parts_more}
use Rattle.am_index.proofs.lists.Index.part.Goals as goal

pub loop-left-preserved : goal.loop-left-preserved
loop-left-preserved c =
    let some : 0 < c.loop-left.left = c.loop-left-test.true in
    let bound : c.loop-left.left ≤ length (listed c.args.self.now c.args.from) = c.loop-left.invariant.0 in (
      omega arith,
      parts_more c.loop-left.left c.args.from c.args.to _ c.args.self.now c.loop-left.self c.remove.new.self
          c.requires.others some bound (search rules) c.loop-left.invariant.1 c.remove.ensures,
    )
