use Rattle.std.proofs.Common.{◌<◌, ◌-◌, ◌==◌, arith}
use Rattle.am_trigger.proofs.FailureLemmas.{left_out_more}
use Rattle.am_trigger.proofs.failures.mend_fs.Goals as goal

pub loop-left-preserved : goal.loop-left-preserved
loop-left-preserved c =
    let n = c.loop-left.left in
    let some : 0 < n = c.loop-left-test.true in
    record {
      within = omega (arith, c.loop-left.invariant.within);
      entries = left_out_more (λ row. row.0.fs == c.args.fs) c.args.rows.now.entries c.loop-left.rows.entries c.mend_index.new.rows.entries (n - 1) n (omega arith) c.loop-left.invariant.within c.loop-left.invariant.entries c.mend_index.ensures.entries;
      room = omega (arith, c.loop-left.invariant.room, c.mend_index.ensures.room);
    }
