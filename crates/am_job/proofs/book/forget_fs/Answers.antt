use Rattle.std.proofs.Common.{◌<◌, ◌-◌, ◌==◌, arith}
use Rattle.am_names.proofs.LeftOutLemmas.{left_out_more}
use Rattle.am_job.proofs.book.forget_fs.Goals as goal

pub loop-left-preserved : goal.loop-left-preserved
loop-left-preserved c =
    let n = c.loop-left.left in
    let some : 0 < n = c.loop-left-test.true in
    record {
      within = omega (arith, c.loop-left.invariant.within);
      entries = left_out_more (λ row. row.0.fs == c.args.fs) c.args.records.now.entries c.loop-left.records.entries c.forget_index.new.records.entries (n - 1) n (omega arith) c.loop-left.invariant.within c.loop-left.invariant.entries c.forget_index.ensures.entries;
      room = omega (arith, c.loop-left.invariant.room, c.forget_index.ensures.room);
    }
