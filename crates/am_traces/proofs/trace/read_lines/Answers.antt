use Rattle.std.proofs.Common.{arith, rules}
use Rattle.am_script.specs.{lines_of}
use Rattle.am_traces.specs.Texts.{lines_read, IsReadAs}
use Rattle.am_traces.proofs.TraceLemmas.{cut, more, last_line, stopped}
use Rattle.am_traces.proofs.trace.read_lines.Goals as goal

pub returns-in_err-take_line-clause-err : goal.returns-in_err-take_line-clause-err
returns-in_err-take_line-clause-err c =
    let parts = cut c.cut_at_line_feed.result.1 (lines_of c.loop-seen.left.now) c.cut_at_line_feed.result.0.now c.cut_at_line_feed.ensures.last c.cut_at_line_feed.ensures.cut in
    let all : IsReadAs (lines_read 0 (lines_of c.args.text.now)) c.in_err-take_line.field-0.0 =
    stopped c.loop-seen.above c.cut_at_line_feed.result.0.now c.loop-seen.seen.items _ parts.rest _ _ parts.is c.in_err-take_line.ensures.err c.loop-seen.invariant.same in
    search rules

pub returns-in-None-clause-ok : goal.returns-in-None-clause-ok
returns-in-None-clause-ok c =
    last_line c.loop-seen.above c.cut_at_line_feed.result.0.now c.loop-seen.seen.items c.take_line.new.seen.items _ _
    (rw c.in-None.is at c.cut_at_line_feed.ensures.last) c.in_ok-take_line.ensures.ok c.loop-seen.invariant.same

pub loop-seen-preserved : goal.loop-seen-preserved
loop-seen-preserved c =
    let here = rw c.in-Some.is at c.cut_at_line_feed.ensures.cut in
    let shorter = rw c.in-Some.is at c.cut_at_line_feed.ensures.shorter in
    record {
      same = more c.loop-seen.above c.cut_at_line_feed.result.0.now c.loop-seen.seen.items c.take_line.new.seen.items _ _ _ here c.in_ok-take_line.ensures.ok c.loop-seen.invariant.same;
      counted = omega (arith, shorter, c.loop-seen.invariant.counted);
    }
