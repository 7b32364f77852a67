use Rattle.std.proofs.Common.{◌∙◌, Ok, option_copied, ap, arith}
use Rattle.am_script.specs.{lines_in, size_in, events_from}
use Rattle.am_script.proofs.Openings.{event_skipped}
use Rattle.am_script.proofs.visit.next_event.Goals as goal

pub loop-rest-preserved : goal.loop-rest-preserved
loop-rest-preserved c =
    let all = events_from c.args.broke c.args.line (lines_in (option_copied c.args.rest)) in
    let lines = lines_in (option_copied c.split_line.result.1) in
    record {
      same = event_skipped all c.args.broke c.loop-rest.number (option_copied c.loop-rest.rest) c.in-Some.here.now c.split_line.result.0.now lines c.loop-rest.invariant.same (ap option_copied c.in-Some.is) c.split_line.ensures.lines (c.in-Ok-None.ensures ∙ ap Ok c.in-Ok-None.field-0-is);
      fits = omega (arith, ap size_in (ap option_copied c.in-Some.is), c.split_line.ensures.shorter, c.loop-rest.invariant.fits);
      fewer = omega (arith, ap size_in (ap option_copied c.in-Some.is), c.split_line.ensures.shorter, c.loop-rest.invariant.fewer);
    }
