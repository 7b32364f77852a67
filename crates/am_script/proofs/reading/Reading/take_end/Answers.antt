use Rattle.std.proofs.Common.{◌++◌}
use Rattle.am_script.proofs.ReadingLemmas.{long_line, too_long}
use Rattle.am_script.proofs.reading.Reading.take_end.Goals as goal

pub returns-in-Err-clause-err : goal.returns-in-Err-clause-err
returns-in-Err-clause-err g c =
    let line = c.args.self.now.held.items ++ c.args.end.now in
    c.stop_long.ensures (g.M.Manner.writes c.args.manner.now) line (long_line line (too_long c.args.self.now.held.items c.args.end.now c.in-Err.ensures.variant))
