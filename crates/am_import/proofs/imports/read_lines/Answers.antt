use Rattle.std.proofs.Common.{◌+◌, option_copied, refl, arith}
use Rattle.am_import.proofs.LineLemmas.{reading_more}
use Rattle.am_import.proofs.imports.read_lines.Goals as goal

pub loop-rest-preserved : goal.loop-rest-preserved
loop-rest-preserved c =
    let fits = rw c.in-Some.is at c.loop-rest.invariant.fits in
    record {
      going = reading_more c.args.text.now c.in-Some.here.now c.split_line.result.0.now (option_copied c.split_line.result.1) c.loop-rest.number (c.loop-rest.number + 1) c.loop-rest.mounts c.take_line.new.mounts refl c.split_line.ensures.lines (rw c.in-Some.is at c.loop-rest.invariant.going) c.in_ok-take_line.ensures.ok;
      fits = omega (arith, c.split_line.ensures.shorter, fits);
    }
