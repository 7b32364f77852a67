use Rattle.std.proofs.lemmas.List.{take_rest}
use Rattle.am_script.proofs.Writes.{took_more}
use Rattle.am_script.proofs.output.write_bytes.Goals as goal

pub loop-rest-preserved : goal.loop-rest-preserved
loop-rest-preserved g c = rw (take_rest c.loop-rest.rest.now c.write_once-taken.result) (took_more _ _ _ _ _ c.write_once-taken.result c.loop-rest.invariant c.write_once-taken.ensures.taken)
