use Rattle.am_script.specs.{PlaysInput, StopsInput}
use Rattle.am_views.specs.{traced}
use Rattle.am_views.specs.declared.trace.TraceStyle.TheVariants.{WithNumbers}
use Rattle.am_c.proofs.FillsLemmas.{fills_buffer}
use Rattle.am_c.proofs.script.am_trace.Goals as goal

pub returns : goal.returns
returns c =
    let run = c.trace_script-went in
    fills_buffer (PlaysInput (traced WithNumbers)) (StopsInput (traced WithNumbers)) c.args.script.now run.new.reader.now c.new-writer.result.items run.new.writer.items c.args.out.now c.tell.new.out run.result c.tell.result c.fault_number.result c.new-writer.ensures.items run.ensures.ok run.ensures.err c.tell.ensures.buffer c.tell.ensures.told c.fault_number.ensures
