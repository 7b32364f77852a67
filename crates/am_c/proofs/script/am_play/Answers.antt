use Rattle.am_script.specs.{PlaysInput, StopsInput, answers_alone}
use Rattle.am_c.proofs.FillsLemmas.{fills_buffer}
use Rattle.am_c.proofs.script.am_play.Goals as goal

pub returns : goal.returns
returns c =
    let run = c.run_script-went in
    fills_buffer (PlaysInput answers_alone) (StopsInput answers_alone) c.args.script.now run.new.reader.now c.new-writer.result.items run.new.writer.items c.args.out.now c.tell.new.out run.result c.tell.result c.fault_number.result c.new-writer.ensures.items run.ensures.ok run.ensures.err c.tell.ensures.buffer c.tell.ensures.told c.fault_number.ensures
