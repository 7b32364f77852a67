use Rattle.std.proofs.Common.{ℕ, Option, subst}
use Rattle.am_mountinfo.specs.{ShowsInput, StopsShowing}
use Rattle.am_c.specs.Scripts.{Fills}
use Rattle.am_c.proofs.FillsLemmas.{fills_buffer}
use Rattle.am_c.proofs.script.am_world.Goals as goal

pub returns : goal.returns
returns c =
    let run = c.world_script-went in
    let only = c.namespace_where-only.result in
    subst (λ (o : Option ℕ). Fills (ShowsInput o) (StopsShowing o) c.args.script.now c.args.out.now c.tell.new.out c.tell.result c.fault_number.result) c.namespace_where-only.ensures (fills_buffer (ShowsInput only) (StopsShowing only) c.args.script.now run.new.reader.now c.new-writer.result.items run.new.writer.items c.args.out.now c.tell.new.out run.result c.tell.result c.fault_number.result c.new-writer.ensures.items run.ensures.ok run.ensures.err c.tell.ensures.buffer c.tell.ensures.told c.fault_number.ensures)
