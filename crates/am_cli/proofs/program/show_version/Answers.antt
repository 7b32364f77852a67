use Rattle.am_cli.proofs.Ends.{ends_saying_version}
use Rattle.am_cli.proofs.program.show_version.Goals as goal

pub returns : goal.returns
returns g c recalled input =
    let contents = g.W.Write.contents in
    let tells = g.E.Write.contents in
    ends_saying_version recalled input (contents c.args.writer.now) (contents c.say.new.writer) (tells c.args.errors.now) (tells c.say.new.errors) c.say.result (rw (c.as_bytes.ensures.value, c.version.ensures) at c.say.ensures)
