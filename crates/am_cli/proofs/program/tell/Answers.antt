use Rattle.am_cli.proofs.Ends.{ends_saying_rounds}
use Rattle.am_cli.proofs.program.tell.Goals as goal

pub returns : goal.returns
returns g c walkers workers rounds recalled input counted =
    let contents = g.W.Write.contents in
    let tells = g.E.Write.contents in
    ends_saying_rounds recalled walkers workers rounds input (contents c.args.writer.now) (contents c.say.new.writer) (tells c.args.errors.now) (tells c.say.new.errors) c.args.tally c.say.result counted (rw (c.as_bytes.ensures.value, c.format.ensures.text) at c.say.ensures)
