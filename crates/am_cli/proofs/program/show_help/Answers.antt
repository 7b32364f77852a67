use Rattle.std.proofs.Common.{append-nil}
use Rattle.am_cli.specs.Help.{help_text}
use Rattle.am_cli.proofs.Ends.{ends_saying_help}
use Rattle.am_cli.proofs.program.show_help.Goals as goal

pub returns : goal.returns
returns g c recalled input =
    let contents = g.W.Write.contents in
    let tells = g.E.Write.contents in
    ends_saying_help recalled c.args.topic input (contents c.args.writer.now) (contents c.say.new.writer) (tells c.args.errors.now) (tells c.say.new.errors) c.say.result (rw (c.help_text.ensures, append-nil (help_text c.args.topic)) at c.say.ensures)
