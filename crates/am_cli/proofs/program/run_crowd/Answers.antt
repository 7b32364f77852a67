use Rattle.am_cli.proofs.Ends.{ends_not_run}
use Rattle.am_cli.proofs.program.run_crowd.Goals as goal

pub returns-in-Err : goal.returns-in-Err
returns-in-Err g c recalled input =
    let tells = g.E.Write.contents in
    ends_not_run recalled c.args.walkers c.args.workers c.args.rounds input (g.W.Write.contents c.args.writer.now) (tells c.args.errors.now) (tells c.tell_word.new.errors) c.tell_word.ensures

pub returns-in-Ok : goal.returns-in-Ok
returns-in-Ok g c recalled input =
    c.tell.ensures c.args.walkers c.args.workers c.args.rounds recalled input c.in-Ok.ensures
