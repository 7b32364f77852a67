use Rattle.std.proofs.Common.{List, map, sym, subst}
use Rattle.am_cli.specs.Program.{TellsRefusal}
use Rattle.am_cli.specs.declared.args.ArgsFault.{ArgsFault}
use Rattle.am_cli.proofs.program.tell_refusal.Goals as goal

pub returns-in-Usage : goal.returns-in-Usage
returns-in-Usage g c =
    let tells = g.E.Write.contents in
    subst (λ (fault : ArgsFault). TellsRefusal (map (λ word. word.now) c.args.words.now) fault (tells c.args.errors.now) (tells c.tell_usage.new.errors)) (sym c.in-Usage.is)
    (c.hint_for.result, c.hint_for.ensures, c.tell_usage.ensures)
