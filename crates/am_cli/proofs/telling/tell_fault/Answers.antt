use Rattle.std.proofs.Common.{List, ℕ, subst}
use Rattle.am_cli.specs.Telling.{script_told, Tells}
use Rattle.am_cli.proofs.telling.tell_fault.Goals as goal

pub returns : goal.returns
returns g c =
    let tells = g.E.Write.contents in
    (c.help-below.result.items, c.help-below.ensures, subst (λ (t : List ℕ). Tells (tells c.args.errors.now) (tells c.tell_script.new.errors) (script_told c.args.fault t)) c.deref.ensures.value c.tell_script.ensures)
