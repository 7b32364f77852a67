use Rattle.std.proofs.Common.{List, ℕ, subst}
use Rattle.am_cli.specs.Telling.{scene_told, Tells}
use Rattle.am_cli.proofs.telling.tell_scene.Goals as goal

pub returns : goal.returns
returns g c =
    let tells = g.E.Write.contents in
    (c.scene_help-below.result.items, c.scene_help-below.ensures, subst (λ (t : List ℕ). Tells (tells c.args.errors.now) (tells c.tell_scene_line.new.errors) (scene_told c.args.fault t)) c.deref.ensures.value c.tell_scene_line.ensures)
