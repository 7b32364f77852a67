use Rattle.std.proofs.Common.{◌∙◌, refl}
use Rattle.am_import.proofs.likeness.unlike_found.Goals as goal

pub returns : goal.returns
returns c =
    let t = c.args.world.now.kernel.table in
    let rows = c.args.rows.now in
    c.first_unlike.ensures
    ∙ rw (c.has_namespace.ensures t rows c.requires, c.is_on.ensures, c.parent_place.ensures t c.requires, c.has_path.ensures t rows c.requires, c.has_shown.ensures t rows c.requires, c.has_group.ensures rows c.requires, c.has_master.ensures rows c.requires, c.same_bool.ensures, c.is_unbindable.ensures) refl
