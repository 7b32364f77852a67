use Rattle.std.proofs.Common.{◌≡◌, true, sym, ◌∙◌}
use Rattle.std.specs.Prelude.{◌==◌}
use Rattle.std.specs.Cmp.Lexicographic.{pointwise, pointwise_decides, bytes_decides}
use Rattle.std.specs.Str.{bytes_eq}
use Rattle.std.proofs.lemmas.Bool.Decides.{same_from_decides}
use Rattle.am_names.specs.{names_of}
use Rattle.am_mount.proofs.RowLemmas.{is_position_some}
use Rattle.am_mount.proofs.tree.is_at.Goals as goal

pub returns-then-eq : goal.returns-then-eq
returns-then-eq c =
    let position = c.in-Some.position in
    let place = names_of c.args.place.now in
    let mount : (position.mount == c.args.mount) ≡ true = cc in
    same_from_decides c.is_at.result (pointwise bytes_eq position.place place) c.is_at.ensures.same (pointwise_decides bytes_decides position.place place) ∙
    sym (is_position_some c.args.mount place c.args.row.now.mountpoint position (cc) mount)
