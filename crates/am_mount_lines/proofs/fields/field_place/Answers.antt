use Rattle.std.proofs.Common.{sym, ◌∙◌, rules, tests}
use Rattle.std.proofs.lemmas.Iterator.{YieldsList-from_slice}
use Rattle.std.proofs.lemmas.Iterator.Search.{position_from_yields_List}
use Rattle.am_mount_lines.specs.Traps.{begins}
use Rattle.am_mount_lines.proofs.Found.{position_of}
use Rattle.am_mount_lines.proofs.fields.field_place.Goals as goal

pub returns : goal.returns
returns c =
    position_from_yields_List
    (λ field. begins c.args.tag.now field.now) _ _ _
    c.position.ensures.ran (YieldsList-from_slice c.args.fields.now cc) (λ x b q k. search (rules, tests)) ∙
    sym (position_of (λ field. field.now) (begins c.args.tag.now) c.args.fields.now)
