use Rattle.std.proofs.Common.{sym, ◌∙◌, rules, tests}
use Rattle.std.proofs.lemmas.Iterator.{YieldsList-from_slice}
use Rattle.std.proofs.lemmas.Iterator.Search.{position_from_yields_List}
use Rattle.am_mount_lines.specs.Lines.{is_dash}
use Rattle.am_mount_lines.proofs.Found.{position_of}
use Rattle.am_mount_lines.proofs.words.dash_place.Goals as goal

pub returns : goal.returns
returns c =
    position_from_yields_List
    (λ word. is_dash word.now) _ _ _
    c.position.ensures.ran (YieldsList-from_slice c.args.words.now cc) (λ x b q k. search (rules, tests)) ∙
    sym (position_of (λ word. word.now) is_dash c.args.words.now)
