use Rattle.std.proofs.Common.{sym, ◌∙◌, rules, tests, codes, bytes_eq}
use Rattle.std.proofs.lemmas.Iterator.{YieldsList-from_slice}
use Rattle.std.proofs.lemmas.Iterator.Search.{any_from_yields_List}
use Rattle.am_mount_lines.proofs.Found.{any_of}
use Rattle.am_mount_lines.proofs.fields.is_unbindable.Goals as goal

pub returns : goal.returns
returns c =
    any_from_yields_List
    (λ field. bytes_eq field.now (codes "unbindable")) _ _ _
    c.any.ensures.ran (YieldsList-from_slice c.args.fields.now cc) (λ x b q k. search (rules, tests)) ∙
    sym (any_of (λ field. field.now) (λ field. bytes_eq field (codes "unbindable")) c.args.fields.now)
