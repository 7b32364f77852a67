use Rattle.std.proofs.Common.{rules, tests, bytes_eq}
use Rattle.std.proofs.lemmas.Iterator.Splits.{YieldsList-from_slice_split}
use Rattle.std.proofs.lemmas.Iterator.Search.{any_from_yields_List}
use Rattle.am_mount_lines.specs.Traps.{is_comma}
use Rattle.am_mount_lines.proofs.trap.has_option.Goals as goal

pub returns : goal.returns
returns c =
    any_from_yields_List
    (λ option. bytes_eq option c.args.word.now) _ _ _
    c.any.ensures.ran
    (YieldsList-from_slice_split _ is_comma c.args.options.now c.split.ensures.rest c.split.ensures.done
    c.split.ensures.closure (λ x b q k. search (rules, tests)))
    (λ x b q k. search (rules, tests))
