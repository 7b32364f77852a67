use Rattle.std.proofs.Common.{sym, ap, ◌∙◌}
use Rattle.std.specs.Option.{option_copied}
use Rattle.am_names.proofs.BeyondLemmas.{none_below_first, none_above_last}
use Rattle.am_group.proofs.tables.is_beyond.Goals as goal

pub returns-then-lt : goal.returns-then-lt
returns-then-lt c =
    let there = sym c.first.ensures.value ∙ ap option_copied c.in-Some.is in
    none_below_first c.args.groups.now c.args.group c.in-Some.first.now c.requires there (sym c.lt.ensures ∙ c.if-lt.true)

pub returns : goal.returns
returns c =
    let there = sym c.last.ensures.value ∙ ap option_copied c.in-Some-last.is in
    none_above_last c.args.groups.now c.args.group c.in-Some-last.last.now c.requires there c.lt-2.result c.lt-2.ensures
