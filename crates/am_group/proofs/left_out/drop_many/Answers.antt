use Rattle.std.proofs.Common.{rules, tests}
use Rattle.std.specs.Prelude.{not}
use Rattle.std.proofs.lemmas.Fn.{filter_same}
use Rattle.am_names.specs.{GroupRow, is_among}
use Rattle.am_group.proofs.left_out.drop_many.Goals as goal

pub returns : goal.returns
returns c =
    filter_same _ (λ (row : GroupRow). not (is_among c.args.lost.now row.group)) _
    (λ x b q k. search (rules, tests)) _ _ c.retain.ensures.filtered
