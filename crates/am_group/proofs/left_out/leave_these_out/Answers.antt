use Rattle.std.proofs.Common.{rules, tests}
use Rattle.std.specs.Prelude.{not}
use Rattle.std.proofs.lemmas.Fn.{filter_same}
use Rattle.am_names.specs.{MemberRow, is_among}
use Rattle.am_group.proofs.left_out.leave_these_out.Goals as goal

pub returns-then-are_ordered : goal.returns-then-are_ordered
returns-then-are_ordered c =
    filter_same _ (λ (row : MemberRow). not (is_among c.args.gone.now row.mount)) _
    (λ x b q k. search (rules, tests)) _ _ c.retain.ensures.filtered

pub returns-else-are_ordered : goal.returns-else-are_ordered
returns-else-are_ordered c =
    filter_same _ (λ (row : MemberRow). not (is_among c.args.gone.now row.mount)) _
    (λ x b q k. search (rules, tests)) _ _ c.retain-else-are_ordered.ensures.filtered
