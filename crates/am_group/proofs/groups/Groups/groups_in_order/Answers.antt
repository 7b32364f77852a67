use Rattle.std.proofs.Common.{◌∙◌}
use Rattle.am_group.proofs.groups.Groups.groups_in_order.Goals as goal

pub returns-clause-exact : goal.returns-clause-exact
returns-clause-exact c = λ g. c.in_order.ensures.same g ∙ c.in_ok-groups.ensures g
