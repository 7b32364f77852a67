use Rattle.std.proofs.Common.{subst}
use Rattle.am_explore.specs.Leads.{IsMissing, NoneTaken}
use Rattle.am_explore.specs.Orders.{Stand}
use Rattle.am_explore.proofs.led.lead.Goals as goal

pub returns-in-NoStep : goal.returns-in-NoStep
returns-in-NoStep c =
    subst (λ (z : Stand). NoneTaken c.args.scene.now z c.args.numbers.now) c.in_ok-copy.ensures
    (rw c.in-NoStep.is at c.in_ok-go_along.ensures)

pub returns-in-NoChoice : goal.returns-in-NoChoice
returns-in-NoChoice c =
    subst (λ (z : Stand). IsMissing c.args.scene.now z c.args.numbers.now c.in-NoChoice.at) c.in_ok-copy.ensures
    (rw c.in-NoChoice.is at c.in_ok-go_along.ensures)
