use Rattle.std.proofs.Common.{◌∙◌, sym, length, arith}
use Rattle.std.specs.Prelude.{nat_lt}
use Rattle.std.proofs.lemmas.Bool.Decides.{nat_tests}
use Rattle.std.proofs.lemmas.Option.{cond_some}
use Rattle.am_draw.specs.{empty_lane}
use Rattle.am_draw.proofs.FailingLemmas.{lane_within}
use Rattle.am_draw.proofs.failing.empty_lane.Goals as goal

pub returns-in-Some-clause-lane : goal.returns-in-Some-clause-lane
returns-in-Some-clause-lane c =
    let lanes = c.args.lanes.now in
    sym (cond_some (nat_lt (empty_lane lanes) (length lanes)) (empty_lane lanes) c.in-Some.lane (sym c.first_empty.ensures ∙ c.in-Some.is)).1

pub returns-in-None-clause-lane : goal.returns-in-None-clause-lane
returns-in-None-clause-lane c =
    let lanes = c.args.lanes.now in
    grind (arith, nat_tests, lane_within lanes, sym c.first_empty.ensures ∙ c.in-None.is)
