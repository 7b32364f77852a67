use Rattle.std.proofs.Common.{◌∙◌, sym, length}
use Rattle.std.specs.Prelude.{nat_lt}
use Rattle.std.proofs.lemmas.Option.{cond_some}
use Rattle.am_draw.specs.{empty_lane}
use Rattle.am_draw.proofs.FailingLemmas.{none_empty, taken_nowhere, taken_there}
use Rattle.am_draw.proofs.failing.take_lane.Goals as goal

pub returns-in-Some : goal.returns-in-Some
returns-in-Some c =
    let lanes = c.args.lanes.now.items in
    let found = rw c.as_slice.ensures.value at (sym c.first_empty.ensures ∙ c.in-Some.is) in
    rw (sym (cond_some (nat_lt (empty_lane lanes) (length lanes)) (empty_lane lanes) c.in-Some.lane found).1) (taken_there c.args.held lanes)

pub returns-in-None : goal.returns-in-None
returns-in-None c =
    let found = rw c.as_slice.ensures.value at (sym c.first_empty.ensures ∙ c.in-None.is) in
    sym (taken_nowhere c.args.held c.args.lanes.now.items (none_empty c.args.lanes.now.items found))
