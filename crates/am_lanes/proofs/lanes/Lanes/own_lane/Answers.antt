use Rattle.std.proofs.Common.{List, Option, ap, subst, ◌∙◌, IfSome}
use Rattle.std.specs.List.{position}
use Rattle.am_lanes.specs.{Holder, is_of}
use Rattle.am_lanes.specs.Inside.{IsIndexOf}
use Rattle.am_lanes.specs.declared.index.Index.{Index}
use Rattle.am_lanes.proofs.IndexLemmas.{number_found}
use Rattle.am_lanes.proofs.lanes.Lanes.own_lane.Goals as goal

pub returns-in-Some : goal.returns-in-Some
returns-in-Some c =
    let lanes = c.self.inside.holders.items in
    let is = subst (λ (o : Option Index). IfSome o (IsIndexOf lanes)) c.in-Some.is c.self.invariant.indexed in
    c.lane_of.ensures
    ∙ number_found lanes c.in-Some.index is c.args.number
    ∙ ap (λ (xs : List (Option Holder)). position (λ lane. is_of c.args.number lane) xs) c.self.view_is
