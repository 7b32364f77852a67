use Rattle.std.proofs.Common.{◌≡◌, ◌<◌, ◌^◌, ℕ, List, Option, length, sym, ap, subst, ◌∙◌, IfSome, rules}
use Rattle.am_lanes.specs.{Ending, Holder, IsNextEnding}
use Rattle.am_lanes.specs.declared.holder.Ending.TheVariants.{Of, In}
use Rattle.am_lanes.specs.Inside.{IsIndexOf, from_on, number_lane}
use Rattle.am_lanes.specs.declared.index.Index.{Index}
use Rattle.am_lanes.proofs.IndexLemmas.{next_of_found, next_in_found, next_fits}
use Rattle.am_lanes.proofs.lanes.Lanes.next_ending.Goals as goal

pub returns-in-Of-clause-next : goal.returns-in-Of-clause-next
returns-in-Of-clause-next c =
    let lanes = c.self.inside.holders.items in
    let is = subst (λ (o : Option Index). IfSome o (IsIndexOf lanes)) c.in-Some.is c.self.invariant.indexed in
    let found : c.from_on.result ≡ from_on c.args.from (number_lane c.in-Some.index c.in-Of.number) = c.from_on.ensures ∙ ap (from_on c.args.from) c.lane_of.ensures in
    subst (λ (e : Ending). IsNextEnding e c.args.from c.args.self.now c.from_on.result) (sym c.in-Of.is)
    (subst (λ (xs : List (Option Holder)). IsNextEnding (Of c.in-Of.number) c.args.from xs c.from_on.result) c.self.view_is
    (subst (λ (o : Option ℕ). IsNextEnding (Of c.in-Of.number) c.args.from lanes o) (sym found)
    (next_of_found lanes c.in-Some.index is c.in-Of.number c.args.from)))

pub returns-in-Of-clause-fits : goal.returns-in-Of-clause-fits
returns-in-Of-clause-fits c =
    let fits : length c.self.inside.holders.items < 2 ^ 64 = search rules in
    next_fits c.args.ending.now c.args.from c.args.self.now c.from_on.result
    (subst (λ (xs : List (Option Holder)). length xs < 2 ^ 64) c.self.view_is fits)
    (returns-in-Of-clause-next c)

pub returns-in-In-clause-next : goal.returns-in-In-clause-next
returns-in-In-clause-next c =
    let lanes = c.self.inside.holders.items in
    let fits : length c.self.inside.holders.items < 2 ^ 64 = search rules in
    let is = subst (λ (o : Option Index). IfSome o (IsIndexOf lanes)) c.in-Some.is c.self.invariant.indexed in
    subst (λ (e : Ending). IsNextEnding e c.args.from c.args.self.now c.next_in.result) (sym c.in-In.is)
    (subst (λ (xs : List (Option Holder)). IsNextEnding (In c.in-In.fs) c.args.from xs c.next_in.result) c.self.view_is
    (subst (λ (fs : ℕ). IsNextEnding (In fs) c.args.from lanes c.next_in.result) c.fs.view_is
    (next_in_found lanes c.in-Some.index fits is c.fs.inside.0 c.args.from c.next_in.result c.next_in.ensures)))

pub returns-in-In-clause-fits : goal.returns-in-In-clause-fits
returns-in-In-clause-fits c =
    let fits : length c.self.inside.holders.items < 2 ^ 64 = search rules in
    next_fits c.args.ending.now c.args.from c.args.self.now c.next_in.result
    (subst (λ (xs : List (Option Holder)). length xs < 2 ^ 64) c.self.view_is fits)
    (returns-in-In-clause-next c)
