use Rattle.std.proofs.Common.{is_some, sym, ap, ◌∙◌}
use Rattle.std.specs.Map.{lookup, keys_of}
use Rattle.std.specs.List.{IsDistinct}
use Rattle.std.specs.Option.{option_copied, option_map}
use Rattle.std.proofs.Common.{subst}
use Rattle.am_ordered.proofs.SlotLemmas.{lookup_is, distinct}
use Rattle.am_ordered.proofs.ordered.OrderedMap.turn_of.Goals as goal

pub returns-in_err-slot-clause-found : goal.returns-in_err-slot-clause-found
returns-in_err-slot-clause-found g c =
    let inside = c.self.inside in
    let is = lookup_is g.K.PartialEq.eq g.met.K.Eq.laws inside.slots.entries c.self.invariant.1 inside.order.items c.self.invariant.0 c.args.key.now in
    ap is_some c.from_residual.ensures
    ∙ ap is_some (sym (is ∙ ap (option_map (λ s. s.value)) (sym c.get.ensures.value ∙ ap option_copied c.in_err-slot.was)))
    ∙ ap (λ t. is_some (lookup (g.K.PartialEq.eq c.args.key.now) t.entries)) c.self.view_is

pub returns-in_err-slot-clause-unique : goal.returns-in_err-slot-clause-unique
returns-in_err-slot-clause-unique g c =
    let inside = c.self.inside in
    subst (λ t. IsDistinct g.K.PartialEq.eq (keys_of t.entries)) c.self.view_is (distinct g.K.PartialEq.eq g.met.K.Eq.laws inside.slots.entries c.self.invariant.1 inside.order.items c.self.invariant.0)

pub returns-clause-found : goal.returns-clause-found
returns-clause-found g c =
    let inside = c.self.inside in
    let is = lookup_is g.K.PartialEq.eq g.met.K.Eq.laws inside.slots.entries c.self.invariant.1 inside.order.items c.self.invariant.0 c.args.key.now in
    ap is_some (sym (is ∙ ap (option_map (λ s. s.value)) (sym c.get.ensures.value ∙ ap option_copied c.in_ok-slot.was)))
    ∙ ap (λ t. is_some (lookup (g.K.PartialEq.eq c.args.key.now) t.entries)) c.self.view_is

pub returns-clause-unique : goal.returns-clause-unique
returns-clause-unique g c =
    let inside = c.self.inside in
    subst (λ t. IsDistinct g.K.PartialEq.eq (keys_of t.entries)) c.self.view_is (distinct g.K.PartialEq.eq g.met.K.Eq.laws inside.slots.entries c.self.invariant.1 inside.order.items c.self.invariant.0)
