use Rattle.std.proofs.Common.{sym, ap, ◌∙◌}
use Rattle.std.specs.Map.{lookup}
use Rattle.std.specs.Option.{option_copied, option_map}
use Rattle.am_ordered.proofs.SlotLemmas.{lookup_is}
use Rattle.am_ordered.proofs.ordered.OrderedMap.get.Goals as goal

pub returns-in_err-slot : goal.returns-in_err-slot
returns-in_err-slot g c =
    let inside = c.self.inside in
    let is = lookup_is g.K.PartialEq.eq g.met.K.Eq.laws inside.slots.entries c.self.invariant.1 inside.order.items c.self.invariant.0 c.args.key.now in
    ap option_copied c.from_residual.ensures
    ∙ ap (option_map (λ s. s.value)) (sym (ap option_copied c.in_err-slot.was) ∙ c.get.ensures.value)
    ∙ sym is ∙ ap (λ t. lookup (g.K.PartialEq.eq c.args.key.now) t.entries) c.self.view_is

pub returns : goal.returns
returns g c =
    let inside = c.self.inside in
    let is = lookup_is g.K.PartialEq.eq g.met.K.Eq.laws inside.slots.entries c.self.invariant.1 inside.order.items c.self.invariant.0 c.args.key.now in
    ap (option_map (λ s. s.value)) (sym (ap option_copied c.in_ok-slot.was) ∙ c.get.ensures.value)
    ∙ sym is ∙ ap (λ t. lookup (g.K.PartialEq.eq c.args.key.now) t.entries) c.self.view_is
