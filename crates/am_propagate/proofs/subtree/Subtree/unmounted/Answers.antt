use Rattle.std.proofs.Common.{◌≡◌, ℕ, List, sym, ap, subst, rules, ◌∙◌}
use Rattle.am_names.specs.{is_among}
use Rattle.am_propagate.specs.MountTable.{MountTable}
use Rattle.am_propagate.specs.{IsWhole}
use Rattle.am_propagate.proofs.UnmountLemmas.{going, rising_same, goes_is, goes_rise}
use Rattle.am_propagate.proofs.subtree.Subtree.unmounted.Goals as goal

pub returns-clause-exact : goal.returns-clause-exact
returns-clause-exact c =
    let t = c.args.self.now in
    let m = c.args.mount in
    let position = c.args.position.now in
    let whole : IsWhole t = subst (λ (x : MountTable). IsWhole x) c.self.view_is c.self.invariant in
    let listed : c.in_ok-going.going.items ≡ going t whole m position = Prim.search rules in
    rising_same _ _ c.in_order.ensures.rising (goes_rise t whole m position)
    (λ k. c.in_order.ensures.same k ∙ ap (λ (xs : List ℕ). is_among xs k) listed ∙ sym (goes_is t whole m position c.requires k))
