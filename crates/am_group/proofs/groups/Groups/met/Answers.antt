use Rattle.std.proofs.Common.{◌≡◌, ◌≤◌, ◌<◌, ◌+◌, ◌++◌, ℕ, List, [], ◌∷◌, sym, ap, subst, ◌∙◌, arith}
use Rattle.std.proofs.lemmas.List.{nil_from_length}
use Rattle.am_names.specs.PeerGroups.{PeerGroups}
use Rattle.am_group.specs.{IsOrderly, count, group_numbers, is_at_or_under}
use Rattle.am_group.proofs.CountLemmas.{count-append, count_self}
use Rattle.am_group.proofs.WalkLemmas.{IsWalk, left, left_less, live_master, met_end, met_next, met_stands}
use Rattle.am_group.proofs.groups.Groups.met.Goals as goal

pub loop-group-smaller : goal.loop-group-smaller
loop-group-smaller c =
    let s = c.args.self.now in
    let g = c.in-Some.group in
    let orderly = subst (λ (x : PeerGroups). IsOrderly x) c.self.view_is c.self.invariant.orderly in
    let popped = ap (count g) c.in-Some.ensures.items ∙ count-append g c.pop.new.self.items (g ∷ []) in
    let one = count_self g in
    let once = c.loop-group.invariant.once g in
    let there : 1 ≤ count g c.loop-group.met.items + count g c.loop-group.pending.items = omega arith in
    let none : count g c.loop-group.met.items ≡ 0 = omega arith in
    let row = met_stands s orderly c.args.own c.requires c.loop-group.met.items c.loop-group.pending.items c.loop-group.invariant g there in
    subst (λ (xs : List ℕ). left xs (group_numbers s.groups) < left c.loop-group.met.items (group_numbers s.groups))
    (sym c.in_ok-push-2.ensures.items) (left_less c.loop-group.met.items g (group_numbers s.groups) row none)

pub loop-group-preserved : goal.loop-group-preserved
loop-group-preserved c =
    let s = c.args.self.now in
    let own = c.args.own in
    let g = c.in-Some.group in
    let orderly = subst (λ (x : PeerGroups). IsOrderly x) c.self.view_is c.self.invariant.orderly in
    let next = met_next s orderly own c.requires g c.loop-group.met.items c.loop-group.pending.items c.pop.new.self.items
    (λ x. ap (count x) c.in-Some.ensures.items ∙ count-append x c.pop.new.self.items (g ∷ [])) c.loop-group.invariant in
    subst (λ (xs : List ℕ). IsWalk own (is_at_or_under s own) (live_master s) xs c.add_below.new.pending.items) (sym c.in_ok-push-2.ensures.items)
    (subst (λ (xs : List ℕ). IsWalk own (is_at_or_under s own) (live_master s) (c.loop-group.met.items ++ g ∷ []) xs) (sym c.in_ok-add_below.ensures) next)

pub returns : goal.returns
returns c =
    let s = c.args.self.now in
    let own = c.args.own in
    let orderly = subst (λ (x : PeerGroups). IsOrderly x) c.self.view_is c.self.invariant.orderly in
    let empty : c.loop-group.pending.items ≡ [] = nil_from_length _ (omega (arith, c.loop-group.pending.ok.0, (rw c.in_default.is at c.pop.ensures.cases).0)) in
    met_end s orderly own c.requires c.loop-group.met.items
    (subst (λ (xs : List ℕ). IsWalk own (is_at_or_under s own) (live_master s) c.loop-group.met.items xs) empty c.loop-group.invariant)
