use Rattle.std.proofs.Common.{ℕ, length, nat_lt, cond, is_some, sym, ap, ◌∙◌}
use Rattle.std.specs.Map.{lookup}
use Rattle.std.proofs.lemmas.Option.{none-some}
use Rattle.indexmap.specs.IndexMap.{insert_entry}
use Rattle.am_ordered.specs.View.{rows_of}
use Rattle.am_ordered.proofs.SlotLemmas.{replaced, a_slot, when_ok, ok_unless}
use Rattle.am_ordered.proofs.ordered.OrderedMap.replace.Goals as goal

pub invariant_of-self : goal.invariant_of-self
invariant_of-self g c =
    let es = c.self.inside.slots.entries in
    let order = c.self.inside.order.items in
    let eq = g.K.PartialEq.eq in
    let there = a_slot eq g.met.K.Eq.laws es c.self.invariant.1 order c.self.invariant.0 c.args.key (ap (λ t. is_some (lookup (eq c.args.key) t.entries)) c.self.view_is ∙ c.requires) in
    let went = ok_unless c.insert-old.result c.insert-old.ensures.absent (λ none. none-some there.0 (sym none ∙ there.1)) in
    let entries = when_ok c.insert-old.result went c.insert-old.ensures.entries in
    let more = replaced eq g.met.K.Eq.laws es c.self.invariant.1 order c.self.invariant.0 c.args.key (record { turn = c.args.turn; value = c.args.value }) there.0 there.1 in
    (λ place. c.self.invariant.0 place ∙ ap (λ (n : ℕ). cond (nat_lt place n) 1 0) (sym (ap length entries ∙ more.1)), c.insert-old.ensures.unique)

pub returns-clause-entries : goal.returns-clause-entries
returns-clause-entries g c =
    let es = c.self.inside.slots.entries in
    let order = c.self.inside.order.items in
    let eq = g.K.PartialEq.eq in
    let there = a_slot eq g.met.K.Eq.laws es c.self.invariant.1 order c.self.invariant.0 c.args.key (ap (λ t. is_some (lookup (eq c.args.key) t.entries)) c.self.view_is ∙ c.requires) in
    let went = ok_unless c.insert-old.result c.insert-old.ensures.absent (λ none. none-some there.0 (sym none ∙ there.1)) in
    let entries = when_ok c.insert-old.result went c.insert-old.ensures.entries in
    let more = replaced eq g.met.K.Eq.laws es c.self.invariant.1 order c.self.invariant.0 c.args.key (record { turn = c.args.turn; value = c.args.value }) there.0 there.1 in
    ap (λ xs. rows_of xs order) entries ∙ more.0 ∙ ap (λ t. insert_entry eq t.entries c.args.key c.args.value) c.self.view_is
