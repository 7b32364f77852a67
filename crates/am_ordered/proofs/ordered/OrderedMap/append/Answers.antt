use Rattle.std.proofs.Common.{◌≤◌, ℕ, [], ◌∷◌, ◌++◌, length, nat_lt, cond, sym, ap, ◌∙◌, arith}
use Rattle.std.specs.Map.{lookup}
use Rattle.indexmap.specs.IndexMap.{spare}
use Rattle.am_ordered.specs.{times}
use Rattle.am_ordered.specs.View.{rows_of}
use Rattle.am_ordered.proofs.OrderLemmas.{one_more}
use Rattle.am_ordered.proofs.RowLemmas.{inserted_last}
use Rattle.am_ordered.proofs.SlotLemmas.{appended, no_slot, none_from, when_ok}
use Rattle.am_ordered.proofs.ordered.OrderedMap.append.Goals as goal

pub invariant_of-self : goal.invariant_of-self
invariant_of-self g c =
    let es = c.self.inside.slots.entries in
    let order = c.self.inside.order.items in
    let eq = g.K.PartialEq.eq in
    let room : 1 ≤ spare c.self.inside.slots = omega (arith, ap (λ t. t.room) c.self.view_is, c.requires.room) in
    let none = no_slot eq g.met.K.Eq.laws es c.self.invariant.1 order c.self.invariant.0 c.args.key (ap (λ t. lookup (eq c.args.key) t.entries) c.self.view_is ∙ none_from (lookup (eq c.args.key) c.args.self.now.entries) c.requires.fresh) in
    let entries = when_ok c.insert-none.result (c.insert-none.ensures.succeeds room) c.insert-none.ensures.entries in
    let more = appended eq g.met.K.Eq.laws es c.self.invariant.1 order c.self.invariant.0 c.args.key (record { turn = c.self.inside.next; value = c.args.value }) none in
    let items = c.push_back_reserved.ensures.items ∙ ap (λ (n : ℕ). order ++ n ∷ []) c.len-place.ensures.len in
    (λ place. ap (times place) items ∙ one_more (length es) order c.self.invariant.0 place ∙ ap (λ (n : ℕ). cond (nat_lt place n) 1 0) (sym (ap length entries ∙ more.1)), c.insert-none.ensures.unique)

pub returns-clause-entries : goal.returns-clause-entries
returns-clause-entries g c =
    let es = c.self.inside.slots.entries in
    let order = c.self.inside.order.items in
    let eq = g.K.PartialEq.eq in
    let room : 1 ≤ spare c.self.inside.slots = omega (arith, ap (λ t. t.room) c.self.view_is, c.requires.room) in
    let none = no_slot eq g.met.K.Eq.laws es c.self.invariant.1 order c.self.invariant.0 c.args.key (ap (λ t. lookup (eq c.args.key) t.entries) c.self.view_is ∙ none_from (lookup (eq c.args.key) c.args.self.now.entries) c.requires.fresh) in
    let entries = when_ok c.insert-none.result (c.insert-none.ensures.succeeds room) c.insert-none.ensures.entries in
    let more = appended eq g.met.K.Eq.laws es c.self.invariant.1 order c.self.invariant.0 c.args.key (record { turn = c.self.inside.next; value = c.args.value }) none in
    let items = c.push_back_reserved.ensures.items ∙ ap (λ (n : ℕ). order ++ n ∷ []) c.len-place.ensures.len in
    ap (λ xs. rows_of xs c.push_back_reserved.new.self.items) entries
    ∙ ap (rows_of _) items ∙ more.0 ∙ ap (λ t. t.entries ++ (c.args.key, c.args.value) ∷ []) c.self.view_is
    ∙ sym (inserted_last eq c.args.key c.args.value c.args.self.now.entries (none_from (lookup (eq c.args.key) c.args.self.now.entries) c.requires.fresh))
