use Rattle.std.proofs.Common.{◌≡◌, ℕ, List, eqb, sym, ap, subst, rules, ◌∙◌}
use Rattle.std.specs.Prelude.{◌==◌}
use Rattle.std.specs.List.Sorted.{IsStrictlyIncreasing, IsSorted}
use Rattle.std.specs.Ordering.{nat_cmp}
use Rattle.std.proofs.lemmas.Fn.{always_returns_same}
use Rattle.std.proofs.lemmas.List.Filters.{dedup_is}
use Rattle.std.proofs.lemmas.List.Sorted.{list_any-IsPermutation}
use Rattle.std.proofs.lemmas.Map.Keys.{IsStrictlyIncreasing-dedup}
use Rattle.am_names.specs.{is_among}
use Rattle.am_group.proofs.OrderedLemmas.{dedup_among}
use Rattle.am_group.proofs.groups.receivers.in_order.Goals as goal

pub returns-clause-rising : goal.returns-clause-rising
returns-clause-rising c =
    let sorted : IsSorted nat_cmp c.sort_unstable_by_key.new.self.items =
    c.sort_unstable_by_key.ensures.sorted (λ x. x) (always_returns_same _ (λ a r. r ≡ a.0.now) _ (λ a r f called. search rules)) in
    subst (λ (xs : List ℕ). IsStrictlyIncreasing xs) (sym (dedup_is eqb _ _ c.dedup.ensures.filtered)) (IsStrictlyIncreasing-dedup _ sorted)

pub returns-clause-same : goal.returns-clause-same
returns-clause-same c = λ m.
    ap (λ (xs : List ℕ). is_among xs m) (dedup_is eqb _ _ c.dedup.ensures.filtered) ∙
    dedup_among _ m ∙
    sym (list_any-IsPermutation (λ (x : ℕ). x == m) _ _ c.sort_unstable_by_key.ensures.permutation)
