use Rattle.std.proofs.Common.{◌≡◌, ◌++◌, ℕ, List, suc, take, drop, sym, subst, ◌∙◌}
use Rattle.std.specs.List.Sorted.{IsStrictlyIncreasing}
use Rattle.am_index.specs.{but}
use Rattle.am_index.proofs.PlaceLemmas.{but_found, but_unfound}
use Rattle.am_index.proofs.lists.take_out_by_halves.Goals as goal

pub returns-in-Ok : goal.returns-in-Ok
returns-in-Ok c =
    let list = c.args.list.now.items in
    let item = c.args.item in
    let slice = c.deref.result.now in
    let own : slice ≡ list = c.deref.ensures.value in
    let up : IsStrictlyIncreasing slice = subst (λ (xs : List ℕ). IsStrictlyIncreasing xs) (sym own) c.requires in
    let found : but item slice ≡ take c.in-Ok.at slice ++ drop (suc c.in-Ok.at) slice =
    but_found item slice up c.in-Ok.at c.in-Ok.ensures.position in
    c.remove-item.ensures.items ∙
    sym (subst (λ (xs : List ℕ). but item xs ≡ take c.in-Ok.at xs ++ drop (suc c.in-Ok.at) xs) own found)

pub returns-in_default : goal.returns-in_default
returns-in_default c =
    let list = c.args.list.now.items in
    let item = c.args.item in
    let slice = c.deref.result.now in
    let own : slice ≡ list = c.deref.ensures.value in
    let up : IsStrictlyIncreasing slice = subst (λ (xs : List ℕ). IsStrictlyIncreasing xs) (sym own) c.requires in
    let none : but item slice ≡ slice = but_unfound item slice up c.in_default.field-0 c.in_default.ensures.position in
    sym (subst (λ (xs : List ℕ). but item xs ≡ xs) own none)
