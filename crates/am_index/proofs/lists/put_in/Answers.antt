use Rattle.std.proofs.Common.{◌≡◌, ◌++◌, ◌∷◌, ℕ, List, take, drop, sym, subst, ◌∙◌, true, ap, cond}
use Rattle.std.specs.Prelude.{is_ok}
use Rattle.std.specs.List.{insert}
use Rattle.std.specs.List.Sorted.{IsStrictlyIncreasing}
use Rattle.am_index.specs.{with}
use Rattle.am_index.proofs.PlaceLemmas.{with_found, with_unfound}
use Rattle.am_index.proofs.lists.put_in.Goals as goal

pub returns-in-Err : goal.returns-in-Err
returns-in-Err c =
    let list = c.args.list.now.items in
    let item = c.args.item in
    let slice = c.deref.result.now in
    let own : slice ≡ list = c.deref.ensures.value in
    let up : IsStrictlyIncreasing slice = subst (λ (xs : List ℕ). IsStrictlyIncreasing xs) (sym own) c.requires.rising in
    let at = c.in-Err.at in
    let place : with item slice ≡ take at slice ++ item ∷ drop at slice =
    with_unfound item slice up at c.in-Err.ensures.position in
    let done : is_ok c.insert-put.result ≡ true = c.insert-put.ensures.succeeds c.requires.room in
    c.insert-put.ensures.items ∙
    ap (λ b. cond b (insert list at item) list) done ∙
    sym (subst (λ (xs : List ℕ). with item xs ≡ take at xs ++ item ∷ drop at xs) own place)

pub returns-in_default : goal.returns-in_default
returns-in_default c =
    let list = c.args.list.now.items in
    let item = c.args.item in
    let slice = c.deref.result.now in
    let own : slice ≡ list = c.deref.ensures.value in
    let up : IsStrictlyIncreasing slice = subst (λ (xs : List ℕ). IsStrictlyIncreasing xs) (sym own) c.requires.rising in
    let there : with item slice ≡ slice = with_found item slice up c.in_default.field-0 c.in_default.ensures.position in
    sym (subst (λ (xs : List ℕ). with item xs ≡ xs) own there)
