use Rattle.std.proofs.Common.{◌≡◌, ◌<◌, ◌-◌, List, length, sym, ap, subst, ◌∙◌, rules, Ok, Err, ℕ}
use Rattle.std.specs.Prelude.{remove}
use Rattle.std.specs.List.Sorted.{IsBinarySearchResult}
use Rattle.std.specs.Ordering.{nat_cmp}
use Rattle.std.proofs.lemmas.List.Sorted.{answers_always}
use Rattle.am_mount.specs.declared.siblings.Child.{Child}
use Rattle.am_mount.specs.Siblings.{but_child}
use Rattle.am_mount.proofs.SiblingLemmas.{child_newest, child_found, child_unfound}
use Rattle.am_mount.proofs.siblings.Siblings.index_of.Goals as goal

pub returns-then-is_newest-clause-left : goal.returns-then-is_newest-clause-left
returns-then-is_newest-clause-left c =
    let children = c.args.self.now.rows in
    let own : c.as_slice-children.result.now ≡ children = c.as_slice-children.ensures in
    ap (λ (cs : List Child). remove children (length cs - 1)) own ∙
    (child_newest c.args.mount children c.requires c.if-is_newest.ensures).1

pub returns-in-Ok-clause-left : goal.returns-in-Ok-clause-left
returns-in-Ok-clause-left c =
    let children = c.args.self.now.rows in
    let index = c.in-Ok.index in
    let number = c.mount.inside.0 in
    let own : c.as_slice-children.result.now ≡ children = c.as_slice-children.ensures in
    let by_number = c.in-Ok.ensures.position (λ (d : Child). d.mount)
    (answers_always _ _ _ (λ f a r g called. search rules)) in
    let found : IsBinarySearchResult (λ (d : Child). nat_cmp d.mount number) children (Ok index) =
    subst (λ (cs : List Child). IsBinarySearchResult (λ (d : Child). nat_cmp d.mount number) cs (Ok index)) own by_number in
    child_found number children c.requires index
    (subst (λ (cs : List Child). index < length cs) own c.in-Ok.ensures.bound) found ∙
    ap (λ (m : ℕ). but_child m children) c.mount.view_is

pub returns-in-Err-clause-none : goal.returns-in-Err-clause-none
returns-in-Err-clause-none c =
    let children = c.args.self.now.rows in
    let at = c.in-Err.field-0 in
    let number = c.mount.inside.0 in
    let own : c.as_slice-children.result.now ≡ children = c.as_slice-children.ensures in
    let by_number = c.in-Err.ensures.position (λ (d : Child). d.mount)
    (answers_always _ _ _ (λ f a r g called. search rules)) in
    let none : IsBinarySearchResult (λ (d : Child). nat_cmp d.mount number) children (Err at) =
    subst (λ (cs : List Child). IsBinarySearchResult (λ (d : Child). nat_cmp d.mount number) cs (Err at)) own by_number in
    ap (λ (m : ℕ). but_child m children) (sym c.mount.view_is) ∙
    child_unfound number children c.requires at none
