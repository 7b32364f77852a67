use Rattle.std.proofs.Common.{◌≡◌, ◌≤◌, ◌<◌, ◌+◌, ◌-◌, ℕ, Bool, cond, List, length, get_or, take, Option, Some, sym, ap, ◌∙◌, arith}
use Rattle.std.specs.Prelude.{filter}
use Rattle.am_names.specs.{names_of}
use Rattle.am_mount.specs.{stands_at, last_of}
use Rattle.am_mount.specs.declared.siblings.Child.{Child}
use Rattle.am_mount.specs.Siblings.{placed_of}
use Rattle.am_mount.proofs.SiblingLemmas.{last_placed}
use Rattle.am_mount.proofs.tree.last_of_siblings.Goals as goal

pub returns-then-child_stands_at : goal.returns-then-child_stands_at
returns-then-child_stands_at c =
    let stands : ℕ → Bool = λ m. stands_at c.args.rows.now c.args.parent (names_of c.args.place.now) m in
    let children = c.args.siblings.now.rows in
    let bucket = c.args.bucket in
    let left = c.loop-left.left in
    let child = c.index-children-left.result in
    let here : child ≡ get_or children (left - 1) child =
    c.index-children-left.is ∙
    ap (λ (cs : List Child). get_or cs (left - 1) child) c.as_slice-children.ensures in
    let some : 0 < left = c.loop-left-test.true in
    let bound : left ≤ length children = c.loop-left.invariant.0 in
    let next : left ≡ (left - 1) + 1 = omega arith in
    let before : Option ℕ = last_of (filter stands (placed_of (take (left - 1) children) bucket)) in
    sym (c.loop-left.invariant.1 ∙
    ap (λ (n : ℕ). last_of (filter stands (placed_of (take n children) bucket))) next ∙
    last_placed stands bucket children (left - 1) child (omega arith) here ∙
    ap (λ (b : Bool). cond b (Some child.mount) before)
    (sym c.child_stands_at.ensures ∙ c.if-child_stands_at.true))
