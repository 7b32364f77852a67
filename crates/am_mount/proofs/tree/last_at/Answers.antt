use Rattle.std.proofs.Common.{◌≡◌, ◌≤◌, ◌<◌, ◌+◌, ◌-◌, ℕ, Bool, cond, length, take, Some, sym, ap, ◌∙◌, arith}
use Rattle.std.specs.Prelude.{filter}
use Rattle.am_names.specs.{names_of}
use Rattle.am_mount.specs.{stands_at, last_of}
use Rattle.am_mount.proofs.IndexLemmas.{last_passing}
use Rattle.am_mount.proofs.tree.last_at.Goals as goal

pub returns-then-stands_at : goal.returns-then-stands_at
returns-then-stands_at c =
    let stands : ℕ → Bool = λ m. stands_at c.args.rows.now c.args.parent (names_of c.args.place.now) m in
    let mounts = c.args.mounts.now in
    let left = c.loop-left.left in
    let mount = c.index-mounts-left.result in
    let some : 0 < left = c.loop-left-test.true in
    let bound : left ≤ length mounts = c.loop-left.invariant.0 in
    let next : left ≡ (left - 1) + 1 = omega arith in
    sym (c.loop-left.invariant.1 ∙
    ap (λ (n : ℕ). last_of (filter stands (take n mounts))) next ∙
    last_passing stands mounts (left - 1) mount (omega arith) c.index-mounts-left.is ∙
    ap (λ (b : Bool). cond b (Some mount) (last_of (filter stands (take (left - 1) mounts)))) (sym c.stands_at.ensures ∙ c.if-stands_at.true))
