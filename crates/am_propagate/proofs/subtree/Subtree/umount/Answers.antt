use Rattle.std.proofs.Common.{◌≡◌, ℕ, List, sym, subst, ◌∙◌}
use Rattle.am_propagate.specs.{unmounted, LeavesParents}
use Rattle.am_propagate.proofs.RemovalLemmas.{unmounted_leaves}
use Rattle.am_propagate.proofs.subtree.Subtree.umount.Goals as goal

pub remove-requires : goal.remove-requires
remove-requires g c =
    let t = c.args.self.now in
    let gone : c.as_slice.result.now ≡ unmounted t c.args.mount = c.as_slice.ensures.value ∙ c.in_ok-gone.ensures.exact in
    subst (λ (xs : List ℕ). LeavesParents xs t) (sym gone) (unmounted_leaves t c.args.mount c.in_ok-gone.ensures.bare)
