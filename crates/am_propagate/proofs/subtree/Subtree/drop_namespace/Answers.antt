use Rattle.std.proofs.Common.{◌≡◌, ℕ, List, ap, sym, subst, ◌∙◌}
use Rattle.am_propagate.specs.MountTable.{MountTable}
use Rattle.am_propagate.specs.{IsWhole, mounts_in, removed, LeavesParents}
use Rattle.am_propagate.proofs.RemovalLemmas.{dropped_leaves}
use Rattle.am_propagate.proofs.subtree.Subtree.drop_namespace.Goals as goal

pub remove-requires : goal.remove-requires
remove-requires g c =
    let t = c.args.self.now in
    let whole : IsWhole t = subst (λ (x : MountTable). IsWhole x) c.self.view_is c.self.invariant in
    let gone : c.as_slice-2.result.now ≡ mounts_in t c.args.ns = c.as_slice-2.ensures.value ∙ c.in_ok-mounts.ensures.exact ∙ ap (λ (x : MountTable). mounts_in x c.args.ns) c.self.view_is in
    subst (λ (xs : List ℕ). LeavesParents xs t) (sym gone) (dropped_leaves t c.args.ns whole)

pub returns-clause-ok : goal.returns-clause-ok
returns-clause-ok g c =
    let t = c.args.self.now in
    let gone : c.as_slice-2.result.now ≡ mounts_in t c.args.ns = c.as_slice-2.ensures.value ∙ c.in_ok-mounts.ensures.exact ∙ ap (λ (x : MountTable). mounts_in x c.args.ns) c.self.view_is in
    c.in_ok-remove.ensures.ok ∙ ap (λ (xs : List ℕ). removed xs t) gone
