use Rattle.std.proofs.Common.{◌≡◌, ◌+◌, ◌++◌, ℕ, List, Some, add-one, ap, sym, subst, ◌∙◌}
use Rattle.std.specs.List.{slice_get}
use Rattle.am_group.specs.{AddsNoReceivers, receivers_of}
use Rattle.am_propagate.specs.MountTable.{MountTable}
use Rattle.am_propagate.specs.{all_mounts, IsWhole, numbers_after, ComesWithCopies, Joins}
use Rattle.am_propagate.proofs.AdditionLemmas.{mounted_law}
use Rattle.am_propagate.proofs.CameLemmas.{mounted_came, come_made}
use Rattle.am_propagate.proofs.ReceiverCopyLemmas.{with_copies}
use Rattle.am_propagate.proofs.GroupCopyLemmas.{joins}
use Rattle.am_propagate.proofs.subtree.Subtree.add_at.Goals as goal

pub returns-clause-made : goal.returns-clause-made
returns-clause-made c =
    let t = c.args.self.now in
    let last : c.self.inside.last_mount ≡ t.last_mount = ap (λ (x : MountTable). x.last_mount) c.self.view_is in
    let rs_is : c.as_slice-receivers.result.now ≡ receivers_of t.groups c.args.at.now.mount = c.as_slice-receivers.ensures.value ∙ c.in_ok-receivers.ensures.listed ∙ ap (λ (x : MountTable). receivers_of x.groups c.args.at.now.mount) c.self.view_is in
    come_made t c.args.at.now.mount c.self.inside.last_mount c.as_slice-receivers.result.now c.in_ok-mounts.mounts.items last rs_is c.in_ok-mounts.ensures

pub returns-clause-first : goal.returns-clause-first
returns-clause-first c =
    let last : c.self.inside.last_mount ≡ c.args.self.now.last_mount = ap (λ (x : MountTable). x.last_mount) c.self.view_is in
    ap (λ (xs : List ℕ). slice_get xs 0) (c.in_ok-mounts.ensures ∙ ap (numbers_after c.self.inside.last_mount) (add-one _)) ∙
    ap (λ (n : ℕ). Some (n + 1)) last

pub returns-clause-came : goal.returns-clause-came
returns-clause-came c =
    let t = c.args.self.now in
    ap all_mounts c.in_ok-add_with.ensures.ok ∙ mounted_came t c.args.at.now c.args.fs c.args.membership ∙
    ap (λ (xs : List ℕ). all_mounts t ++ xs) (sym (returns-clause-made c))

pub returns-clause-law : goal.returns-clause-law
returns-clause-law c =
    let t = c.args.self.now in
    let whole : IsWhole t = subst (λ (x : MountTable). IsWhole x) c.self.view_is c.self.invariant in
    subst (λ (x : MountTable). AddsNoReceivers t.groups x.groups) (sym c.in_ok-add_with.ensures.ok) (mounted_law t whole c.args.at.now c.args.fs c.args.membership)

pub returns-clause-copies : goal.returns-clause-copies
returns-clause-copies c =
    let t = c.args.self.now in
    let whole : IsWhole t = subst (λ (x : MountTable). IsWhole x) c.self.view_is c.self.invariant in
    subst (λ (x : MountTable). ComesWithCopies c.args.at.now c.args.fs (t.last_mount + 1) t x) (sym c.in_ok-add_with.ensures.ok)
    (with_copies t whole c.args.at.now c.args.fs c.args.membership c.requires.there)

pub returns-clause-groups : goal.returns-clause-groups
returns-clause-groups c =
    let t = c.args.self.now in
    let whole : IsWhole t = subst (λ (x : MountTable). IsWhole x) c.self.view_is c.self.invariant in
    subst (λ (x : MountTable). Joins c.args.membership c.args.at.now.mount (t.last_mount + 1) t x) (sym c.in_ok-add_with.ensures.ok)
    (joins t whole c.args.at.now c.args.fs c.args.membership c.requires.there c.requires.source c.requires.bindable)
