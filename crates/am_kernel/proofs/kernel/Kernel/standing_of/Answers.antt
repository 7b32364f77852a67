use Rattle.std.proofs.Common.{◌≡◌, ℕ, List, subst, ap, ◌∙◌}
use Rattle.std.specs.Prelude.{IfOk}
use Rattle.std.specs.List.{flat_map}
use Rattle.am_names.specs.declared.trigger.Trigger.{Trigger}
use Rattle.am_mount.specs.{IsRising, mounts_where, is_child}
use Rattle.am_kernel.specs.{KernelState, standing_mount, standing_of}
use Rattle.am_kernel.proofs.ListedLemmas.{mounts_stand}
use Rattle.am_kernel.proofs.kernel.Kernel.standing_of.Goals as goal

pub returns : goal.returns
returns c =
    let k = c.args.self.now in
    let autofs = c.args.autofs.now in
    let mounts = c.as_slice.result.now in
    let table : c.tree.result.now ≡ k.table.rows = c.tree.ensures.rows ∙ ap (λ (x : KernelState). x.table.rows) c.self.view_is in
    let listed : mounts ≡ mounts_where (is_child autofs.location) k.table.rows =
    c.as_slice.ensures.value ∙ c.in_ok-mounts.ensures.exact ∙ ap (mounts_where (is_child autofs.location)) table in
    let rises : IsRising k.table.rows = subst (λ (x : KernelState). IsRising x.table.rows) c.self.view_is c.tree.ensures.whole.rising in
    let all : flat_map (standing_mount k autofs) mounts ≡ standing_of k autofs =
    ap (flat_map (standing_mount k autofs)) listed ∙ mounts_stand k autofs rises in
    subst (λ (xs : List (Trigger × ℕ)). IfOk c.standing_among.result (λ v. v.items ≡ xs)) all c.standing_among.ensures
