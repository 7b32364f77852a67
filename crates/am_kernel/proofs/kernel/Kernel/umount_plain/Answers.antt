use Rattle.std.proofs.Common.{ℕ, List, ap, sym, ◌∙◌}
use Rattle.std.proofs.lemmas.Result.{on_ok_weaker}
use Rattle.am_propagate.specs.{unmounted}
use Rattle.am_kernel.specs.{KernelState, gone_at, without_mounts}
use Rattle.am_kernel.proofs.kernel.Kernel.umount_plain.Goals as goal

pub site_refusal-requires : goal.site_refusal-requires
site_refusal-requires c =
    c.as_slice.ensures.value ∙ c.in_ok-gone.ensures.exact ∙
    ap (λ (k : KernelState). unmounted k.table c.in_ok-at.at.mount) c.self.view_is

pub umount_mount-requires : goal.umount_mount-requires
umount_mount-requires c =
    c.in_ok-gone.ensures.exact ∙ ap (λ (k : KernelState). unmounted k.table c.in_ok-at.at.mount) c.self.view_is

pub returns-clause-ok : goal.returns-clause-ok
returns-clause-ok c =
    let k = c.args.self.now in
    on_ok_weaker c.umount_mount.result
    (λ left. left ∙ ap (λ (gone : List ℕ). without_mounts gone k) (ap (gone_at k) (sym c.in_ok-at.ensures.ok)))
    c.umount_mount.ensures.ok
