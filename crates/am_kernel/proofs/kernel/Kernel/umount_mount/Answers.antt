use Rattle.std.proofs.Common.{◌≡◌, subst, ap}
use Rattle.std.specs.Prelude.{IfOk, OnOk}
use Rattle.std.proofs.lemmas.Result.{on_ok_weaker}
use Rattle.am_propagate.specs.{unmounted}
use Rattle.am_kernel.specs.View.{kernel_of}
use Rattle.am_kernel.specs.{KernelState, without_mounts}
use Rattle.am_kernel.proofs.MountLemmas.{with_table}
use Rattle.am_kernel.proofs.kernel.Kernel.umount_mount.Goals as goal

pub returns-clause-gone : goal.returns-clause-gone
returns-clause-gone c =
    subst (λ (k : KernelState). IfOk c.umount_of.result (λ v. v.items ≡ unmounted k.table c.args.mount)) c.self.view_is c.umount_of.ensures.gone

pub returns-clause-ok : goal.returns-clause-ok
returns-clause-ok c =
    let old : KernelState = kernel_of c.self.inside in
    subst (λ (k : KernelState). OnOk c.umount_of.result (with_table old c.umount_of.new.subtree ≡ without_mounts (unmounted k.table c.args.mount) k)) c.self.view_is
    (on_ok_weaker c.umount_of.result (ap (with_table old)) c.umount_of.ensures.ok)
