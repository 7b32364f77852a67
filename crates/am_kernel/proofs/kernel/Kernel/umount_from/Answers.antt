use Rattle.std.proofs.Common.{◌≡◌, ℕ, Option, Some, subst, rules}
use Rattle.std.specs.Prelude.{OnOk}
use Rattle.am_kernel.specs.{gone_with, mounted_on, without_mounts}
use Rattle.am_kernel.proofs.kernel.Kernel.umount_from.Goals as goal

pub returns-clause-ok : goal.returns-clause-ok
returns-clause-ok c =
    let k = c.args.self.now in
    let mounted : Some c.in-Some.mount ≡ mounted_on k c.args.trigger.now = search rules in
    subst (λ (top : Option ℕ). OnOk c.umount_mount.result (c.umount_mount.new.self ≡ without_mounts (gone_with k top) k)) mounted c.umount_mount.ensures.ok
