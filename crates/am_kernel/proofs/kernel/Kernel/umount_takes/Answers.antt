use Rattle.std.proofs.Common.{◌≡◌, sym, subst}
use Rattle.std.specs.Prelude.{IfOk, Result}
use Rattle.am_names.specs.declared.errno.Errno.{Errno}
use Rattle.am_names.specs.{Position}
use Rattle.am_propagate.specs.{unmounted}
use Rattle.am_kernel.specs.{KernelState, gone_at}
use Rattle.am_kernel.proofs.kernel.Kernel.umount_takes.Goals as goal

pub returns-clause-ok : goal.returns-clause-ok
returns-clause-ok c =
    let gone = subst (λ (k : KernelState). IfOk c.umount_takes.result (λ v. v.items ≡ unmounted k.table c.in_ok-at.at.mount)) c.self.view_is c.umount_takes.ensures.exact in
    subst (λ (at : Result Position Errno). IfOk c.umount_takes.result (λ v. v.items ≡ gone_at c.args.self.now at)) (sym c.in_ok-at.ensures.ok) gone
