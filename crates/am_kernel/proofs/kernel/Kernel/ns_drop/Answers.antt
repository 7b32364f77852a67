use Rattle.std.proofs.Common.{ap, ◌∙◌}
use Rattle.am_kernel.specs.View.{kernel_of}
use Rattle.am_kernel.specs.{without_namespace}
use Rattle.am_kernel.proofs.MountLemmas.{with_table}
use Rattle.am_kernel.proofs.kernel.Kernel.ns_drop.Goals as goal

pub returns-clause-ok : goal.returns-clause-ok
returns-clause-ok c =
    ap (with_table (kernel_of c.self.inside)) c.in_ok-gone.ensures.ok ∙ ap (without_namespace c.args.ns) c.self.view_is
