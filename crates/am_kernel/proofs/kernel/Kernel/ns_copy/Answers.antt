use Rattle.std.proofs.Common.{ap, ◌∙◌}
use Rattle.am_kernel.specs.View.{kernel_of}
use Rattle.am_kernel.specs.{with_namespace}
use Rattle.am_kernel.proofs.MountLemmas.{with_table}
use Rattle.am_kernel.proofs.kernel.Kernel.ns_copy.Goals as goal

pub returns-clause-ok : goal.returns-clause-ok
returns-clause-ok c =
    ap (with_table (kernel_of c.self.inside)) c.in_ok-made.ensures.ok ∙ ap (with_namespace c.args.form c.args.ns) c.self.view_is
