-- The kernel behind an event at which bars of failures end, as the code has it. For the code alone: own
-- choice.
use Rattle.std.specs.Prelude.{Option, None, Some}
use Rattle.am_kernel.specs.{KernelState}
use Rattle.am_world.specs.Capacity.{WorldTable}

-- that of the world, if there is one
abbrev pub kernel_of : Option WorldTable → Option KernelState
kernel_of None = None
kernel_of (Some world) = Some world.kernel
