-- Worlds with equal halves.
use Rattle.std.proofs.Common.{◌≡◌}
use Rattle.am_daemon.specs.{rows_of}
use Rattle.am_world.specs.Capacity.{WorldTable, state_of}
use Rattle.am_world.specs.Traceless.{HaveEqualHalves}

pub same_halves : (t u : WorldTable) → t.kernel ≡ u.kernel → rows_of t.daemon ≡ rows_of u.daemon → HaveEqualHalves (state_of t) (state_of u)
unfolding state_of
same_halves t u kernel daemon = record { kernel = kernel; daemon = daemon }

pub same_kernels : (t u : WorldTable) → HaveEqualHalves (state_of t) (state_of u) → t.kernel ≡ u.kernel
unfolding state_of
same_kernels t u same = same.kernel

pub same_daemons : (t u : WorldTable) → HaveEqualHalves (state_of t) (state_of u) → rows_of t.daemon ≡ rows_of u.daemon
unfolding state_of
same_daemons t u same = same.daemon
