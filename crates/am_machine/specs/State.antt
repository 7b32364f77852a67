-- A world as a value (own choice).
use Rattle.std.specs.Prelude.{List, []}
use Rattle.am_names.specs.declared.limits.Limits.{Limits}
use Rattle.am_map.specs.{Row}
use Rattle.am_master.specs.MasterRow.{MasterRow}
use Rattle.am_state.specs.{Obs}
use Rattle.am_kernel.specs.{KernelState, initial}
use Rattle.am_daemon.specs.State as daemon
use Rattle.am_daemon.specs.{DaemonState}

-- what a world begins with, which no event changes: the limits, the lines of the master map, and
-- for each of them, in order, the rows of its map
pub record Setup : Type 0 where
  pub limits : Limits
  pub master : List MasterRow
  pub maps : List (List Row)

-- the kernel's half, the daemon's half, and what was observed, the oldest first
pub record State : Type 0 where
  pub kernel : KernelState
  pub daemon : DaemonState
  pub trace : List Obs

-- the limits that the kernel began with
abbrev pub limits_in : KernelState → Limits
limits_in k = record {
  mounts = k.table.limit;
  waiters = k.waits.most_waits;
  tokens = k.waits.most_tokens;
  negative = k.negative;
}

-- what the world began with
abbrev pub setup_of : State → Setup
setup_of s = record { limits = limits_in s.kernel; master = s.daemon.master; maps = s.daemon.maps }

-- the initial world: nothing is attached, and nothing was observed
abbrev pub initial_state_of : Setup → State
initial_state_of opening = record {
  kernel = initial opening.limits;
  daemon = daemon.initial opening.master opening.maps;
  trace = [];
}
