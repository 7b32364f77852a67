use Rattle.am_progress.proofs.Expiries.{expiries_leave}
use Rattle.am_progress.proofs.laws.expiries_leave_trap_or_mount.Goals as goal

pub returns : goal.returns
returns c = expiries_leave
