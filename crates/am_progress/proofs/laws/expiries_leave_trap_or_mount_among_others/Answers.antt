use Rattle.am_progress.proofs.ExpiriesAmong.{expiries_leave_among}
use Rattle.am_progress.proofs.laws.expiries_leave_trap_or_mount_among_others.Goals as goal

pub returns : goal.returns
returns c = expiries_leave_among
