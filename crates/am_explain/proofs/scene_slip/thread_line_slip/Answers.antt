use Rattle.std.proofs.Common.{Some, None, refl}
use Rattle.am_explain.proofs.scene_slip.thread_line_slip.Goals as goal

pub returns-in-Some : goal.returns-in-Some
returns-in-Some c = (Some c.in-Some.slip, c.in-Some.ensures, refl)

pub returns-in-None : goal.returns-in-None
returns-in-None c = (None, c.in-None.ensures, refl)
