use Rattle.am_script.proofs.Pieces.{puts_none}
use Rattle.am_draw.proofs.trees.put_more_in.Goals as goal

pub returns-then-more-eq0 : goal.returns-then-more-eq0
returns-then-more-eq0 g c = rw c.if-more-eq0.true (puts_none _ _)
