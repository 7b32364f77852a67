use Rattle.std.proofs.Common.{ap, ◌∙◌}
use Rattle.am_draw.specs.{is_umount}
use Rattle.am_world.specs.Capacity.{state_of}
use Rattle.am_draw.proofs.trees.takes_mounts.Goals as goal

pub returns-in-Act : goal.returns-in-Act
unfolding state_of
returns-in-Act c = rw c.in-Act.is (c.is_umount.ensures ∙ ap is_umount c.next_act.ensures)
