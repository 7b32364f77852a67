use Rattle.am_world.specs.Capacity.{state_of}
use Rattle.am_import.proofs.imports.told_of.Goals as goal

pub returns : goal.returns
unfolding state_of
returns c = c.in_ok-push_notes.ensures
