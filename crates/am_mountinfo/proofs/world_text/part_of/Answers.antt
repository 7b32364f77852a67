use Rattle.std.proofs.Common.{refl}
use Rattle.am_world.specs.Capacity.{state_of}
use Rattle.am_mountinfo.proofs.world_text.part_of.Goals as goal

pub returns-in-Some : goal.returns-in-Some
unfolding state_of
returns-in-Some c = rw c.in-Some.is (rw c.in-Some.is at c.requires, refl)

pub returns-in_ok-opens-in-None : goal.returns-in_ok-opens-in-None
unfolding state_of
returns-in_ok-opens-in-None c =
    rw (c.in-None.is, c.in_ok-opens-in-None.ensures)
    (c.in_ok-namespaces-in-None.field-0.items, rw c.mounts.ensures at c.in_ok-namespaces-in-None.ensures, refl)
