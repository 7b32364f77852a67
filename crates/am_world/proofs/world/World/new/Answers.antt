use Rattle.std.proofs.Common.{refl, ◌∙◌}
use Rattle.am_machine.specs.{Setup}
use Rattle.am_machine.proofs.Reached.{reached_first}
use Rattle.am_world.proofs.TableLemmas.{state_is}
use Rattle.am_world.proofs.world.World.new.Goals as goal

pub invariant_of-result : goal.invariant_of-result
invariant_of-result c =
    let opening : Setup = record { limits = c.args.limits; master = c.args.master; maps = c.args.maps.items } in
    record { reached = rw (c.in_ok-kernel.ensures.ok, c.new-daemon.ensures, c.new-2.ensures.items, c.new-3.ensures) (reached_first opening) }

pub returns-clause-ok : goal.returns-clause-ok
returns-clause-ok c = state_is _ ∙ (rw (c.in_ok-kernel.ensures.ok, c.new-daemon.ensures, c.new-2.ensures.items, c.new-3.ensures) refl)
