use Rattle.std.proofs.Common.{refl}
use Rattle.am_world.specs.Capacity.{state_of}
use Rattle.am_explore.proofs.begun.choices.Goals as goal

pub returns : goal.returns
unfolding state_of
returns c =
    rw (
      c.in_ok-push_daemon.ensures,
      c.in_ok-push_threads.ensures,
      c.new-choices.ensures.items,
      c.as_slice.ensures.value,
      c.as_slice-2.ensures.value,
    ) refl
