use Rattle.std.proofs.Common.{rules, inl}
use Rattle.am_world.specs.Capacity.{state_of}
use Rattle.am_mountinfo.proofs.world_text.show_world.Goals as goal

pub returns-then-is_nowhere-clause-err : goal.returns-then-is_nowhere-clause-err
unfolding state_of
returns-then-is_nowhere-clause-err g c = inl (record {
  nowhere = search rules;
  kind = search rules;
  line_is = search rules;
  written = search rules;
})
