use Rattle.std.proofs.Common.{◌≡◌, ◌≤◌, ◌+◌, length, Option, option_copied}
use Rattle.am_script.specs.{ScriptFaultKind, lines_in}
use Rattle.am_world.specs.Capacity.{state_of}
use Rattle.am_scenes.specs.{way_from}
use Rattle.am_scenes.specs.Reading.{WayIsLeft}
use Rattle.am_scenes.proofs.way.play_way.Given as goal

abbrev pub invariant-loop-rest : goal.invariant-loop-rest
invariant-loop-rest l = record {
  left :
      (broke : Option ScriptFaultKind) →
      WayIsLeft (state_of l.fn.world) (way_from broke l.fn.line (lines_in (option_copied l.fn.rest))) (state_of l.world)
      (way_from broke l.number (lines_in (option_copied l.rest)));
  counted : l.number + length (lines_in (option_copied l.rest))
      ≡ l.fn.line + length (lines_in (option_copied l.fn.rest));
  behind : l.fn.line ≤ l.number;
}

abbrev pub decreases-loop-rest : goal.decreases-loop-rest
decreases-loop-rest l = length (lines_in (option_copied l.rest))
