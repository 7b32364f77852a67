use Rattle.std.proofs.Common.{◌≡◌, ◌≤◌, ◌+◌, length, Option, option_copied}
use Rattle.am_script.specs.{ScriptFaultKind, lines_in}
use Rattle.am_scenes.specs.{scene_from}
use Rattle.am_scenes.proofs.gathered.Gathered.take_lines.Given as goal

abbrev pub invariant-loop-rest : goal.invariant-loop-rest
invariant-loop-rest l = record {
  same :
      (broke : Option ScriptFaultKind) →
      scene_from broke l.fn.self l.fn.line (lines_in (option_copied l.fn.rest))
      ≡ scene_from broke l.self l.number (lines_in (option_copied l.rest));
  counted : l.number + length (lines_in (option_copied l.rest))
      ≡ l.fn.line + length (lines_in (option_copied l.fn.rest));
  behind : l.fn.line ≤ l.number;
}

abbrev pub decreases-loop-rest : goal.decreases-loop-rest
decreases-loop-rest l = length (lines_in (option_copied l.rest))
