use Rattle.std.proofs.Common.{drop}
use Rattle.std.specs.Prelude.{◌↔◌}
use Rattle.am_explore.specs.Questions.{HasAnswer}
use Rattle.am_explore.proofs.standing.has_answer.Given as goal

-- if there is one, it is among those that are left
abbrev pub invariant-loop-one : goal.invariant-loop-one
invariant-loop-one l = HasAnswer l.event l.sought (drop l.one-index l.heard) ↔ HasAnswer l.event l.sought l.heard
