use Rattle.std.proofs.Common.{◌≡◌, ◌+◌, drop}
use Rattle.am_explore.specs.Answers.{resumes}
use Rattle.am_explore.proofs.answers.resumes.Given as goal

-- those so far, and those that are left
abbrev pub invariant-loop-event : goal.invariant-loop-event
invariant-loop-event l = record {
  so_far : l.count ≡ l.event-index;
  all : l.count + resumes (drop l.event-index l.events) ≡ resumes l.events;
}
