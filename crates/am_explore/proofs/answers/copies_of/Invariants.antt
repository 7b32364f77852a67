use Rattle.std.proofs.Common.{◌≡◌, take}
use Rattle.am_explore.proofs.answers.copies_of.Given as goal

abbrev pub invariant-loop-answer : goal.invariant-loop-answer
invariant-loop-answer l = l.copies.items ≡ take l.answer-index l.answers
