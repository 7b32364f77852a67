use Rattle.std.proofs.Common.{sym}
use Rattle.am_traces.specs.Observations.{is_space}
use Rattle.am_traces.proofs.Digits.{digits_to, all_digits}
use Rattle.am_traces.proofs.word.first_word_length.Goals as goal

pub returns-in-Some-clause-length : goal.returns-in-Some-clause-length
returns-in-Some-clause-length c = (digits_to is_space c.args.text.now c.in-Some.at (sym c.in-Some.ensures)).0

pub returns-in-Some-clause-within : goal.returns-in-Some-clause-within
returns-in-Some-clause-within c = (digits_to is_space c.args.text.now c.in-Some.at (sym c.in-Some.ensures)).1

pub returns-in-None-clause-length : goal.returns-in-None-clause-length
returns-in-None-clause-length c = all_digits is_space c.args.text.now (sym c.in-None.ensures)
