use Rattle.std.proofs.Common.{rules}
use Rattle.am_script.proofs.Numerals.{numeral_is_text}
use Rattle.am_cli.proofs.number.numeral.Goals as goal

pub returns-in-Err-clause-none : goal.returns-in-Err-clause-none
returns-in-Err-clause-none c = absurd (c.in-Err.ensures.cases.0 (numeral_is_text c.args.digits.now (search rules)))
