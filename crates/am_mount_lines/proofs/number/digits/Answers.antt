use Rattle.std.proofs.Common.{rules}
use Rattle.am_mount_lines.proofs.Numbers.{number_is_text}
use Rattle.am_mount_lines.proofs.number.digits.Goals as goal

pub returns-in-Err-clause-none : goal.returns-in-Err-clause-none
returns-in-Err-clause-none c = absurd (c.in-Err.ensures.cases.0 (number_is_text c.args.word.now (search rules)))
