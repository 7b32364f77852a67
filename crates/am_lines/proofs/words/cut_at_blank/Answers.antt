use Rattle.std.proofs.Common.{sym, ◌+◌}
use Rattle.std.proofs.lemmas.List.{take_rest}
use Rattle.am_lines.specs.{is_blank}
use Rattle.am_lines.proofs.Cuts.{cut_some, cut_none}
use Rattle.am_lines.proofs.words.cut_at_blank.Goals as goal

pub returns-in_err-at-clause-none : goal.returns-in_err-at-clause-none
returns-in_err-at-clause-none c = rw c.from_residual.ensures (cut_none is_blank c.args.line.now (sym c.in_err-at.ensures))

pub returns-clause-some : goal.returns-clause-some
returns-clause-some c = rw (take_rest c.args.line.now (c.in_ok-at.at + 1)) (cut_some is_blank c.args.line.now c.in_ok-at.at (sym c.in_ok-at.ensures))
