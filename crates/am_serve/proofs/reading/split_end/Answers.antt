use Rattle.std.proofs.Common.{sym, ◌+◌}
use Rattle.std.proofs.lemmas.List.{take_rest}
use Rattle.am_script.proofs.CutLine.{ends_none, cut_at}
use Rattle.am_serve.proofs.reading.split_end.Goals as goal

pub returns-in_err-at-clause-none : goal.returns-in_err-at-clause-none
returns-in_err-at-clause-none c = rw c.from_residual.ensures (ends_none c.args.text.now (sym c.in_err-at.ensures))

pub returns-clause-some : goal.returns-clause-some
returns-clause-some c = rw (take_rest c.args.text.now (c.in_ok-at.at + 1)) (cut_at c.args.text.now c.in_ok-at.at (sym c.in_ok-at.ensures))
