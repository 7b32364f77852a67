use Rattle.std.proofs.Common.{sym, ◌+◌}
use Rattle.std.proofs.lemmas.List.{take_rest}
use Rattle.am_lines.proofs.Cuts.{cut_some, cut_none}
use Rattle.am_mount_lines.specs.Traps.{is_comma}
use Rattle.am_cli.proofs.choices.cut_at_comma.Goals as goal

pub returns-in_err-at-clause-none : goal.returns-in_err-at-clause-none
returns-in_err-at-clause-none c = rw c.from_residual.ensures (cut_none is_comma c.args.word.now (sym c.in_err-at.ensures))

pub returns-clause-some : goal.returns-clause-some
returns-clause-some c = rw (take_rest c.args.word.now (c.in_ok-at.at + 1)) (cut_some is_comma c.args.word.now c.in_ok-at.at (sym c.in_ok-at.ensures))
