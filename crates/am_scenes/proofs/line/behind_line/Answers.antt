use Rattle.std.proofs.Common.{sym, ◌+◌, take, drop}
use Rattle.std.proofs.lemmas.List.{take_rest}
use Rattle.am_lines.specs.{is_line_feed}
use Rattle.am_lines.proofs.Cuts.{cut_some, cut_none}
use Rattle.am_script.proofs.CutLine.{cut_line_more, cut_line_last}
use Rattle.am_scenes.proofs.line.behind_line.Goals as goal

pub returns-in_err-at-clause-none : goal.returns-in_err-at-clause-none
returns-in_err-at-clause-none c = rw c.from_residual.ensures
    (cut_line_last c.args.text.now c.args.text.now (cut_none is_line_feed c.args.text.now (sym c.in_err-at.ensures)))

pub returns-clause-some : goal.returns-clause-some
returns-clause-some c = rw (take_rest c.args.text.now (c.in_ok-at.at + 1))
    (cut_line_more c.args.text.now (take c.in_ok-at.at c.args.text.now) (drop (c.in_ok-at.at + 1) c.args.text.now)
    (cut_some is_line_feed c.args.text.now c.in_ok-at.at (sym c.in_ok-at.ensures)))
