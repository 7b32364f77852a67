use Rattle.std.proofs.Common.{sym, ◌+◌}
use Rattle.std.proofs.lemmas.List.{take_rest}
use Rattle.am_lines.specs.{is_line_feed}
use Rattle.am_lines.proofs.Cuts.{cut_some, cut_none}
use Rattle.am_lines.proofs.lines.cut_at_line_feed.Goals as goal

pub returns-in-None-clause-last : goal.returns-in-None-clause-last
returns-in-None-clause-last c = cut_none is_line_feed c.args.text.now (sym c.in-None.ensures)

pub returns-in-Some-clause-cut : goal.returns-in-Some-clause-cut
returns-in-Some-clause-cut c = rw (take_rest c.args.text.now (c.in-Some.at + 1)) (cut_some is_line_feed c.args.text.now c.in-Some.at (sym c.in-Some.ensures))
