use Rattle.std.proofs.Common.{arith}
use Rattle.am_script.proofs.CutLine.{first_and_rest, sizes_within}
use Rattle.am_draw.proofs.negative.split_line.Goals as goal

pub returns-clause-lines : goal.returns-clause-lines
returns-clause-lines c = first_and_rest c.args.text.now c.cut_at_line_feed.result.0.now c.cut_at_line_feed.result.1 c.cut_at_line_feed.ensures.last c.cut_at_line_feed.ensures.cut

pub returns-clause-shorter : goal.returns-clause-shorter
returns-clause-shorter c =
    omega (arith, sizes_within c.args.text.now c.cut_at_line_feed.result.0.now c.cut_at_line_feed.result.1 c.cut_at_line_feed.ensures.whole c.cut_at_line_feed.ensures.shorter)
