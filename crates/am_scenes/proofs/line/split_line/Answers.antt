use Rattle.am_script.proofs.CutLine.{first_and_rest}
use Rattle.am_scenes.proofs.line.split_line.Goals as goal

pub returns : goal.returns
returns c = first_and_rest c.args.text.now c.cut_at_line_feed.result.0.now c.cut_at_line_feed.result.1
    c.cut_at_line_feed.ensures.last c.cut_at_line_feed.ensures.cut
