use Rattle.am_draw.proofs.NothingLemmas.{nothing_ends}
use Rattle.am_draw.proofs.draw.draw_nothing.Goals as goal

pub returns : goal.returns
returns g c =
    let output = c.new_output-output in
    nothing_ends _ _ _ _ _ _ output.ensures.bytes output.ensures.marks output.ensures.line output.ensures.lost c.put_empty.ensures c.close.ensures.closes
