use Rattle.am_draw.proofs.NegativeLemmas.{of_cut, of_whole}
use Rattle.am_draw.proofs.negative.negative_of.Goals as goal

pub returns-in-None : goal.returns-in-None
returns-in-None c =
    of_whole c.args.input.now.broke c.as_slice-text.result.now c.args.input.now.text.items c.negative_in.result c.in-None.is c.as_slice-text.ensures.value c.negative_in.ensures

pub returns-in-Some : goal.returns-in-Some
returns-in-Some c =
    of_cut c.args.input.now.broke c.in-Some.field-0 c.as_slice-text.result.now c.args.input.now.text.items c.cut_line.result.now c.negative_in-in-Some.result c.in-Some.is c.as_slice-text.ensures.value c.cut_line.ensures.line c.negative_in-in-Some.ensures
