use Rattle.am_explore.proofs.OrderLemmas.{never_by_parts}
use Rattle.am_explore.proofs.laws.parts_tell_never.Goals as goal

pub returns : goal.returns
returns c scene question start here behind steps m = never_by_parts scene question start here behind m.choices m.answers
    m.end m.leads m.ends m.meets
