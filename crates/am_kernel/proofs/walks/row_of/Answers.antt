use Rattle.std.proofs.Common.{sym, ◌∙◌}
use Rattle.am_kernel.proofs.WaitingLemmas.{no_walk_where_no_place, walk_at_place, copied_is}
use Rattle.am_kernel.proofs.walks.row_of.Goals as goal

pub returns-in_default : goal.returns-in_default
returns-in_default c = sym (no_walk_where_no_place c.args.walker c.args.rows.now (sym c.place_of.ensures ∙ c.in_default.is))

pub returns : goal.returns
returns c =
    copied_is c.args.rows.now c.in-Some.place c.get.result c.get.ensures.lookup
    ∙ walk_at_place c.args.walker c.args.rows.now c.in-Some.place (sym c.place_of.ensures ∙ c.in-Some.is)
