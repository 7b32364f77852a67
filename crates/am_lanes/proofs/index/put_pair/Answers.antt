use Rattle.std.proofs.Common.{true, cond, sym, ap, ◌∙◌}
use Rattle.std.specs.BTreeSet.{contains}
use Rattle.am_lanes.specs.Inside.{pair_cmp}
use Rattle.am_lanes.proofs.IndexLemmas.{pair_is}
use Rattle.am_lanes.proofs.index.put_pair.Goals as goal

pub returns-in-Ok : goal.returns-in-Ok
returns-in-Ok c = λ fs l.
    c.in-Ok.ensures.updates.0 (fs, l)
    ∙ ap (λ b. cond b true (contains pair_cmp c.args.by_fs.now (fs, l)))
    (pair_is c.args.look c.in-Some.fs c.args.lane fs l (sym c.fs_of.ensures ∙ c.in-Some.is))
