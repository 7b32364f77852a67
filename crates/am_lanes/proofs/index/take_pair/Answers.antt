use Rattle.std.proofs.Common.{◌==◌, ◌&&◌, false, cond, sym, ap, ◌∙◌}
use Rattle.std.specs.BTreeSet.{contains}
use Rattle.am_lanes.specs.Inside.{pair_cmp, is_open}
use Rattle.am_lanes.proofs.IndexLemmas.{pair_is}
use Rattle.am_lanes.proofs.index.take_pair.Goals as goal

pub returns : goal.returns
returns c = λ fs l.
    c.remove-there.ensures.updates.0 (fs, l)
    ∙ ap (λ b. cond b false (contains pair_cmp c.args.by_fs.now (fs, l)))
    (pair_is c.in-Some.before.look c.in-Some-fs_of.fs c.args.lane fs l (sym c.fs_of.ensures ∙ c.in-Some-fs_of.is)
    ∙ ap (λ o. (c.args.lane == l) && is_open fs o) (sym c.in-Some.is))
