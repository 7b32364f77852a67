use Rattle.std.proofs.Common.{sym, ◌∙◌}
use Rattle.std.proofs.lemmas.Bool.{ne_eqb}
use Rattle.am_mountinfo.proofs.MasterLemmas.{found_above}
use Rattle.am_mountinfo.proofs.masters.dominating.Goals as goal

pub loop-above-preserved : goal.loop-above-preserved
loop-above-preserved c =
    let t = c.args.world.now.kernel.table in
    let ns = c.args.row.now.ns in
    let group = c.in-Some-above.group in
    rw c.master_of_group-above.ensures
    (sym (found_above t ns c.loop-above.most c.loop-above.above group c.in-Some-above.is
    (ne_eqb c.loop-above.most 0 c.if-most-eq0.false)
    (sym (c.requires ns group) ∙ sym c.has.ensures ∙ c.if-has.false))
    ∙ c.loop-above.invariant)
