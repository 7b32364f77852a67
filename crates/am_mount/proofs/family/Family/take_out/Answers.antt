use Rattle.std.proofs.Common.{subst, sym}
use Rattle.am_mount.specs.Family.{MayGo, TakesChild}
use Rattle.am_mount.specs.declared.family.Family.{Family}
use Rattle.am_mount.specs.declared.family.Family.TheVariants.{One, Siblings}
use Rattle.am_mount.proofs.FamilyLemmas.{one_left, siblings_left}
use Rattle.am_mount.proofs.family.Family.take_out.Goals as goal

pub returns-in-One : goal.returns-in-One
returns-in-One c =
    let new = c.take_one_out.new.one in
    subst (λ (old : Family). TakesChild c.args.bucket c.args.mount old (One new)) (sym c.in-One.is)
    (one_left c.args.bucket c.args.mount c.in-One.one new
    (subst (MayGo c.args.bucket c.args.mount) c.in-One.is c.requires)
    c.take_one_out.ensures.gone c.take_one_out.ensures.same)

pub returns-in-Siblings : goal.returns-in-Siblings
returns-in-Siblings c =
    let new = c.take_out.new.self in
    subst (λ (old : Family). TakesChild c.args.bucket c.args.mount old (Siblings new)) (sym c.in-Siblings.is)
    (siblings_left c.args.bucket c.args.mount c.in-Siblings.siblings new
    (subst (MayGo c.args.bucket c.args.mount) c.in-Siblings.is c.requires)
    c.take_out.ensures)
