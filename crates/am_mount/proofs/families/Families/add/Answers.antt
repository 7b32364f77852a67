use Rattle.std.proofs.Common.{refl, sym}
use Rattle.am_mount.proofs.FamilyLemmas.{added_under}
use Rattle.am_mount.proofs.families.Families.add.Goals as goal

pub returns-in-Some : goal.returns-in-Some
returns-in-Some c =
    λ n stands.
    added_under c.args.self.now c.args.self.now.families refl c.in-Some.ensures.unique
    c.args.spot.family n c.in-Some.family.now stands (sym c.in-Some.ensures.value)
    c.add.new.self _ refl c.args.bucket c.args.mount c.add.ensures
