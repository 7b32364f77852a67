use Rattle.std.proofs.Common.{refl}
use Rattle.am_mount.proofs.FamilyLemmas.{may_go, taken_under, gone_under}
use Rattle.am_mount.proofs.families.Families.remove.Goals as goal

pub take_out-requires : goal.take_out-requires
take_out-requires c =
    may_go c.args.self.now c.place_of.new.self.families c.in-Some.ensures.families
    c.in-Some.ensures.unique c.in-Some.place c.args.parent c.index_mut-family.result.now
    c.in-Some.ensures.there c.index_mut-family.ensures.value c.args.bucket c.args.mount c.requires

pub returns-then-is_empty : goal.returns-then-is_empty
returns-then-is_empty c =
    gone_under c.args.self.now c.place_of.new.self.families c.in-Some.ensures.families
    c.in-Some.ensures.unique c.in-Some.place c.args.parent c.index_mut-family.result.now
    c.in-Some.ensures.there c.index_mut-family.ensures.value c.take_out.new.self c.args.bucket
    c.args.mount c.take_out.ensures c.if-is_empty.ensures.children c.if-is_empty.ensures.placed _
    c.swap_remove_index-gone.result c.swap_remove_index-gone.ensures.entry
    c.swap_remove_index-gone.ensures.updates

pub returns-else-is_empty : goal.returns-else-is_empty
returns-else-is_empty c =
    taken_under c.args.self.now c.place_of.new.self.families c.in-Some.ensures.families
    c.in-Some.ensures.unique c.in-Some.place c.args.parent c.index_mut-family.result.now
    c.in-Some.ensures.there c.index_mut-family.ensures.value c.take_out.new.self _ refl
    c.args.bucket c.args.mount c.take_out.ensures
