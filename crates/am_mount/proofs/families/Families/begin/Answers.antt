use Rattle.std.proofs.Common.{None, refl, sym, subst, ap, ◌∙◌, slice_get, ℕ, Option}
use Rattle.indexmap.specs.IndexMap.{IndexMap, keys, values}
use Rattle.am_mount.specs.declared.family.Family.{Family}
use Rattle.am_mount.specs.declared.family.Family.TheVariants.{One}
use Rattle.am_mount.specs.Families.{RoomFor}
use Rattle.am_index.proofs.EntryLemmas.{key_put, value_put}
use Rattle.am_mount.proofs.families.Families.begin.Goals as goal

pub returns-clause-there : goal.returns-clause-there
returns-clause-there c =
    let place = c.in_ok-place.place in
    ap (λ (m : IndexMap ℕ Family _). slice_get (keys m) place) c.looked_up.ensures ∙
    key_put c.args.parent (One None) c.args.self.now.families.entries
    c.insert_full.new.self.entries place c.in_ok-place.ensures.entries c.in_ok-place.ensures.index

pub returns-clause-room : goal.returns-clause-room
returns-clause-room c =
    let place = c.in_ok-place.place in
    λ b spot.
    subst (λ (o : Option Family). RoomFor o b spot)
    (sym
    (ap (λ (m : IndexMap ℕ Family _). slice_get (values m) place) c.looked_up.ensures ∙
    value_put c.args.parent (One None) c.args.self.now.families.entries
    c.insert_full.new.self.entries place c.in_ok-place.ensures.entries
    c.in_ok-place.ensures.index))
    refl
