use Rattle.std.proofs.Common.{ℕ, List, Option, slice_get, refl, sym, ap, subst, ◌∙◌}
use Rattle.indexmap.proofs.CallerLemmas.{keys-with_value_at}
use Rattle.am_mount.specs.declared.family.Family.{Family}
use Rattle.am_mount.specs.Families.{RoomFor}
use Rattle.am_mount.proofs.FamilyLemmas.{same_families}
use Rattle.am_index.proofs.EntryLemmas.{value_set}
use Rattle.am_mount.proofs.families.Families.make_room.Goals as goal

pub returns-in_err-place-clause-same : goal.returns-in_err-place-clause-same
returns-in_err-place-clause-same c =
    same_families c.args.self.now c.place_of.new.self.families c.in-Some.ensures.families
    c.in-Some.ensures.unique c.in-Some.family c.args.parent c.index_mut.result.now
    c.in-Some.ensures.there c.index_mut.ensures.value c.make_room.new.self _ refl
    c.make_room.ensures.same

pub returns-clause-same : goal.returns-clause-same
returns-clause-same c =
    same_families c.args.self.now c.place_of.new.self.families c.in-Some.ensures.families
    c.in-Some.ensures.unique c.in-Some.family c.args.parent c.index_mut.result.now
    c.in-Some.ensures.there c.index_mut.ensures.value c.make_room.new.self _ refl
    c.make_room.ensures.same

pub returns-clause-ok : goal.returns-clause-ok
returns-clause-ok c =
    let families = c.place_of.new.self.families in
    let family = c.in-Some.family in (
      ap (λ (ks : List ℕ). slice_get ks family)
          (keys-with_value_at families family c.make_room.new.self) ∙ c.in-Some.ensures.there,
      subst (λ (o : Option Family). RoomFor o c.args.bucket c.in_ok-place.place)
          (sym (value_set families.entries family c.index_mut.result.now c.make_room.new.self
          c.index_mut.ensures.value))
          c.in_ok-place.ensures.ok,
    )
