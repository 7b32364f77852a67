use Rattle.std.proofs.Common.{ℕ, List, slice_get, sym, ap, subst, ◌∙◌}
use Rattle.indexmap.proofs.CallerLemmas.{keys-with_value_at}
use Rattle.am_mount.specs.Index.{listed_in, RoomIn}
use Rattle.am_index.proofs.EntryLemmas.{same_views, kept, value_set}
use Rattle.am_mount.proofs.index.Index.make_room.Goals as goal

pub returns-in_err-make_room-clause-same : goal.returns-in_err-make_room-clause-same
returns-in_err-make_room-clause-same c =
    λ k.
    kept listed_in c.place_of.new.self.lists c.in-Some.ensures.unique c.in-Some.place c.args.number
    c.index_mut.result.now c.in-Some.ensures.there c.index_mut.ensures.value c.make_room.new.self
    c.make_room.ensures.same k ∙
    same_views listed_in c.in-Some.ensures.lists k

pub returns-clause-same : goal.returns-clause-same
returns-clause-same c =
    λ k.
    kept listed_in c.place_of.new.self.lists c.in-Some.ensures.unique c.in-Some.place c.args.number
    c.index_mut.result.now c.in-Some.ensures.there c.index_mut.ensures.value c.make_room.new.self
    c.make_room.ensures.same k ∙
    same_views listed_in c.in-Some.ensures.lists k

pub returns-clause-ok : goal.returns-clause-ok
returns-clause-ok c =
    let lists = c.place_of.new.self.lists in
    let place = c.in-Some.place in (
      ap (λ (ks : List ℕ). slice_get ks place)
          (keys-with_value_at lists place c.make_room.new.self) ∙ c.in-Some.ensures.there,
      subst RoomIn
          (sym (value_set lists.entries place c.index_mut.result.now c.make_room.new.self
          c.index_mut.ensures.value))
          c.in_ok-make_room.ensures.ok,
    )
