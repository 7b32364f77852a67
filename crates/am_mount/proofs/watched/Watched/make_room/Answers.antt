use Rattle.std.proofs.Common.{ℕ, List, slice_get, refl, sym, ap, subst, ◌∙◌}
use Rattle.indexmap.specs.IndexMap.{keys}
use Rattle.indexmap.proofs.CallerLemmas.{keys-with_value_at}
use Rattle.am_mount.specs.Watched.{HasRowRoom}
use Rattle.am_index.proofs.EntryLemmas.{number_found, value_set}
use Rattle.am_mount.proofs.WatchedLemmas.{kept}
use Rattle.am_mount.proofs.watched.Watched.make_room.Goals as goal

pub returns-in_err-reserve-clause-same : goal.returns-in_err-reserve-clause-same
returns-in_err-reserve-clause-same c =
    let lists = c.args.self.now.lists in
    let place = c.in-Some.place in
    let there = number_found (keys lists) c.args.fs place (sym c.in-Some.ensures.index) in
    record {
      lists = kept lists c.in-Some.ensures.unique place c.args.fs c.index_mut.result.now there
          c.index_mut.ensures.value c.reserve.new.self c.reserve.ensures.rows;
      next = refl;
    }

pub returns-clause-same : goal.returns-clause-same
returns-clause-same c =
    let lists = c.args.self.now.lists in
    let place = c.in-Some.place in
    let there = number_found (keys lists) c.args.fs place (sym c.in-Some.ensures.index) in
    record {
      lists = kept lists c.in-Some.ensures.unique place c.args.fs c.index_mut.result.now there
          c.index_mut.ensures.value c.reserve.new.self c.reserve.ensures.rows;
      next = refl;
    }

pub returns-clause-ok : goal.returns-clause-ok
returns-clause-ok c =
    let lists = c.args.self.now.lists in
    let place = c.in-Some.place in
    let there = number_found (keys lists) c.args.fs place (sym c.in-Some.ensures.index) in (
      ap (λ (ks : List ℕ). slice_get ks place)
          (keys-with_value_at lists place c.reserve.new.self) ∙ there,
      subst HasRowRoom
          (sym (value_set lists.entries place c.index_mut.result.now c.reserve.new.self
          c.index_mut.ensures.value))
          c.in_ok-reserve.ensures.ok,
    )
