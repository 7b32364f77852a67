use Rattle.std.proofs.Common.{◌∷◌, ◌++◌, [], sym, subst, arith}
use Rattle.am_mount.specs.Watched.{RoomIfWatched}
use Rattle.am_mount.proofs.WatchedLemmas.{changed}
use Rattle.am_mount.proofs.watched.Watched.add.Goals as goal

pub returns-in-Some-get_index_mut : goal.returns-in-Some-get_index_mut
returns-in-Some-get_index_mut c =
    let lists = c.args.self.now.lists in
    let place = c.in-Some.place in
    let list = c.in-Some-get_index_mut.mounts.now in
    let there = subst (RoomIfWatched c.args.self.now c.args.fs) c.in-Some.is c.requires in
    let value = sym c.in-Some-get_index_mut.ensures.value in
    record {
      lists = changed lists c.in-Some-get_index_mut.ensures.unique place c.args.fs list there.0
          value (λ mounts. mounts ++ c.args.mount ∷ []) c.push_reserved.new.self
          c.push_reserved.ensures.rows;
      known = grind (arith);
      next = grind (arith);
    }
