use Rattle.std.proofs.Common.{sym, subst}
use Rattle.am_mount.specs.declared.few.Few.TheVariants.{Empty}
use Rattle.am_mount.specs.Index.{RoomIn}
use Rattle.am_index.proofs.EntryLemmas.{key_put, value_put}
use Rattle.am_mount.proofs.index.Index.begin.Goals as goal

pub returns-clause-ok : goal.returns-clause-ok
returns-clause-ok c =
    let old = c.args.self.now.lists.entries in
    let new = c.insert_full.new.self.entries in
    let place = c.in_ok-place.place in
    let entries = c.in_ok-place.ensures.entries in
    let index = c.in_ok-place.ensures.index in (
      key_put c.args.number Empty old new place entries index,
      subst RoomIn (sym (value_put c.args.number Empty old new place entries index)) tt,
    )
