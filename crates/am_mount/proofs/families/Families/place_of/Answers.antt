use Rattle.std.proofs.Common.{◌≡◌, ℕ, Some, slice_get, sym, ap, ◌∙◌}
use Rattle.indexmap.specs.IndexMap.{IndexMap, keys}
use Rattle.am_mount.specs.declared.family.Family.{Family}
use Rattle.am_mount.specs.Families.{parent_at}
use Rattle.am_index.proofs.EntryLemmas.{number_found}
use Rattle.am_mount.proofs.families.Families.place_of.Goals.{in-Some, in-None+in_ok-place-in-None}
use Rattle.am_mount.proofs.families.Families.place_of.Goals as goal

pub returns-clause-there : goal.returns-clause-there
returns-clause-there c =
    let place = c.match-place_nearby.place in
    let there : parent_at c.args.self.now place ≡ Some c.args.parent =
    elim c.match-place_nearby.branch [
      | in-Some w ↦ ap (parent_at c.args.self.now) w.place-is ∙ w.in-Some.ensures.there
      | in-None+in_ok-place-in-None w ↦
          ap (parent_at c.args.self.now) w.place-is ∙
          number_found (keys c.args.self.now.families) c.args.parent w.in_ok-place-in-None.place
          (sym w.in_ok-place-in-None.ensures.index)
    ] in
    ap (λ (m : IndexMap ℕ Family _). slice_get (keys m) place) c.looked_up.ensures ∙ there
