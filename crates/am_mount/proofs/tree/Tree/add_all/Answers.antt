use Rattle.std.proofs.Common.{◌≡◌, List, ◌∷◌, ◌++◌, sym, ap, subst, ◌∙◌, append_assoc, rules}
use Rattle.std.specs.Vec.Iter.{into_iter_items}
use Rattle.am_names.specs.{MountRow}
use Rattle.am_mount.specs.{IsRising}
use Rattle.am_mount.proofs.IndexLemmas.{rises_first}
use Rattle.am_mount.proofs.tree.Tree.add_all.Goals as goal

pub add-requires : goal.add-requires
add-requires c =
    let inv = c.loop-row.invariant in
    let old = c.args.self.now in
    let row = c.in-Some.row in
    let others = into_iter_items c.next.new.self in
    let step : into_iter_items c.loop-row.row-iterator ≡ row ∷ others = search rules in
    let all : old ++ c.args.rows.items ≡ c.loop-row.self ++ row ∷ others =
    ap (λ (xs : List MountRow). old ++ xs) (inv.rest ∙ ap (λ (xs : List MountRow). c.loop-row.yielded ++ xs) step) ∙
    sym (append_assoc old c.loop-row.yielded (row ∷ others)) ∙
    ap (λ (xs : List MountRow). xs ++ row ∷ others) (sym inv.grown) in
    rises_first 0 c.loop-row.self row others (subst (λ (xs : List MountRow). IsRising xs) all c.requires)
