use Rattle.std.proofs.Common.{◌≡◌, List, [], ◌∷◌, ◌++◌, sym, ap, subst, ◌∙◌}
use Rattle.am_names.specs.{MountRow}
use Rattle.am_mount.specs.{IsRising, AreIndexed}
use Rattle.am_mount.proofs.IndexLemmas.{indexed_same, indexed_more}
use Rattle.am_mount.proofs.tree.Tree.add.Goals as goal

pub invariant_of-self-2 : goal.invariant_of-self-2
invariant_of-self-2 c =
    let rows = c.self.inside.rows.rows in
    let row = c.args.row in
    let added : c.push_reserved.new.self.rows ≡ rows ++ row ∷ [] =
    c.push_reserved.ensures.rows ∙
    ap (λ (xs : List MountRow). xs ++ row ∷ []) c.reserve.ensures.rows in
    record {
      rising = subst (λ (xs : List MountRow). IsRising xs)
          (ap (λ (xs : List MountRow). xs ++ row ∷ []) (sym c.self.view_is) ∙ sym added) c.requires;
      indexed = subst (λ (xs : List MountRow). AreIndexed xs c.add.new.self) (sym added)
          (indexed_more rows row c.make_room.new.self c.add.new.self c.add.ensures
          (indexed_same rows c.self.inside.indexes c.make_room.new.self c.make_room.ensures.same
          c.self.invariant.indexed));
    }
