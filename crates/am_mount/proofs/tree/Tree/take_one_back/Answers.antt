use Rattle.std.proofs.Common.{◌≡◌, List, [], ◌∷◌, ◌++◌, Option, sym, ap, subst, ◌∙◌}
use Rattle.std.specs.Option.{option_to_list}
use Rattle.am_names.specs.{MountRow}
use Rattle.am_mount.specs.{AreIndexed, IsRising}
use Rattle.am_mount.proofs.IndexLemmas.{indexed_back, may_take_out, only_last}
use Rattle.am_mount.proofs.RowLemmas.{RiseFrom-take}
use Rattle.am_mount.proofs.tree.Tree.take_one_back.Goals as goal

pub invariant_of-self : goal.invariant_of-self
invariant_of-self c =
    let row = c.in-Some.row in
    let all : c.self.inside.rows.rows ≡ c.pop.new.self.rows ++ row ∷ [] =
    c.pop.ensures.rows ∙ ap (λ (o : Option MountRow). c.pop.new.self.rows ++ option_to_list o) c.in-Some.is in
    record {
      rising = subst (λ (rows : List MountRow). IsRising rows) (sym c.pop.ensures.rest)
          (RiseFrom-take _ 0 c.self.inside.rows.rows c.self.invariant.rising);
      indexed = indexed_back c.pop.new.self.rows row c.self.inside.indexes c.remove.new.self
          (subst (λ (rows : List MountRow). IsRising rows) all c.self.invariant.rising)
          c.remove.ensures
          (subst (λ (rows : List MountRow). AreIndexed rows c.self.inside.indexes) all c.self.invariant.indexed);
    }

pub invariant_of-self-in-Some-2 : goal.invariant_of-self-in-Some-2
invariant_of-self-in-Some-2 c =
    let row = c.in-Some.row in
    let all : c.self.inside.rows.rows ≡ c.pop.new.self.rows ++ row ∷ [] =
    c.pop.ensures.rows ∙ ap (λ (o : Option MountRow). c.pop.new.self.rows ++ option_to_list o) c.in-Some.is in
    record {
      rising = subst (λ (rows : List MountRow). IsRising rows) (sym c.pop.ensures.rest)
          (RiseFrom-take _ 0 c.self.inside.rows.rows c.self.invariant.rising);
      indexed = indexed_back c.pop.new.self.rows row c.self.inside.indexes c.remove.new.self
          (subst (λ (rows : List MountRow). IsRising rows) all c.self.invariant.rising)
          c.remove.ensures
          (subst (λ (rows : List MountRow). AreIndexed rows c.self.inside.indexes) all c.self.invariant.indexed);
    }

pub remove-requires : goal.remove-requires
remove-requires c =
    let row = c.in-Some.row in
    let all : c.self.inside.rows.rows ≡ c.pop.new.self.rows ++ row ∷ [] =
    c.pop.ensures.rows ∙ ap (λ (o : Option MountRow). c.pop.new.self.rows ++ option_to_list o) c.in-Some.is in
    let rises : IsRising (c.pop.new.self.rows ++ row ∷ []) =
    subst (λ (rows : List MountRow). IsRising rows) all c.self.invariant.rising in
    may_take_out (c.pop.new.self.rows ++ row ∷ []) rises row (only_last c.pop.new.self.rows row rises)
    c.self.inside.indexes
    (subst (λ (rows : List MountRow). AreIndexed rows c.self.inside.indexes) all c.self.invariant.indexed)
