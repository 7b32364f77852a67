use Rattle.std.proofs.Common.{refl, sym, subst, ◌∙◌}
use Rattle.am_names.specs.PeerGroups.{PeerGroups}
use Rattle.am_group.specs.{AreIndexed, IsOrderly}
use Rattle.am_group.specs.View.{view_of}
use Rattle.am_group.proofs.IndexedLemmas.{indexed_same}
use Rattle.am_group.proofs.LiftLemmas.{same_state}
use Rattle.am_group.proofs.groups.Groups.copy.Goals as goal

pub invariant_of-result : goal.invariant_of-result
invariant_of-result c =
    let old = view_of c.self.inside in
    let same = same_state old c.in_ok-copy.field-0.rows c.in_ok-copy-2.field-0.rows c.self.inside.last_group c.in_ok-copy.ensures.rows c.in_ok-copy-2.ensures.rows refl in
    record {
      orderly = subst (λ (x : PeerGroups). IsOrderly x) (sym same) c.self.invariant.orderly;
      indexed = subst (λ (x : PeerGroups). AreIndexed x c.in_ok-copy-3.field-0) (sym same) (indexed_same old c.self.inside.indexes c.in_ok-copy-3.field-0 c.in_ok-copy-3.ensures c.self.invariant.indexed);
    }

pub returns : goal.returns
returns c =
    same_state (view_of c.self.inside) c.in_ok-copy.field-0.rows c.in_ok-copy-2.field-0.rows c.self.inside.last_group c.in_ok-copy.ensures.rows c.in_ok-copy-2.ensures.rows refl
    ∙ c.self.view_is
