use Rattle.std.proofs.Common.{◌≡◌, List, [], ◌∷◌, ◌++◌, Option, None, length, sym, subst, IfSome, rules}
use Rattle.am_lanes.specs.{Holder}
use Rattle.am_lanes.specs.Inside.{IsIndexOf, IsOnce, IsWithFree}
use Rattle.am_lanes.specs.declared.index.Index.{Index}
use Rattle.am_lanes.proofs.IndexLemmas.{pushed_index}
use Rattle.am_lanes.proofs.LaneLemmas.{once_push}
use Rattle.am_lanes.proofs.lanes.Lanes.push_lane.Goals as goal

pub invariant_of-self-else-is_err : goal.invariant_of-self-else-is_err
invariant_of-self-else-is_err c =
    let lanes = c.self.inside.holders.items in
    let is = subst (λ (o : Option Index). IfSome o (IsIndexOf lanes)) c.in-Some.is c.self.invariant.indexed in
    let pushed : c.push_nobody.new.lanes.items ≡ lanes ++ None ∷ [] = search rules in
    let more : IsWithFree (length lanes) c.in-Some.index c.add.new.self = search rules in
    record {
      once = subst (λ (xs : List (Option Holder)). IsOnce xs) (sym pushed) (once_push lanes c.self.invariant.once);
      indexed = subst (λ (xs : List (Option Holder)). IsIndexOf xs c.add.new.self) (sym pushed) (pushed_index lanes c.in-Some.index c.add.new.self is more);
    }
