use Rattle.std.proofs.Common.{◌≡◌, ◌<◌, ℕ, List, Option, true, length, sym, ap, subst, ◌∙◌, IfSome, rules}
use Rattle.am_lanes.specs.{Holder, is_of}
use Rattle.am_lanes.specs.Bars.{at}
use Rattle.am_lanes.specs.Inside.{IsIndexOf, IsChanged}
use Rattle.am_lanes.specs.declared.index.Index.{Index}
use Rattle.am_lanes.proofs.IndexLemmas.{put_index}
use Rattle.am_lanes.proofs.LaneLemmas.{once_put}
use Rattle.am_lanes.proofs.lanes.Lanes.put.Goals as goal

pub invariant_of-self-else-is_err : goal.invariant_of-self-else-is_err
invariant_of-self-else-is_err c =
    let lanes = c.self.inside.holders.items in
    let is = subst (λ (o : Option Index). IfSome o (IsIndexOf lanes)) c.in-Some.is c.self.invariant.indexed in
    let within : c.args.lane < length lanes = search rules in
    let only : (l : ℕ) → is_of c.args.holder.number (at lanes l) ≡ true → l ≡ c.args.lane =
    λ l own. c.requires l (subst (λ (xs : List (Option Holder)). is_of c.args.holder.number (at xs l) ≡ true) c.self.view_is own) in
    let was : at lanes c.args.lane ≡ c.holder-old.result = ap (λ (xs : List (Option Holder)). at xs c.args.lane) c.self.view_is ∙ sym c.holder-old.ensures in
    let changed : IsChanged c.args.lane c.holder-old.result c.args.holder c.in-Some.index c.change.new.self = search rules in
    record {
      once = once_put lanes c.args.lane c.args.holder within c.self.invariant.once only;
      indexed = put_index lanes c.args.lane c.holder-old.result c.args.holder c.in-Some.index c.change.new.self within was only is changed;
    }
