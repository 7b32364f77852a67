use Rattle.std.proofs.Common.{List, Option, sym, ap, subst, ◌∙◌, length, replicate, None}
use Rattle.am_lanes.specs.{Holder}
use Rattle.am_lanes.specs.Inside.{IsOnce}
use Rattle.am_lanes.proofs.LaneLemmas.{nobody, nobody_twice}
use Rattle.am_lanes.proofs.lanes.Lanes.clear.Goals as goal

pub invariant_of-self : goal.invariant_of-self
invariant_of-self c =
    record {
      once = subst (λ (xs : List (Option Holder)). IsOnce xs) (sym c.empty_lanes.ensures) (nobody_twice c.self.inside.holders.items);
      indexed = tt;
    }

pub returns : goal.returns
returns c =
    c.empty_lanes.ensures ∙ nobody c.self.inside.holders.items
    ∙ ap (λ (xs : List (Option Holder)). replicate (length xs) None) c.self.view_is
