use Rattle.std.proofs.Common.{◌≡◌, ◌<◌, ◌+◌, None, Some, length, take, refl, sym, subst, rules}
use Rattle.std.proofs.lemmas.List.{get_or_read_under}
use Rattle.am_lanes.specs.Bars.{at}
use Rattle.am_lanes.specs.Inside.{IsChanged, IsIndexOf, IsWithFree}
use Rattle.am_lanes.specs.declared.index.Index.{Index}
use Rattle.am_lanes.proofs.IndexLemmas.{made_holder, made_nobody}
use Rattle.am_lanes.proofs.lanes.index_of.Goals as goal
use Rattle.am_lanes.proofs.lanes.index_of.Goals.{in-Some+in_ok-change, in_default}

pub loop-lane-preserved : goal.loop-lane-preserved
loop-lane-preserved c =
    let hs = c.args.holders.now in
    let lane = c.loop-lane.lane in
    let within : lane < length hs = search rules in
    let here : at hs lane ≡ c.index-holders-lane.result = sym (get_or_read_under hs lane (length hs) c.index-holders-lane.result None c.index-holders-lane.is within refl) in
    let more : IsWithFree lane c.loop-lane.index c.add.new.self = search rules in
    elim c.match-holder.branch [
      | in-Some+in_ok-change w ↦
          let held : at hs lane ≡ Some w.in-Some.new = search rules in
          let changed : IsChanged lane None w.in-Some.new c.add.new.self w.change.new.self = search rules in
          let same : w.change.new.self ≡ c.match-holder.index = search rules in
          subst (λ (i : Index). IsIndexOf (take (lane + 1) hs) i) same
          (made_holder hs lane w.in-Some.new c.loop-lane.index c.add.new.self w.change.new.self within held c.requires c.loop-lane.invariant more changed)
      | in_default w ↦
          let nobody : at hs lane ≡ None = search rules in
          let same : c.add.new.self ≡ c.match-holder.index = search rules in
          subst (λ (i : Index). IsIndexOf (take (lane + 1) hs) i) same
          (made_nobody hs lane c.loop-lane.index c.add.new.self within nobody c.loop-lane.invariant more)
    ]
