use Rattle.std.proofs.Common.{◌≡◌, ◌-◌, ◌^◌, [], Some, rules}
use Rattle.std.specs.declared.ops.Bound.TheVariants.{Included}
use Rattle.std.specs.BTreeSet.{IsKeyRangeOf}
use Rattle.std.specs.List.{slice_get}
use Rattle.am_lanes.specs.Inside.{pair_cmp}
use Rattle.am_lanes.proofs.IndexLemmas.{range_first, range_none}
use Rattle.am_lanes.proofs.index.Index.next_in.Goals as goal

pub returns-in-Some : goal.returns-in-Some
returns-in-Some c =
    let pairs = c.args.self.now.by_fs in
    let range : IsKeyRangeOf pair_cmp (Included (c.args.fs, c.args.from)) (Included (c.args.fs, 2 ^ 64 - 1)) pairs c.range.result = search rules in
    let first : slice_get c.range.result 0 ≡ Some c.in-Some.pair.now = search rules in
    range_first c.args.fs c.args.from pairs c.range.result c.in-Some.pair.now.0 c.in-Some.pair.now.1 range first

pub returns-in-None : goal.returns-in-None
returns-in-None c =
    let pairs = c.args.self.now.by_fs in
    let range : IsKeyRangeOf pair_cmp (Included (c.args.fs, c.args.from)) (Included (c.args.fs, 2 ^ 64 - 1)) pairs c.range.result = search rules in
    let none : c.range.result ≡ [] = search rules in
    range_none c.args.fs c.args.from pairs c.range.result range none
