use Rattle.std.proofs.Common.{arith, length-take, sym}
use Rattle.std.proofs.lemmas.List.{take_all}
use Rattle.am_explain.proofs.excerpt.beginning.Goals as goal

pub returns-then-bytes-le-WIDTH : goal.returns-then-bytes-le-WIDTH
returns-then-bytes-le-WIDTH c = sym (take_all 72 c.args.bytes.now c.if-bytes-le-WIDTH.true)

pub slice_bounds-result-end : goal.slice_bounds-result-end
slice_bounds-result-end c = omega (arith, length-take 72 c.args.bytes.now, c.if-bytes-le-WIDTH.false)
