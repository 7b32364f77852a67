use Rattle.std.proofs.Common.{◌≡◌, ◌==◌, true, arith}
use Rattle.std.proofs.lemmas.Bool.Decides.{nat_tests}
use Rattle.am_kernel.proofs.WaitingLemmas.{single_place}
use Rattle.am_kernel.proofs.walks.is_at.Goals as goal

pub returns : goal.returns
returns c told =
    let row = c.in-Some.row.now in
    let same : (row.walker == c.args.walker) ≡ true = grind (arith, nat_tests, c.eq.ensures, told) in
    let there = rw c.in-Some.is at c.get.ensures.lookup.3 in
    let is = rw c.in-Some.is at c.get.ensures.lookup.1 in
    single_place c.args.walker c.args.place c.args.rows.now row c.requires.single there.0 is same
