use Rattle.std.proofs.Common.{◌≡◌, ◌==◌, true, arith}
use Rattle.std.proofs.lemmas.Bool.Decides.{nat_tests}
use Rattle.am_daemon.proofs.JobTableLemmas.{single_place}
use Rattle.am_daemon.proofs.job_table.is_at.Goals as goal

pub returns : goal.returns
returns c told =
    let row = c.in-Some.row.now in
    let same : (row.token == c.args.job) ≡ true = grind (arith, nat_tests, c.eq.ensures, c.job.ensures, told) in
    let there = rw c.in-Some.is at c.get.ensures.lookup.3 in
    let is = rw c.in-Some.is at c.get.ensures.lookup.1 in
    single_place c.args.job c.args.place c.args.rows.now row c.requires.single there.0 is same
