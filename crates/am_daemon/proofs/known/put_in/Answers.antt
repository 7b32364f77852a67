use Rattle.std.proofs.Common.{ℕ, sym, subst, arith}
use Rattle.am_daemon.specs.Known.{AreCounts, CountsOneMore}
use Rattle.am_daemon.proofs.KnownLemmas.{counts_come, no_more_than_all}
use Rattle.am_daemon.proofs.known.put_in.Goals as goal

pub count_up-requires-clause-small : goal.count_up-requires-clause-small
count_up-requires-clause-small c =
    let agree = c.requires.counts c.bucket_of.result in
    let few = no_more_than_all c.args.places.now.entries c.bucket_of.result in
    omega (arith, agree, few, c.len-paths.ensures.exact, c.len-paths.ensures.bound)

pub returns-clause-counts : goal.returns-clause-counts
returns-clause-counts c =
    let up = subst (λ (b : ℕ). CountsOneMore b c.args.counts.now.entries c.count_up.new.counts.entries) c.bucket_of.ensures c.count_up.ensures.counts in
    subst (AreCounts c.count_up.new.counts.entries) (sym c.insert_reserved.ensures.entries) (counts_come c.args.fs c.args.path _ _ _ c.requires.fresh c.requires.counts up)
