use Rattle.std.proofs.Common.{◌≡◌, Some, None, sym, subst, ◌∙◌}
use Rattle.std.specs.Prelude.{nat_eq}
use Rattle.std.specs.Map.{lookup}
use Rattle.am_daemon.specs.Known.{AreCounts, CountsOneMore}
use Rattle.am_daemon.proofs.KnownLemmas.{none_gone, counts_gone, counted_there}
use Rattle.am_daemon.proofs.known.take_out.Goals as goal

pub returns-in_default-clause-counts : goal.returns-in_default-clause-counts
returns-in_default-clause-counts c =
    let old = c.args.places.now.entries in
    let none : lookup (nat_eq c.args.fs) old ≡ None = sym c.remove.ensures.value ∙ c.in_default.is in
    subst (AreCounts c.args.counts.now.entries) (sym (c.remove.ensures.entries ∙ none_gone c.args.fs old none)) c.requires

pub count_down-requires : goal.count_down-requires
count_down-requires c =
    let found : lookup (nat_eq c.args.fs) c.args.places.now.entries ≡ Some c.in-Some.path = sym c.remove.ensures.value ∙ c.in-Some.is in
    rw c.bucket_of.ensures (counted_there c.args.fs c.in-Some.path _ _ found c.requires)

pub returns-clause-counts : goal.returns-clause-counts
returns-clause-counts c =
    let found : lookup (nat_eq c.args.fs) c.args.places.now.entries ≡ Some c.in-Some.path = sym c.remove.ensures.value ∙ c.in-Some.is in
    let down = subst (λ b. CountsOneMore b c.count_down.new.counts.entries c.args.counts.now.entries) c.bucket_of.ensures c.count_down.ensures.counts in
    subst (AreCounts c.count_down.new.counts.entries) (sym c.remove.ensures.entries) (counts_gone c.args.fs c.in-Some.path _ _ _ found c.requires down)
