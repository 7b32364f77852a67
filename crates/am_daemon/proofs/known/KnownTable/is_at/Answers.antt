use Rattle.std.proofs.Common.{◌≡◌, sym, ap, ◌∙◌, arith}
use Rattle.std.specs.List.{list_any}
use Rattle.std.proofs.lemmas.Bool.Decides.{nat_tests}
use Rattle.am_names.specs.{same_names}
use Rattle.am_ordered.specs.RowTable.{RowTable}
use Rattle.am_state.specs.{KnownRow}
use Rattle.am_daemon.specs.Known.{row_of, bucket_of, counted, in_bucket}
use Rattle.am_daemon.proofs.ByFsLemmas.{any_mapped}
use Rattle.am_daemon.proofs.KnownLemmas.{none_in_bucket}
use Rattle.am_daemon.proofs.known.KnownTable.is_at.Goals as goal

pub returns-then-counted-eq0 : goal.returns-then-counted-eq0
returns-then-counted-eq0 c =
    let path = c.args.path.now in
    let pairs = c.self.inside.places.entries in
    let zero : c.counted.result ≡ 0 = grind (arith, nat_tests, c.if-counted-eq0.true) in
    let none : in_bucket pairs (bucket_of path) ≡ 0 =
    sym (c.self.invariant.counts (bucket_of path))
    ∙ ap (counted c.self.inside.buckets.entries) (sym c.bucket_of.ensures)
    ∙ sym c.counted.ensures ∙ zero in
    sym (none_in_bucket path pairs none)
    ∙ any_mapped row_of (λ (row : KnownRow). same_names row.path path) pairs
    ∙ ap (λ (t : RowTable KnownRow). list_any (λ (row : KnownRow). same_names row.path path) t.rows) c.self.view_is

pub returns : goal.returns
returns c =
    c.any_is_at.ensures
    ∙ any_mapped row_of (λ (row : KnownRow). same_names row.path c.args.path.now) c.self.inside.places.entries
    ∙ ap (λ (t : RowTable KnownRow). list_any (λ (row : KnownRow). same_names row.path c.args.path.now) t.rows) c.self.view_is
