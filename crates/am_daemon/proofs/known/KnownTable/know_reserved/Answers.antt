use Rattle.std.proofs.Common.{◌≡◌, ℕ, List, ap, refl, ◌∙◌}
use Rattle.std.specs.Prelude.{nat_eq}
use Rattle.std.specs.Map.{lookup}
use Rattle.am_ordered.specs.{insert_entry}
use Rattle.am_ordered.specs.RowTable.{RowTable}
use Rattle.am_state.specs.{KnownRow}
use Rattle.am_daemon.specs.{known_at}
use Rattle.am_daemon.specs.Known.{row_of, rows_of}
use Rattle.am_daemon.proofs.ByFsLemmas.{put_is}
use Rattle.am_daemon.proofs.KnownLemmas.{gone_for_good}
use Rattle.am_daemon.proofs.OnceLemmas.{known_once}
use Rattle.am_daemon.proofs.known.KnownTable.know_reserved.Goals as goal

pub put_in-requires-clause-fresh : goal.put_in-requires-clause-fresh
put_in-requires-clause-fresh c =
    let fs = c.fs.inside.0 in
    ap (λ (es : List (ℕ × List (List ℕ))). lookup (nat_eq fs) es) c.take_out.ensures.entries
    ∙ gone_for_good fs c.self.inside.places.entries c.take_out.ensures.unique

pub invariant_of-self : goal.invariant_of-self
invariant_of-self c =
    let old = c.self.inside.places.entries in
    let fs = c.fs.inside.0 in
    let rows : rows_of c.put_in.new.places.entries ≡ known_at fs c.args.path (rows_of old) =
    ap rows_of (c.put_in.ensures.entries ∙ ap (λ (es : List (ℕ × List (List ℕ))). insert_entry nat_eq es fs c.args.path) c.take_out.ensures.entries)
    ∙ put_is row_of (λ (row : KnownRow). row.fs) (λ (row : KnownRow). row.path) (λ pair. refl) (λ pair. refl) fs c.args.path old c.take_out.ensures.unique in
    record {
      once = known_once fs c.args.path (rows_of old) _ rows c.self.invariant.once;
      counts = c.put_in.ensures.counts;
    }

pub returns-clause-rows : goal.returns-clause-rows
returns-clause-rows c =
    let old = c.self.inside.places.entries in
    let fs = c.fs.inside.0 in
    ap rows_of (c.put_in.ensures.entries ∙ ap (λ (es : List (ℕ × List (List ℕ))). insert_entry nat_eq es fs c.args.path) c.take_out.ensures.entries)
    ∙ put_is row_of (λ (row : KnownRow). row.fs) (λ (row : KnownRow). row.path) (λ pair. refl) (λ pair. refl) fs c.args.path old c.take_out.ensures.unique
    ∙ ap (λ (n : ℕ). known_at n c.args.path (rows_of old)) c.fs.view_is
    ∙ ap (λ (t : RowTable KnownRow). known_at c.args.fs c.args.path t.rows) c.self.view_is
