use Rattle.std.proofs.Common.{◌==◌, ap, refl, ◌∙◌}
use Rattle.std.specs.List.{list_any}
use Rattle.am_ordered.specs.RowTable.{RowTable}
use Rattle.am_state.specs.{KnownRow}
use Rattle.am_daemon.specs.Known.{row_of}
use Rattle.am_daemon.proofs.ByFsLemmas.{found_is}
use Rattle.am_daemon.proofs.known.KnownTable.has.Goals as goal

pub returns-clause-exact : goal.returns-clause-exact
returns-clause-exact c =
    let fs = c.fs.inside.0 in
    rw (← c.fs.view_is)
    (c.contains_key.ensures
    ∙ found_is row_of (λ (row : KnownRow). row.fs) (λ (row : KnownRow). row.path) (λ pair. refl) (λ pair. refl) fs c.self.inside.places.entries
    ∙ ap (λ (t : RowTable KnownRow). list_any (λ (row : KnownRow). row.fs == fs) t.rows) c.self.view_is)
