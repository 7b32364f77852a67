use Rattle.std.proofs.Common.{ap, refl, ◌∙◌}
use Rattle.am_ordered.specs.RowTable.{RowTable}
use Rattle.am_state.specs.{KnownRow}
use Rattle.am_daemon.specs.Points.{path_of}
use Rattle.am_daemon.specs.Known.{row_of}
use Rattle.am_daemon.proofs.ByFsLemmas.{lookup_is}
use Rattle.am_daemon.proofs.known.KnownTable.path.Goals as goal

pub returns : goal.returns
returns c =
    let fs = c.fs.inside.0 in
    rw (← c.fs.view_is)
    (c.get.ensures
    ∙ lookup_is row_of (λ (row : KnownRow). row.fs) (λ (row : KnownRow). row.path) (λ pair. refl) (λ pair. refl) fs c.self.inside.places.entries
    ∙ ap (λ (t : RowTable KnownRow). path_of t.rows fs) c.self.view_is)
