use Rattle.std.proofs.Common.{◌==◌, ap, refl, ◌∙◌}
use Rattle.std.specs.Prelude.{find}
use Rattle.std.specs.Option.{option_map}
use Rattle.am_ordered.specs.RowTable.{RowTable}
use Rattle.am_state.specs.{HeldRow}
use Rattle.am_daemon.specs.Held.{row_of}
use Rattle.am_daemon.proofs.ByFsLemmas.{lookup_is}
use Rattle.am_daemon.proofs.held.HeldTable.get.Goals as goal

pub returns-clause-exact : goal.returns-clause-exact
returns-clause-exact c =
    let fs = c.fs.inside.0 in
    rw (← c.fs.view_is)
    (c.copied.ensures ∙ c.get.ensures
    ∙ lookup_is row_of (λ (row : HeldRow). row.fs) (λ (row : HeldRow). row.attach) (λ pair. refl) (λ pair. refl) fs c.self.inside.attachments.entries
    ∙ ap (λ (t : RowTable HeldRow). option_map (λ (row : HeldRow). row.attach) (find (λ (row : HeldRow). row.fs == fs) t.rows)) c.self.view_is)
