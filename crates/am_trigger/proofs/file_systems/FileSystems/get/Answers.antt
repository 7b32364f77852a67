use Rattle.std.proofs.Common.{◌==◌, ap, ◌∙◌}
use Rattle.std.specs.Prelude.{find}
use Rattle.am_trigger.specs.{Autofs}
use Rattle.am_trigger.specs.FileSystemTable.{FileSystemTable}
use Rattle.am_trigger.proofs.FileSystemLemmas.{found_by_number}
use Rattle.am_trigger.proofs.file_systems.FileSystems.get.Goals as goal

pub returns : goal.returns
returns c =
    let fs = c.fs.inside.0 in
    rw (← c.fs.view_is)
    (c.copied.ensures ∙ c.get.ensures.value
    ∙ found_by_number fs c.self.inside.entries.entries c.self.invariant.numbers
    ∙ ap (λ (t : FileSystemTable). find (λ (row : Autofs). row.fs == fs) t.rows) c.self.view_is)
