use Rattle.std.proofs.Common.{refl, ap}
use Rattle.std.specs.Prelude.{map}
use Rattle.am_state.specs.{RecordRow}
use Rattle.am_job.specs.View.{row_of}
use Rattle.am_ordered.proofs.SameLemmas.{known_by_rows}
use Rattle.am_job.proofs.book.Book.is_same.Goals as goal

pub returns : goal.returns
returns c =
    let old = c.self.inside.records.entries in
    let new = c.other.inside.records.entries in
    rw (← c.self.view_is, ← c.other.view_is)
    (λ h. ap (map row_of) (c.is_same.ensures.0 h), λ h. c.is_same.ensures.1 (known_by_rows row_of (λ (row : RecordRow). (row.trigger, row.entry)) (λ e. refl) old new h))
