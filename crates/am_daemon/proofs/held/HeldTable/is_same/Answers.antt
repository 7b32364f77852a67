use Rattle.std.proofs.Common.{refl, ap}
use Rattle.am_state.specs.{HeldRow}
use Rattle.am_daemon.specs.Held.{row_of, rows_of}
use Rattle.am_ordered.proofs.SameLemmas.{known_by_rows}
use Rattle.am_daemon.proofs.held.HeldTable.is_same.Goals as goal

pub returns : goal.returns
returns c =
    let old = c.self.inside.attachments.entries in
    let new = c.other.inside.attachments.entries in
    rw (← c.self.view_is, ← c.other.view_is)
    (λ h. ap rows_of (c.is_same.ensures.0 h), λ h. c.is_same.ensures.1 (known_by_rows row_of (λ (row : HeldRow). (row.fs, row.attach)) (λ e. refl) old new h))
