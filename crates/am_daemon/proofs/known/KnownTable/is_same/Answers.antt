use Rattle.std.proofs.Common.{refl, ap}
use Rattle.am_state.specs.{KnownRow}
use Rattle.am_daemon.specs.Known.{row_of, rows_of}
use Rattle.am_ordered.proofs.SameLemmas.{known_by_rows}
use Rattle.am_daemon.proofs.known.KnownTable.is_same.Goals as goal

pub returns : goal.returns
returns c =
    let old = c.self.inside.places.entries in
    let new = c.other.inside.places.entries in
    rw (← c.self.view_is, ← c.other.view_is)
    (λ h. ap rows_of (c.are_same.ensures.0 h), λ h. c.are_same.ensures.1 (known_by_rows row_of (λ (row : KnownRow). (row.fs, row.path)) (λ e. refl) old new h))
