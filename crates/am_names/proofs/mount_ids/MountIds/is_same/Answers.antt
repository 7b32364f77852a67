use Rattle.std.proofs.Common.{◌≡◌, Decides}
use Rattle.std.proofs.lemmas.Bool.Decides.{Decides-eqb}
use Rattle.std.proofs.lemmas.Slice.Eq.{slice_eq-Decides}
use Rattle.am_names.proofs.mount_ids.MountIds.is_same.Goals as goal

pub returns : goal.returns
returns c =
    let read : Decides c.eq.result (c.as_slice-numbers.result.now ≡ c.as_slice.result.now) = slice_eq-Decides Decides-eqb _ _ _ c.eq.ensures in
    rw (← c.as_slice-numbers.ensures, ← c.as_slice.ensures) read
