use Rattle.std.proofs.Common.{refl, ap}
use Rattle.std.specs.Prelude.{map}
use Rattle.am_expire.specs.{Use}
use Rattle.am_expire.specs.View.{use_of}
use Rattle.am_ordered.proofs.SameLemmas.{known_by_rows}
use Rattle.am_expire.proofs.uses.Uses.is_same.Goals as goal

pub returns : goal.returns
returns c =
    let old = c.self.inside.mounts.entries in
    let new = c.other.inside.mounts.entries in
    rw (← c.self.view_is, ← c.other.view_is)
    (λ h. ap (map use_of) (c.is_same.ensures.0 h), λ h. c.is_same.ensures.1 (known_by_rows use_of (λ (u : Use). (u.walker, u.mount)) (λ e. refl) old new h))
