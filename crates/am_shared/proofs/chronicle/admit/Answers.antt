use Rattle.std.proofs.Common.{ap, arith}
use Rattle.am_shared.proofs.ChronicleLemmas.{comes}
use Rattle.am_shared.proofs.chronicle.admit.Goals as goal

pub split_seat-requires : goal.split_seat-requires
split_seat-requires c =
    let k = c.requires.keeper in
    (k.0.0.0, omega (arith, k.0.0.1), comes _ _ (ap (λ v. v.keeps) k.0.1))
