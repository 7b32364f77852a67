use Rattle.std.proofs.Common.{ap, arith}
use Rattle.am_shared.proofs.ChronicleLemmas.{hands}
use Rattle.am_shared.proofs.chronicle.not_all.Goals as goal

pub split_seat-whole-requires : goal.split_seat-whole-requires
split_seat-whole-requires c =
    let u = c.requires.caller in
    (u.0.0, omega (arith, u.0.1), hands _ _ (ap (λ v. v.keeps) u.1))

pub returns : goal.returns
returns c =
    let u = c.requires.caller in
    let t = c.take_in.ensures.keeper in
    let w = c.split_seat-whole.ensures in
    let l = c.take_in.ensures.learned in
    omega (
      arith,
      l.few,
      c.requires.all,
      ap (λ v. v.parts) t.1,
      ap (λ v. v.made) t.1,
      ap (λ m. (m.0).parts) w.4,
      ap (λ v. v.parts) u.1,
    )
