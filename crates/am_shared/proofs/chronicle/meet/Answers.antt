use Rattle.std.proofs.Common.{ap, arith, ◌∙◌}
use Rattle.am_shared.proofs.ChronicleLemmas.{hands, rests}
use Rattle.am_shared.proofs.chronicle.meet.Goals as goal

pub split_seat-whole-requires : goal.split_seat-whole-requires
split_seat-whole-requires c =
    let u = c.requires.caller in
    (u.0.0, omega (arith, u.0.1), hands _ _ (ap (λ v. v.keeps) u.1))

pub split_seat-requires : goal.split_seat-requires
split_seat-requires c =
    let k = c.requires.keeper in
    let u = c.requires.caller in
    let t = c.take_in.ensures.keeper in
    let w = c.split_seat-whole.ensures in
    let one = ap (λ v. v.parts) t.1 in (
      t.0.0,
      omega (arith, t.0.1),
      rests _ _ (ap (λ v. v.keeps) t.1 ∙ ap (λ v. v.keeps) k.1)
          (one ∙ omega (arith, ap (λ v. v.parts) k.1, ap (λ m. (m.0).parts) w.4, ap (λ v. v.parts) u.1)),
    )
