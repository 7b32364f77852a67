use Rattle.std.proofs.Common.{ap, arith, ◌∙◌}
use Rattle.am_shared.proofs.ChronicleLemmas.{takes_in, learns}
use Rattle.am_shared.proofs.chronicle.take_in.Goals as goal

pub join_seat-requires : goal.join_seat-requires
join_seat-requires c =
    let k = c.requires.keeper in
    let u = c.requires.caller in
    (k.0.0, u.0.0, u.0.2, omega (arith, k.0.1), takes_in _ _ _ _ k.1 (ap (λ v. v.keeps) u.1))

pub load-requires : goal.load-requires
load-requires c =
    let k = c.requires.keeper in
    let j = c.join_seat.ensures in
    (j.0 ∙ k.0.0, omega (arith, k.0.1), learns _ _ _ _ (ap (λ m. (m.0).keeps) j.2 ∙ k.1))

pub returns-clause-keeper : goal.returns-clause-keeper
returns-clause-keeper c =
    let k = c.requires.keeper in
    let j = c.join_seat.ensures in
    let l = c.load.ensures in
    let me = l.2.0 ∙ j.2 in
    ((l.0 ∙ j.0 ∙ k.0.0, k.0.1, ap (λ m. m.1) me ∙ k.0.2), ap (λ m. m.0) me)
