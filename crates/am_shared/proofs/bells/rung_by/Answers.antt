use Rattle.std.proofs.Common.{◌≡◌, ◌<◌, ◌%◌, ◌||◌, Bool, List, true, false, eqb, get_or, length, length-set, take, rules, sym, ap, ◌∙◌, arith}
use Rattle.std.specs.List.{list_any}
use Rattle.std.proofs.lemmas.List.{get_or-replicate}
use Rattle.std.proofs.Math.Bool.{or-false}
use Rattle.am_shared.proofs.BellLemmas.{not_rung, rung_set, seen_more}
use Rattle.am_shared.specs.{is_rung_by}
use Rattle.am_shared.proofs.bells.rung_by.Goals as goal
use Rattle.am_shared.proofs.bells.rung_by.Goals.{in-Released, in_default}

pub loop-obs-init : goal.loop-obs-init
loop-obs-init c = record { wide = search rules; rung = λ bell within. get_or-replicate 64 bell false false within }

pub loop-obs-preserved : goal.loop-obs-preserved
loop-obs-preserved c = record {
  wide = elim c.match-obs.branch [
    | in-Released w ↦ ap (length {A = Bool}) w.rung-is ∙ length-set c.loop-obs.rung (w.walker.inside.0 % 64) true ∙ c.loop-obs.invariant.wide
    | in_default w ↦ ap (length {A = Bool}) w.rung-is ∙ c.loop-obs.invariant.wide
  ];
  rung = λ bell within.
      let before = c.loop-obs.invariant.rung bell within in
      let rung = list_any (is_rung_by bell) (take c.loop-obs.obs-index c.args.seen.now) in
      let more = seen_more bell c.args.seen.now c.loop-obs.obs-index c.obs-item.result c.loop-obs-test.true c.obs-item.is in
      elim c.match-obs.branch [
        | in-Released w ↦
            let at = w.walker.inside.0 % 64 in
            let inside : at < length c.loop-obs.rung = omega (arith, c.loop-obs.invariant.wide) in
            let is : eqb at bell ≡ is_rung_by bell c.obs-item.result =
            ap (λ n. eqb (n % 64) bell) w.walker.view_is ∙ sym (ap (is_rung_by bell) w.in-Released.is) in
            ap (λ (r : List Bool). get_or r bell false) w.rung-is ∙ rung_set bell at c.loop-obs.rung inside
            ∙ (λ i. before i || is i) ∙ sym more
        | in_default w ↦
            ap (λ (r : List Bool). get_or r bell false) w.rung-is ∙ before
            ∙ sym (more ∙ ap (λ (b : Bool). rung || b) (not_rung bell c.obs-item.result w.in_default.not-Released) ∙ or-false rung)
      ];
}
