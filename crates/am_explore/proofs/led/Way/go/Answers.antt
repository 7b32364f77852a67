use Rattle.std.proofs.Common.{◌≡◌, List, sym, ap, subst, ◌∙◌}
use Rattle.am_explore.specs.declared.begun.Begun.{Begun}
use Rattle.am_explore.specs.declared.choice.Choice.{Choice}
use Rattle.am_explore.specs.Leads.{numbered}
use Rattle.am_explore.specs.Orders.{IsMade, choices_at, stand_of}
use Rattle.am_explore.proofs.led.Way.go.Goals as goal

pub returns-in-Some-2 : goal.returns-in-Some-2
returns-in-Some-2 c =
    let scene = c.args.scene.now in
    let a = stand_of c.args.self.now.begun in
    let choice = c.in-Some.choice.now in
    let answer = c.in-Some-2.made.answer in
    let all : c.as_slice.result.now ≡ choices_at scene a = c.as_slice.ensures.value ∙ c.in_ok-choices.ensures in
    let made = rw c.in-Some-2.is at c.in_ok-made.ensures in (
      choice,
      answer,
      record {
        chosen = ap (λ (z : List Choice). numbered c.args.number z) (sym all) ∙ sym c.in-Some.ensures;
        made =
            subst (λ (z : Begun). IsMade scene a choice answer (stand_of z))
            (sym c.in_ok-push-in-Some-2.ensures.begun) made;
      },
      c.in_ok-push-in-Some-2.ensures.choices,
      c.in_ok-push-in-Some-2.ensures.answers,
    )

pub returns : goal.returns
returns c =
    let scene = c.args.scene.now in
    let a = stand_of c.args.self.now.begun in
    let all : c.as_slice.result.now ≡ choices_at scene a = c.as_slice.ensures.value ∙ c.in_ok-choices.ensures in (
      c.in-Some.choice.now,
      ap (λ (z : List Choice). numbered c.args.number z) (sym all) ∙ sym c.in-Some.ensures,
      rw c.in-None.is at c.in_ok-made.ensures,
    )
