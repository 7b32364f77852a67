use Rattle.std.proofs.Common.{◌≡◌, ◌∷◌, false, drop, sym, ◌∙◌}
use Rattle.std.proofs.lemmas.List.{take_rest}
use Rattle.am_laws.specs.{is_pending}
use Rattle.am_laws.proofs.Grows.{place_is_in, settles_on}
use Rattle.am_laws.proofs.settled.first_open.Goals as goal

pub loop-o-preserved : goal.loop-o-preserved
loop-o-preserved c =
    let all = take_rest c.args.seen.now c.loop-o.settled in
    let is : drop c.loop-o.settled c.args.seen.now ≡ c.in-Some.o.now ∷ c.in-Some.field-0-1.now = sym all ∙ c.in-Some.ensures.cases.0 in
    let told = c.is_pending.ensures in
    let not_so = c.if-is_pending.false in
    let shut : is_pending c.in-Some.o.now (drop c.loop-o.settled c.args.seen.now) ≡ false = cc in (
      place_is_in c.loop-o.settled c.args.seen.now c.in-Some.o.now c.in-Some.field-0-1.now is,
      settles_on c.loop-o.settled c.args.seen.now c.in-Some.o.now c.in-Some.field-0-1.now is c.requires.were c.loop-o.invariant.1 shut,
    )
