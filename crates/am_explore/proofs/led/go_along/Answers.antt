use Rattle.std.proofs.Common.{◌≡◌, ℕ, get_or, sym}
use Rattle.std.proofs.lemmas.Option.{get_or_from_slice_get, slice_get-get_or}
use Rattle.am_explore.specs.Orders.{stand_of}
use Rattle.am_explore.proofs.LeadLemmas.{none_taken, taken_more}
use Rattle.am_explore.proofs.led.go_along.Goals as goal

pub returns-in-NoStep : goal.returns-in-NoStep
returns-in-NoStep c =
    let numbers = c.args.numbers.now in
    let i = c.loop-at.at in
    let number : ℕ = get_or numbers i 0 in
    let is : number ≡ get_or numbers i number =
    sym (get_or_from_slice_get numbers i number number (slice_get-get_or numbers i 0 c.loop-at-test.true)) in
    let way = c.loop-at.way in
    let went = rw c.in-NoStep.is at c.in_ok-go.ensures in
    none_taken c.args.scene.now (stand_of c.args.way.now.begun) numbers i number way.choices.items way.answers.items
    (stand_of way.begun) went.0 c.loop-at-test.true is c.loop-at.invariant went.1 went.2

pub returns-in-NoChoice : goal.returns-in-NoChoice
returns-in-NoChoice c = record {
  number = get_or c.args.numbers.now c.loop-at.at 0;
  numbered_so = slice_get-get_or c.args.numbers.now c.loop-at.at 0 c.loop-at-test.true;
  choices = c.loop-at.way.choices.items;
  answers = c.loop-at.way.answers.items;
  mid = stand_of c.loop-at.way.begun;
  taken = c.loop-at.invariant;
  missing = rw c.in-NoChoice.is at c.in_ok-go.ensures;
}

pub loop-at-preserved : goal.loop-at-preserved
loop-at-preserved c =
    let numbers = c.args.numbers.now in
    let i = c.loop-at.at in
    let number : ℕ = get_or numbers i 0 in
    let is : number ≡ get_or numbers i number =
    sym (get_or_from_slice_get numbers i number number (slice_get-get_or numbers i 0 c.loop-at-test.true)) in
    let way = c.loop-at.way in
    let went = rw c.in-On.is at c.in_ok-go.ensures in
    rw (went.3, went.4)
    (taken_more c.args.scene.now (stand_of c.args.way.now.begun) numbers i number way.choices.items way.answers.items
    (stand_of way.begun) went.0 went.1 (stand_of c.go.new.self.begun) c.loop-at-test.true is c.loop-at.invariant went.2)
