use Rattle.std.proofs.Common.{ap, ◌∙◌}
use Rattle.std.specs.List.{list_any}
use Rattle.am_laws.specs.{is_expiry}
use Rattle.am_laws.specs.Breaches.{broken_by_delivery}
use Rattle.am_laws.proofs.Breaches.{at_queued, at_waits, at_answered, at_released, at_passed, at_delivered}
use Rattle.am_laws.proofs.law.broken_law.Goals as goal

pub returns-in-Queued : goal.returns-in-Queued
returns-in-Queued c = at_queued c.args.before.now c.args.o.now c.args.rest.now _ _ _ _ _ c.in-Queued.is c.has_queued.ensures c.unless.ensures

pub returns-in-Waits : goal.returns-in-Waits
returns-in-Waits c = at_waits c.args.before.now c.args.o.now c.args.rest.now _ _ _ _ c.in-Waits.is c.is_open.ensures c.unless-in-Waits.ensures

pub returns-in-Answered : goal.returns-in-Answered
returns-in-Answered c = at_answered c.args.before.now c.args.o.now c.args.rest.now _ _ _ c.in-Answered.is c.law_of_answer.ensures

pub returns-in-Released : goal.returns-in-Released
returns-in-Released c = at_released c.args.before.now c.args.o.now c.args.rest.now _ _ _ _ _ c.in-Released.is c.may_be_released.ensures c.unless-in-Released.ensures

pub returns-in-Passed : goal.returns-in-Passed
returns-in-Passed c = at_passed c.args.before.now c.args.o.now c.args.rest.now _ _ _ _ c.in-Passed.is (c.is_expiring.ensures ∙ ap (λ trigger. list_any (is_expiry c.args.before.now trigger) c.args.before.now) c.to_trigger.ensures) c.unless-in-Passed.ensures

pub returns-in-Delivered : goal.returns-in-Delivered
returns-in-Delivered c = at_delivered c.args.before.now c.args.o.now c.args.rest.now _ _ _ _ c.in-Delivered.is (c.law_of_delivery.ensures ∙ ap (λ packet. broken_by_delivery c.args.before.now c.in-Delivered.token c.in-Delivered.attach packet) c.to_packet.ensures)
