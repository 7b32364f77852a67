use Rattle.std.proofs.Common.{◌≡◌, ℕ, ◌+◌, IfOk, None, Some, Ok, Result, option_copied, refl, sym, subst, arith}
use Rattle.am_script.specs.{lines_in, Numbered, ScriptFault, Told, events_from, told_by}
use Rattle.am_machine.specs.State.{State}
use Rattle.am_draw.specs.{IsSizeOf, counted_to, lasts_of, NotCounted}
use Rattle.am_draw.proofs.CountLemmas.{counting_ends, counting_none, counting_more, counting_fails, counting_stops, counts_ok, sized}
use Rattle.am_world.specs.Capacity.{state_of}
use Rattle.am_draw.proofs.draw.count_events.Goals as goal

pub loop-found-init : goal.loop-found-init
loop-found-init c = record {
  counting = counting_none _ _ _ c.requires.nothing;
  fits = c.requires.fits;
  most = omega (arith, c.requires.fits);
}

pub loop-found-preserved : goal.loop-found-preserved
loop-found-preserved c =
    let all : Told = events_from c.args.broke c.args.line (lines_in (option_copied c.args.rest)) in
    let left : Told = events_from c.args.broke c.loop-found.number (lines_in (option_copied c.loop-found.rest)) in
    let behind : Told = events_from c.args.broke c.in-Ok-Some.found.line (lines_in (option_copied c.in-Ok-Some.found.rest)) in
    let asked : Numbered = record { line = c.in-Ok-Some.found.line; event = c.in-Ok-Some.found.event } in
    let next : left ≡ told_by (Ok (Some asked.event)) asked.line behind = rw c.in-Ok-Some.field-0-is at c.in-Ok-Some.ensures.ok in
    let within = rw c.in-Ok-Some.field-0-is at c.in-Ok-Some.ensures.within in
    let more = counting_more (state_of c.args.world.now) all left behind c.loop-found.events (c.loop-found.events + 1) (lasts_of c.loop-found.lasting) (lasts_of c.count_found.new.lasting) (state_of c.loop-found.world) (state_of c.count_found.new.world) asked refl next c.in-Ok.ensures.counted c.loop-found.invariant.counting in
    let line = c.in-Ok.ensures.line in
    let rest = c.in-Ok.ensures.rest in
    record {
      counting = rw (line, rest, c.in-Ok.ensures.events) more;
      fits = rw (line, rest) (omega (arith, within.fits, c.loop-found.invariant.fits));
      most = rw (rest, c.in-Ok.ensures.events) (omega (arith, within.fewer, c.loop-found.invariant.most));
    }

pub returns-in-Err-count_found-clause-err : goal.returns-in-Err-count_found-clause-err
returns-in-Err-count_found-clause-err c =
    let all : Told = events_from c.args.broke c.args.line (lines_in (option_copied c.args.rest)) in
    let left : Told = events_from c.args.broke c.loop-found.number (lines_in (option_copied c.loop-found.rest)) in
    let behind : Told = events_from c.args.broke c.in-Ok-Some.found.line (lines_in (option_copied c.in-Ok-Some.found.rest)) in
    let asked : Numbered = record { line = c.in-Ok-Some.found.line; event = c.in-Ok-Some.found.event } in
    let next : left ≡ told_by (Ok (Some asked.event)) asked.line behind = rw c.in-Ok-Some.field-0-is at c.in-Ok-Some.ensures.ok in
    let fault = c.in-Err-count_found.ensures.err in
    subst (λ (f : ScriptFault). NotCounted all f) (sym fault) (counting_fails (state_of c.args.world.now) all left behind c.loop-found.events (lasts_of c.loop-found.lasting) (state_of c.loop-found.world) asked next c.loop-found.invariant.counting)

pub returns-in-Ok-None-clause-ok : goal.returns-in-Ok-None-clause-ok
returns-in-Ok-None-clause-ok c =
    let all : Told = events_from c.args.broke c.args.line (lines_in (option_copied c.args.rest)) in
    let left : Told = events_from c.args.broke c.loop-found.number (lines_in (option_copied c.loop-found.rest)) in
    let none = rw c.in-Ok-None.field-0-is at c.in-Ok-None.ensures.ok in
    counting_ends (state_of c.args.world.now) all None left c.loop-found.events (lasts_of c.loop-found.lasting) (state_of c.loop-found.world) none.0 c.loop-found.invariant.counting

pub returns-in-Err-clause-ok : goal.returns-in-Err-clause-ok
returns-in-Err-clause-ok c =
    let start : State = state_of c.args.world.now in
    let all : Told = events_from c.args.broke c.args.line (lines_in (option_copied c.args.rest)) in
    let left : Told = events_from c.args.broke c.loop-found.number (lines_in (option_copied c.loop-found.rest)) in
    let events = c.loop-found.events in
    let lasts = lasts_of c.loop-found.lasting in
    let fault = c.in-Err.fault in
    subst (λ (r : Result ℕ ScriptFault). IfOk r (λ events. IsSizeOf start all (sized events lasts))) (sym c.counted_to.ensures)
    (counts_ok start all lasts (counted_to events fault.kind fault)
    (counting_stops start all left events lasts (state_of c.loop-found.world) fault fault.kind refl c.loop-found.invariant.counting c.in-Err.ensures.err))
