use Rattle.std.proofs.Common.{◌≡◌, Some, Ok, option_copied, arith}
use Rattle.am_script.specs.{lines_in, Told, events_from, told_by}
use Rattle.am_views.proofs.CountedLemmas.{more_lines}
use Rattle.am_mountinfo.proofs.PlayLemmas.{playing_none, playing_more, playing_ends, last_ends, playing_fails}
use Rattle.am_world.specs.Capacity.{state_of}
use Rattle.am_mountinfo.proofs.world_text.play_events.Goals as goal

pub loop-found-init : goal.loop-found-init
loop-found-init c = record {
  going = playing_none _ _ _;
  fits = c.requires;
  lines = omega (arith, c.requires);
  refused = omega arith;
}

pub returns-in-Ok-None-clause-ok : goal.returns-in-Ok-None-clause-ok
returns-in-Ok-None-clause-ok c =
    let none = rw c.in-Ok-None.field-0-is at c.in-Ok-None.ensures.ok in
    playing_ends _ _ _ _ _ _ _ none.0 c.loop-found.invariant.going

pub returns-in-Ok-None-clause-last : goal.returns-in-Ok-None-clause-last
returns-in-Ok-None-clause-last c =
    let none = rw c.in-Ok-None.field-0-is at c.in-Ok-None.ensures.ok in
    last_ends _ _ _ _ _ _ _ none.0 c.loop-found.invariant.going

pub loop-found-preserved : goal.loop-found-preserved
loop-found-preserved c =
    let all : Told = events_from c.args.broke c.args.line (lines_in (option_copied c.args.rest)) in
    let left : Told = events_from c.args.broke c.loop-found.number (lines_in (option_copied c.loop-found.rest)) in
    let behind : Told = events_from c.args.broke c.in-Ok-Some.found.line (lines_in (option_copied c.in-Ok-Some.found.rest)) in
    let next : left ≡ told_by (Ok (Some c.in-Ok-Some.found.event)) c.in-Ok-Some.found.line behind = rw c.in-Ok-Some.field-0-is at c.in-Ok-Some.ensures.ok in
    let within = rw c.in-Ok-Some.field-0-is at c.in-Ok-Some.ensures.within in
    let played = c.in-Ok.ensures.played in
    let more = playing_more (state_of c.args.world.now) c.args.line all left behind (state_of c.loop-found.world) (state_of c.play_found.new.world) c.loop-found.summary c.loop-found.number c.in-Ok-Some.found.line c.in-Ok-Some.found.event played.answer played.seen c.in-Ok.behind.refused next c.loop-found.invariant.going played.step played.test played.room in
    let line = c.in-Ok.ensures.line in
    let rest = c.in-Ok.ensures.rest in
    record {
      going = rw (line, rest, c.one_more-summary.ensures) more;
      fits = rw (line, rest) (omega (arith, within.fits, c.loop-found.invariant.fits));
      lines = rw (rest, c.one_more-summary.ensures) (omega (arith, within.fewer, c.loop-found.invariant.lines));
      refused = rw c.one_more-summary.ensures (more_lines c.loop-found.summary c.in-Ok.behind.refused c.loop-found.invariant.refused);
    }

pub returns-in-Err-clause-err : goal.returns-in-Err-clause-err
returns-in-Err-clause-err c =
    playing_fails _ _ _ _ _ _ _ c.in-Err.fault c.loop-found.invariant.going c.in-Err.ensures.err
