use Rattle.std.proofs.Common.{rules, ◌≡◌, Ok, subst}
use Rattle.am_machine.specs.{setup_of}
use Rattle.am_world.specs.Capacity.{state_of}
use Rattle.am_script.specs.{HeadSoFar, after_line, opening_read}
use Rattle.am_script.specs.Heading.{EventsBegin}
use Rattle.am_script.proofs.head_line.take_head_line.Goals as goal

pub returns-clause-ok : goal.returns-clause-ok
returns-clause-ok c =
    let whole = c.take_line.new.self in
    let begins : after_line c.args.heading.now c.args.number c.args.line.now ≡ EventsBegin whole = search rules in (
      whole,
      begins,
      subst (λ (h : HeadSoFar). opening_read h.said ≡ Ok (setup_of (state_of c.in_ok-world.world)))
          c.replace-whole.ensures.value c.in_ok-world.ensures.opening,
      c.in_ok-world.ensures.world,
    )
