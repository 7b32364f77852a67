use Rattle.std.proofs.Common.{◌≡◌, ◌+◌, length, Err, sym, ◌∙◌, arith}
use Rattle.am_lines.specs.{words_of, statement_of_words, lines_behind}
use Rattle.am_lines.proofs.ReachedLemmas.{goes_on, reached}
use Rattle.am_master.specs.{AreRows, line_added}
use Rattle.am_master.proofs.FaultLemmas.{passed_on}
use Rattle.am_master.proofs.ReadLemmas.{line_goes, line_stops, line_stands, AreReadAs, are_rows, one_more}
use Rattle.am_master.proofs.master.Master.read.Goals as goal

pub returns-in_default-clause-reached : goal.returns-in_default-clause-reached
returns-in_default-clause-reached c =
    reached (AreReadAs c.loop-behind.master) AreRows c.args.text.now c.loop-behind.number c.loop-behind.rest.now c.loop-behind.invariant.come (are_rows c.loop-behind.master)

pub returns-in-Err-clause-reached : goal.returns-in-Err-clause-reached
returns-in-Err-clause-reached c =
    reached (AreReadAs c.loop-behind.master) AreRows c.args.text.now c.loop-behind.number c.loop-behind.rest.now c.loop-behind.invariant.come (are_rows c.loop-behind.master)

pub returns-in-Err-clause-read : goal.returns-in-Err-clause-read
returns-in-Err-clause-read c =
    let number = c.loop-behind.number in
    let stops = λ (e : line_added c.loop-behind.master (statement_of_words number (words_of c.as_slice.result.now)) ≡ Err c.in-Err.kind).
    sym c.loop-behind.invariant.read
    ∙ line_stops number c.loop-behind.master c.in-Err.kind c.loop-behind.rest.now c.next_line.new.line.items (lines_behind number c.in-Ok.behind) (c.in-Ok.ensures.ok number) (rw c.as_slice.ensures.value at e) in
    passed_on c.in-Err.kind stops c.in-Err.ensures.err

pub returns-in_default-rest-clause-lines : goal.returns-in_default-rest-clause-lines
returns-in_default-rest-clause-lines c =
    line_stands c.loop-behind.number (length c.args.text.now + 1) c.loop-behind.master c.read_line.new.self (words_of c.as_slice.result.now) c.in_default-read_line.ensures.ok (omega (arith, c.loop-behind.invariant.counted)) c.loop-behind.invariant.stand

pub returns-in_default-rest-clause-read : goal.returns-in_default-rest-clause-read
returns-in_default-rest-clause-read c =
    let number = c.loop-behind.number in
    let goes = line_goes number c.loop-behind.master c.read_line.new.self c.loop-behind.rest.now c.next_line.new.line.items (lines_behind number c.in-Ok.behind) (c.in-Ok.ensures.ok number) (rw c.as_slice.ensures.value at c.in_default-read_line.ensures.ok) in
    sym c.loop-behind.invariant.read ∙ (rw c.in_default-rest.is at goes)

pub loop-behind-preserved : goal.loop-behind-preserved
loop-behind-preserved c =
    let number = c.loop-behind.number in
    let goes = line_goes number c.loop-behind.master c.read_line.new.self c.loop-behind.rest.now c.next_line.new.line.items (lines_behind number c.in-Ok.behind) (c.in-Ok.ensures.ok number) (rw c.as_slice.ensures.value at c.in_default-read_line.ensures.ok) in
    let shorter = (rw c.in-Some.is at c.in-Ok.ensures.shorter) in
    record {
      read = sym (rw c.in-Some.is at goes) ∙ c.loop-behind.invariant.read;
      come = goes_on (AreReadAs c.loop-behind.master) (AreReadAs c.read_line.new.self) c.args.text.now number (number + c.in-Ok.behind.raw_lines) c.loop-behind.rest.now c.next_line.new.line.items c.in-Some.next.now
          (rw c.in-Some.is at (c.in-Ok.ensures.ok number))
          (one_more number c.loop-behind.master c.read_line.new.self (words_of c.next_line.new.line.items) (rw c.as_slice.ensures.value at c.in_default-read_line.ensures.ok))
          c.loop-behind.invariant.come;
      stand = line_stands number (length c.args.text.now + 1) c.loop-behind.master c.read_line.new.self (words_of c.as_slice.result.now) c.in_default-read_line.ensures.ok (omega (arith, c.loop-behind.invariant.counted)) c.loop-behind.invariant.stand;
      counted = omega (arith, shorter, c.loop-behind.invariant.counted);
    }
