use Rattle.std.proofs.Common.{◌≡◌, ◌+◌, ℕ, List, Ok, Err, sym, ◌∙◌, arith}
use Rattle.am_lines.specs.{Statement, statements, words_of, statement_of_words, lines_behind}
use Rattle.am_lines.proofs.ReachedLemmas.{goes_on, reached}
use Rattle.am_map.specs.{rows_read, AreRows, map_read, line_added}
use Rattle.am_map.proofs.FaultLemmas.{passed_on}
use Rattle.am_map.proofs.ReadLemmas.{line_goes, line_stops, stay_good, read_is, finds_first}
use Rattle.am_map.proofs.map.Map.read.Goals as goal

pub returns-in_default-clause-reached : goal.returns-in_default-clause-reached
returns-in_default-clause-reached c =
    reached (AreRows c.args.kind) (AreRows c.args.kind) c.args.text.now c.loop-behind.number c.loop-behind.rest.now c.loop-behind.invariant.come (λ (lines : List Statement) good. good)

pub returns-in-Err-clause-read : goal.returns-in-Err-clause-read
returns-in-Err-clause-read c =
    let number = c.loop-behind.number in
    let stops = λ (e : (n : ℕ) → line_added c.args.kind c.loop-behind.map (statement_of_words n (words_of c.as_slice.result.now)) ≡ Err c.in-Err.kind).
    sym (read_is (rows_read c.args.kind (statements c.args.text.now))) ∙ sym c.loop-behind.invariant.read
    ∙ line_stops c.args.kind number c.loop-behind.map c.in-Err.kind c.loop-behind.rest.now c.next_line.new.line.items (lines_behind number c.in-Ok.behind) (c.in-Ok.ensures.ok number) (rw c.as_slice.ensures.value at (e number)) in
    passed_on c.in-Err.kind stops c.in-Err.ensures.err

pub returns-in_default-rest : goal.returns-in_default-rest
returns-in_default-rest c =
    let number = c.loop-behind.number in
    let goes = line_goes c.args.kind number c.loop-behind.map c.read_line.new.self c.loop-behind.rest.now c.next_line.new.line.items (lines_behind number c.in-Ok.behind) (c.in-Ok.ensures.ok number) (rw c.as_slice.ensures.value at (c.in_default-read_line.ensures.ok number)) in
    let whole : map_read c.args.kind c.args.text.now ≡ Ok c.read_line.new.self =
    sym (read_is (rows_read c.args.kind (statements c.args.text.now))) ∙ sym c.loop-behind.invariant.read ∙ (rw c.in_default-rest.is at goes) in
    record { read = whole; look_ups = finds_first (rows_read c.args.kind (statements c.args.text.now)) c.read_line.new.self whole; reached = tt; line = tt }

pub loop-behind-preserved : goal.loop-behind-preserved
loop-behind-preserved c =
    let number = c.loop-behind.number in
    let goes = line_goes c.args.kind number c.loop-behind.map c.read_line.new.self c.loop-behind.rest.now c.next_line.new.line.items (lines_behind number c.in-Ok.behind) (c.in-Ok.ensures.ok number) (rw c.as_slice.ensures.value at (c.in_default-read_line.ensures.ok number)) in
    let shorter = (rw c.in-Some.is at c.in-Ok.ensures.shorter) in
    record {
      read = sym (rw c.in-Some.is at goes) ∙ c.loop-behind.invariant.read;
      come = goes_on (AreRows c.args.kind) (AreRows c.args.kind) c.args.text.now number (number + c.in-Ok.behind.raw_lines) c.loop-behind.rest.now c.next_line.new.line.items c.in-Some.next.now
          (rw c.in-Some.is at (c.in-Ok.ensures.ok number))
          (stay_good c.args.kind number c.loop-behind.map c.read_line.new.self (words_of c.next_line.new.line.items) (rw c.as_slice.ensures.value at (c.in_default-read_line.ensures.ok number)))
          c.loop-behind.invariant.come;
      counted = omega (arith, shorter, c.loop-behind.invariant.counted);
    }
