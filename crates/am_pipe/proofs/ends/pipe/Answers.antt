use Rattle.std.proofs.Common.{◌≡◌, [], arith, ap, ◌∙◌, rules}
use Rattle.am_pipe.specs.{Taker, fresh_taker, fresh_view, known, read_by}
use Rattle.am_pipe.proofs.MeterLemmas.{opens, splits}
use Rattle.am_pipe.proofs.MoveLemmas.{begins, forks}
use Rattle.am_pipe.proofs.RestLemmas.{all_snoc}
use Rattle.am_pipe.proofs.ends.pipe.Goals as goal

pub ruled-requires-clause-rule : goal.ruled-requires-clause-rule
ruled-requires-clause-rule c = begins

pub another-other-requires-clause-rule : goal.another-other-requires-clause-rule
another-other-requires-clause-rule c = forks _ _ (ap (λ v. v.puts) c.loop-made.invariant.view)

pub of_words-requires : goal.of_words-requires
of_words-requires c = opens []

pub split_seat-other_seat-requires : goal.split_seat-other_seat-requires
split_seat-other_seat-requires c = (search rules, search (rules, arith), splits _ _)

pub loop-made-preserved : goal.loop-made-preserved
loop-made-preserved c =
    let id = c.another-other.new.pass.table_id in
    let same : c.loop-made.pass.table_id ≡ id = search rules in
    let theirs : c.another-other.result.table_id ≡ id = search rules in
    let got = (known c.another-other.result).got in
    let none : got ≡ [] = ap (λ v. v.got) c.another-other.ensures.rule.1 in
    let read = read_by c.split_seat-other_seat.result in
    let fresh : read ≡ fresh_view = ap (λ m. m.0) c.split_seat-other_seat.ensures.4 in
    let new : Taker = record {
      pipe = c.another-other.result.table_id;
      got = got;
      over = read.over;
      looks = read.looks;
      seen = read.seen;
      freed = read.freed;
    } in record {
      queue = search rules;
      seat = search rules;
      counts = search rules;
      room = search rules;
      view = search rules;
      len = search rules;
      fits = search rules;
      each = rw c.push_reserved.ensures.items
          (all_snoc (λ (t : Taker). t ≡ fresh_taker id) c.loop-made.ends.items new
          (λ k d lt. c.loop-made.invariant.each k d lt ∙ ap fresh_taker same)
          (λ i. record {
            pipe = theirs i;
            got = none i;
            over = (fresh i).over;
            looks = (fresh i).looks;
            seen = (fresh i).seen;
            freed = (fresh i).freed;
          }));
    }
