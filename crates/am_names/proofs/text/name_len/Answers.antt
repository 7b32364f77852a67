use Rattle.std.proofs.Common.{length, sym, arith}
use Rattle.std.proofs.lemmas.List.Sums.{position_or_len_is}
use Rattle.std.proofs.lemmas.Bool.Decides.{nat_tests}
use Rattle.am_names.specs.{is_slash}
use Rattle.am_names.proofs.text.name_len.Goals as goal

pub returns-then-byte-eq47 : goal.returns-then-byte-eq47
returns-then-byte-eq47 c =
    sym (position_or_len_is is_slash c.args.text.now c.loop-at.at 0 (omega arith) c.loop-at.invariant (λ _. grind (arith, nat_tests, c.if-byte-eq47.true)))

pub returns : goal.returns
returns c =
    sym (position_or_len_is is_slash c.args.text.now (length c.args.text.now) 0 (omega arith) (λ k below. c.loop-at.invariant k (omega arith)) (λ long. absurd (omega arith)))
