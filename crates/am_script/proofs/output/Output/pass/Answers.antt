use Rattle.std.proofs.Common.{sym, ◌∙◌, arith}
use Rattle.am_script.proofs.OwedLemmas.{stands_dropped, stands_passed, stands_cut}
use Rattle.am_script.proofs.output.Output.pass.Goals as goal

pub returns-then-is_some-clause-puts : goal.returns-then-is_some-clause-puts
returns-then-is_some-clause-puts g c = λ all start h.
    stands_dropped _ _ _ _ _ _ _ _ (sym c.is_some.ensures ∙ c.if-is_some.true) h

pub returns-then-taken-text-clause-puts : goal.returns-then-taken-text-clause-puts
returns-then-taken-text-clause-puts g c = λ all start h.
    stands_cut _ _ _ _ c.write_bytes-taken.result _ _ _ _ _ (sym c.is_some.ensures ∙ c.if-is_some.false) c.requires (omega (arith, c.if-taken-text.true)) c.write_bytes-taken.ensures.taken h

pub returns-else-taken-text-clause-puts : goal.returns-else-taken-text-clause-puts
returns-else-taken-text-clause-puts g c = λ all start h.
    stands_passed _ _ _ _ c.write_bytes-taken.result _ _ _ _ _ (sym c.is_some.ensures ∙ c.if-is_some.false) c.requires c.write_bytes-taken.ensures.bound (omega (arith, c.if-taken-text.false)) c.write_bytes-taken.ensures.taken h
