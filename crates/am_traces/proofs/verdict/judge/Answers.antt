use Rattle.std.proofs.Common.{List, subst}
use Rattle.am_script.specs.{lines_of}
use Rattle.am_laws.specs.{IsFirstBreach}
use Rattle.am_state.specs.{Obs}
use Rattle.am_traces.proofs.JudgeLemmas.{has_line}
use Rattle.am_traces.proofs.verdict.judge.Goals as goal

pub unreachable-requires : goal.unreachable-requires
unreachable-requires c =
    has_line (lines_of c.args.text.now) c.in_ok-seen.seen.items c.in-Some.breach c.in_ok-seen.ensures.ok (subst (λ (seen : List Obs). IsFirstBreach seen c.in-Some.breach) c.as_slice.ensures.value c.in-Some.ensures.some) c.in-None.ensures.none
