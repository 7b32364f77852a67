use Rattle.std.proofs.Common.{ℕ, List, map, sym, subst}
use Rattle.am_daemon.specs.{AreOnce}
use Rattle.am_daemon.specs.Held.{rows_of}
use Rattle.am_daemon.proofs.held.HeldTable.copy.Goals as goal

pub invariant_of-result : goal.invariant_of-result
invariant_of-result c =
    subst (λ (pairs : List (ℕ × ℕ)). AreOnce (map (λ row. row.fs) (rows_of pairs))) (sym c.in_ok-copy.ensures.entries) c.self.invariant
