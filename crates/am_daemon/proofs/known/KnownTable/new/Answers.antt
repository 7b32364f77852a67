use Rattle.std.proofs.Common.{ℕ, List, map, refl, sym, subst}
use Rattle.am_daemon.specs.{AreOnce}
use Rattle.am_daemon.specs.Known.{rows_of}
use Rattle.am_daemon.proofs.OnceLemmas.{none_once}
use Rattle.am_daemon.proofs.known.KnownTable.new.Goals as goal

pub invariant_of-result : goal.invariant_of-result
invariant_of-result c = record {
  once = subst (λ (pairs : List (ℕ × List (List ℕ))). AreOnce (map (λ row. row.fs) (rows_of pairs))) (sym c.new.ensures) none_once;
  counts = λ b. rw (c.new-2.ensures.empty, c.new.ensures) refl;
}
