use Rattle.std.proofs.Common.{ℕ, List, map, sym, ap, subst, ◌∙◌}
use Rattle.am_daemon.specs.{AreOnce}
use Rattle.am_daemon.specs.Known.{counted, in_bucket, rows_of}
use Rattle.am_daemon.proofs.CopyLemmas.{keys_once, same_numbers}
use Rattle.am_daemon.proofs.known.KnownTable.copy.Goals as goal

pub copies_of-requires : goal.copies_of-requires
copies_of-requires c = keys_once c.self.inside.places.entries c.self.invariant.once

pub invariant_of-result : goal.invariant_of-result
invariant_of-result c =
    let old = c.self.inside in
    let places = c.in_ok-copies_of.ensures.entries in
    let buckets = c.reserve.ensures.entries ∙ same_numbers old.buckets.entries c.in_ok-buckets.buckets.entries c.in_ok-buckets.ensures.cases in
    record {
      once = subst (λ (es : List (ℕ × List (List ℕ))). AreOnce (map (λ row. row.fs) (rows_of es))) (sym places) c.self.invariant.once;
      counts = λ b. ap (λ (es : List (ℕ × ℕ)). counted es b) buckets
          ∙ c.self.invariant.counts b
          ∙ ap (λ (es : List (ℕ × List (List ℕ))). in_bucket es b) (sym places);
    }
