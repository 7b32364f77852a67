use Rattle.std.proofs.Common.{ℕ, List, map, sym, ap, subst, ◌∙◌}
use Rattle.am_expire.specs.{use_count}
use Rattle.am_expire.specs.Counts.{counted}
use Rattle.am_expire.specs.View.{IsSingle, use_of}
use Rattle.am_expire.proofs.UseLemmas.{same_counts}
use Rattle.am_expire.proofs.uses.Uses.copy.Goals as goal

pub invariant_of-result : goal.invariant_of-result
invariant_of-result c =
    let old = c.self.inside in
    let mounts = c.in_ok-copy.ensures.entries in
    let counts = same_counts old.counts.entries c.in_ok-clone.field-0.entries c.in_ok-clone.ensures.cases in
    record {
      single = subst (λ (es : List (ℕ × ℕ)). IsSingle (map use_of es)) (sym mounts) c.self.invariant.single;
      counts = λ mount. ap (λ (es : List (ℕ × ℕ)). counted es mount) counts
          ∙ c.self.invariant.counts mount
          ∙ ap (λ (es : List (ℕ × ℕ)). use_count (map use_of es) mount) (sym mounts);
    }
