-- Numbers that are sorted, and each of which is kept once.
use Rattle.std.proofs.Common.{ℕ, List, map, eqb}
use Rattle.std.specs.List.{dedup}
use Rattle.std.specs.List.Sorted.{IsPermutation, IsSorted}
use Rattle.std.specs.Ordering.{nat_cmp}
use Rattle.std.proofs.lemmas.List.Kept.{Contains-dedup_nat, Contains-from_dedup}
use Rattle.std.proofs.lemmas.List.Sorted.{Contains-permutation, IsPermutation-sym}
use Rattle.std.proofs.lemmas.Map.Keys.{IsStrictlyIncreasing-dedup}
use Rattle.am_names.specs.{MountRow}
use Rattle.am_mountinfo.specs.{AreNamespaces}

pub are_namespaces :
    (rows : List MountRow) (sorted : List ℕ) → IsPermutation (map (λ row. row.ns) rows) sorted →
    IsSorted nat_cmp sorted → AreNamespaces rows (dedup eqb sorted)
are_namespaces rows sorted moved sorts = record {
  rising = IsStrictlyIncreasing-dedup sorted sorts;
  each = λ ns. (
    (λ h. Contains-permutation sorted _ ns (IsPermutation-sym _ sorted moved) (Contains-from_dedup eqb sorted ns h)),
    (λ h. Contains-dedup_nat sorted ns (Contains-permutation _ sorted ns moved h)),
  );
}
