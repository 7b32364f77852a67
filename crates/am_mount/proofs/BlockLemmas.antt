-- Rows of mounts that stand side by side.
use Rattle.std.proofs.Common.{◌≡◌, ◌≤◌, ◌<◌, ◌+◌, ◌-◌, ◌∷◌, [], ℕ, zero, suc, Bool, true, false, List, length, take, drop, slice_get, option_map, Some, refl, sym, ap, subst, ◌∙◌, arith}
use Rattle.std.specs.Prelude.{map, zip, ◌==◌}
use Rattle.std.specs.Bool.{OnTrue}
use Rattle.std.specs.List.{list_all}
use Rattle.std.proofs.lemmas.Bool.{eqb-true, and_parts}
use Rattle.std.proofs.lemmas.List.{length-take, length-drop, length-map}
use Rattle.am_names.specs.{MountRow}
use Rattle.am_mount.specs.{RiseFrom, IsRising}
use Rattle.am_mount.specs.Near.{AreNumberedAlike, AreNumberedFrom}

-- rows and mounts that are the same in pairs
paired :
    (rows : List MountRow) (mounts : List ℕ) → length rows ≡ length mounts →
    list_all (λ (pair : MountRow × ℕ). pair.0.mount == pair.1) (zip rows mounts) ≡ true →
    map (λ (row : MountRow). row.mount) rows ≡ mounts
paired [] [] long same = refl
paired [] (m ∷ mounts) long same = absurd (omega arith)
paired (row ∷ rows) [] long same = absurd (omega arith)
paired (row ∷ rows) (m ∷ mounts) long same =
    let parts = and_parts (row.mount == m) _ same in
    ap (λ (k : ℕ). k ∷ map (λ (r : MountRow). r.mount) rows) (eqb-true row.mount m parts.0) ∙
    ap (λ (ks : List ℕ). m ∷ ks) (paired rows mounts (omega arith) parts.1)

-- where the test of the pairs says so, they are the rows of the mounts
pub pairs_are :
    (rows : List MountRow) (mounts : List ℕ) → length rows ≡ length mounts → (b : Bool) →
    b ≡ list_all (λ (pair : MountRow × ℕ). pair.0.mount == pair.1) (zip rows mounts) →
    OnTrue b (map (λ (row : MountRow). row.mount) rows ≡ mounts)
pairs_are rows mounts long true same = paired rows mounts long (sym same)
pairs_are rows mounts long false same = tt

-- mounts that are numbered one after another
numbered_at :
    (k n : ℕ) (mounts : List ℕ) → AreNumberedFrom n mounts → k < length mounts →
    slice_get mounts k ≡ Some (n + k)
numbered_at k n [] numbered within = absurd (omega arith)
numbered_at zero n (m ∷ mounts) numbered within =
    let first : m ≡ n = numbered.0 in
    let own : m ≡ n + 0 = omega arith in
    ap Some own
numbered_at (suc k) n (m ∷ mounts) numbered within =
    let next : (n + 1) + k ≡ n + suc k = omega arith in
    numbered_at k (n + 1) mounts numbered.1 (omega arith) ∙ ap Some next

-- the number of a mount
abbrev number : MountRow → ℕ
number row = row.mount

-- in rows that rise a number is no lower than its place tells
high :
    (k low : ℕ) (rows : List MountRow) → RiseFrom low rows → (x : ℕ) →
    option_map number (slice_get rows k) ≡ Some x → low + k ≤ x
high k low [] rises x there = absurd cc
high zero low (row ∷ rows) rises x there =
    let first : low ≤ row.mount = rises.0 in
    let own : row.mount ≡ x = cc in
    omega arith
high (suc k) low (row ∷ rows) rises x there =
    let first : low ≤ row.mount = rises.0 in
    let rest : (row.mount + 1) + k ≤ x = high k (row.mount + 1) rows rises.1 x there in
    omega arith

-- so where the last is as high as its place tells, none is left out
run :
    (k low : ℕ) (rows : List MountRow) (mounts : List ℕ) → RiseFrom low rows →
    length rows ≡ suc k → length mounts ≡ suc k →
    option_map number (slice_get rows k) ≡ slice_get mounts k → AreNumberedFrom low mounts →
    map number rows ≡ mounts
run k low [] mounts rises long many last numbered = absurd (omega arith)
run k low (row ∷ rows) [] rises long many last numbered = absurd (omega arith)
run zero low (row ∷ []) (m ∷ []) rises long many last numbered =
    let own : row.mount ≡ m = cc in ap (λ (n : ℕ). n ∷ []) own
run zero low (row ∷ other ∷ rows) (m ∷ mounts) rises long many last numbered = absurd (omega arith)
run zero low (row ∷ []) (m ∷ other ∷ mounts) rises long many last numbered = absurd (omega arith)
run (suc k) low (row ∷ rows) (m ∷ mounts) rises long many last numbered =
    let least : low ≤ row.mount = rises.0 in
    let top : (row.mount + 1) + k ≤ (low + 1) + k =
    high k (row.mount + 1) rows rises.1 ((low + 1) + k)
    (last ∙ numbered_at k (low + 1) mounts numbered.1 (omega arith)) in
    let own : row.mount ≡ low = omega arith in
    ap (λ (n : ℕ). n ∷ map number rows) (own ∙ sym numbered.0) ∙
    ap (λ (ns : List ℕ). m ∷ ns)
    (run k (low + 1) rows mounts (subst (λ (n : ℕ). RiseFrom (n + 1) rows) own rises.1)
    (omega arith) (omega arith) last numbered.1)

-- rows that rise, whose first and last are those of mounts that are numbered one after another
pub run_is :
    (rows : List MountRow) (mounts : List ℕ) → IsRising rows → length rows ≡ length mounts →
    option_map number (slice_get rows (length rows - 1)) ≡ slice_get mounts (length mounts - 1) →
    AreNumberedAlike rows mounts → map number rows ≡ mounts
run_is [] mounts rises long last numbered = absurd numbered
run_is (row ∷ rows) mounts rises long last numbered =
    let at : length (row ∷ rows) - 1 ≡ length rows = omega arith in
    let same : length mounts - 1 ≡ length rows = omega arith in
    run (length rows) row.mount (row ∷ rows) mounts (omega arith, rises.1) refl (omega arith)
    (ap (λ (k : ℕ). option_map number (slice_get (row ∷ rows) k)) (sym at) ∙ last ∙
    ap (λ (k : ℕ). slice_get mounts k) same)
    numbered

-- rows that stand from this place on reach no further than all rows
pub block_within :
    (rows : List MountRow) (mounts : List ℕ) (at : ℕ) → at ≤ length rows →
    map (λ (row : MountRow). row.mount) (take (length mounts) (drop at rows)) ≡ mounts →
    at + length mounts ≤ length rows
block_within rows mounts at inside stand =
    let long : length (take (length mounts) (drop at rows)) ≡ length mounts =
    sym (length-map (take (length mounts) (drop at rows)) (λ (row : MountRow). row.mount)) ∙ ap length stand in
    let shown = length-take (length mounts) (drop at rows) in
    let left = length-drop at rows in
    grind (arith, shown, left, long, inside)
