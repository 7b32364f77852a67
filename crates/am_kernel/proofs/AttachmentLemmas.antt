-- What a change of the attachment of one file system leaves.
use Rattle.std.proofs.Common.{◌≡◌, ◌≢◌, ◌≤◌, ◌+◌, ◌==◌, ℕ, true, false, cond, List, map, refl, ap, sym, arith}
use Rattle.std.proofs.lemmas.Bool.{eq-eqb, ne_eqb}
use Rattle.std.proofs.lemmas.List.Elements.{All-map, All-weaker}
use Rattle.am_kernel.specs.{Attached, reattached_row, timeout_row}
use Rattle.am_kernel.specs.View.{AreAttached, AreGiven}
use Rattle.am_kernel.proofs.RisingLemmas.{given_mapped}

-- ---- a timeout

pub timeout_fs : (fs timeout : ℕ) (row : Attached) → (timeout_row fs timeout row).fs ≡ row.fs
timeout_fs fs timeout row = elim (row.fs == fs) as (λ b. (cond b (record row { timeout = timeout }) row).fs ≡ row.fs) [ true ↦ refl | false ↦ refl ]

pub timeout_elsewhere : (fs timeout : ℕ) (row : Attached) → row.fs ≢ fs → timeout_row fs timeout row ≡ row
timeout_elsewhere fs timeout row other = ap (λ b. cond b (record row { timeout = timeout }) row) (ne_eqb row.fs fs other)

pub timeout_here : (fs timeout : ℕ) (row : Attached) → row.fs ≡ fs → record row { timeout = timeout } ≡ timeout_row fs timeout row
timeout_here fs timeout row is = sym (ap (λ b. cond b (record row { timeout = timeout }) row) (eq-eqb row.fs fs is))

pub timeout_given : (last fs timeout : ℕ) (rows : List Attached) → AreGiven last rows → AreGiven last (map (timeout_row fs timeout) rows)
timeout_given last fs timeout rows all = given_mapped (λ (row : Attached). row.fs) last (timeout_row fs timeout) (timeout_fs fs timeout) rows all

pub timeout_attached : (last fs timeout : ℕ) (rows : List Attached) → AreAttached last rows → AreAttached last (map (timeout_row fs timeout) rows)
timeout_attached last fs timeout rows all = given_mapped (λ (row : Attached). row.attach) last (timeout_row fs timeout) same rows all
  where
    same : (row : Attached) → (timeout_row fs timeout row).attach ≡ row.attach
    same row = elim (row.fs == fs) as (λ b. (cond b (record row { timeout = timeout }) row).attach ≡ row.attach) [ true ↦ refl | false ↦ refl ]

-- ---- another attachment

pub reattached_fs : (fs attach : ℕ) (row : Attached) → (reattached_row fs attach row).fs ≡ row.fs
reattached_fs fs attach row = elim (row.fs == fs) as (λ b. (cond b (record row { attach = attach }) row).fs ≡ row.fs) [ true ↦ refl | false ↦ refl ]

pub reattached_elsewhere : (fs attach : ℕ) (row : Attached) → row.fs ≢ fs → reattached_row fs attach row ≡ row
reattached_elsewhere fs attach row other = ap (λ b. cond b (record row { attach = attach }) row) (ne_eqb row.fs fs other)

pub reattached_here : (fs attach : ℕ) (row : Attached) → row.fs ≡ fs → record row { attach = attach } ≡ reattached_row fs attach row
reattached_here fs attach row is = sym (ap (λ b. cond b (record row { attach = attach }) row) (eq-eqb row.fs fs is))

pub reattached_given : (last fs attach : ℕ) (rows : List Attached) → AreGiven last rows → AreGiven last (map (reattached_row fs attach) rows)
reattached_given last fs attach rows all = given_mapped (λ (row : Attached). row.fs) last (reattached_row fs attach) (reattached_fs fs attach) rows all

pub reattached_attached : (last fs : ℕ) (rows : List Attached) → AreAttached last rows → AreAttached (last + 1) (map (reattached_row fs (last + 1)) rows)
reattached_attached last fs rows all =
    All-map (λ (row : Attached). row.attach ≤ last + 1) (reattached_row fs (last + 1)) rows
    (All-weaker (λ (row : Attached). row.attach ≤ last) (λ (row : Attached). (reattached_row fs (last + 1) row).attach ≤ last + 1) each rows all)
  where
    each : (row : Attached) → row.attach ≤ last → (reattached_row fs (last + 1) row).attach ≤ last + 1
    each row le = elim (row.fs == fs) as (λ b. (cond b (record row { attach = last + 1 }) row).attach ≤ last + 1) [ true ↦ omega arith | false ↦ omega (arith, le) ]
