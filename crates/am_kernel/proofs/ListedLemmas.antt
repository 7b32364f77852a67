-- What is looked for among the mounts that an index lists, in the place of all rows.
use Rattle.std.proofs.Common.{◌≡◌, ℕ, Bool, true, false, cond, ◌==◌, ◌&&◌, ◌||◌, List, [], ◌∷◌, ◌++◌, map, get_or, Option, Some, None, refl, sym, ap, ◌∙◌}
use Rattle.std.specs.Prelude.{filter}
use Rattle.std.specs.List.{All, list_any, flat_map}
use Rattle.std.proofs.lemmas.List.{get_or_default}
use Rattle.std.proofs.lemmas.List.Elements.{All-head, All-tail}
use Rattle.am_names.specs.{MountRow, Position}
use Rattle.am_names.specs.declared.trigger.Trigger.{Trigger}
use Rattle.am_mount.specs.{IsRising, mount_row, mounts_where, is_child, is_position_on, has_fs}
use Rattle.am_mount.proofs.FindLemmas.{found_in_place}
use Rattle.am_trigger.specs.{Autofs}
use Rattle.am_kernel.specs.{KernelState, is_top_of, trigger_at, trigger_under_row, standing_on, standing_row, standing_mount}

-- ---- the mounts of a file system

pub any_with : (fs : ℕ) (test : ℕ → Bool) (rows : List MountRow) → list_any test (mounts_where (has_fs fs) rows) ≡ list_any (λ row. row.fs == fs && test row.mount) rows
any_with fs test [] = refl
any_with fs test (row ∷ rows) = by_test (row.fs == fs) (any_with fs test rows)
  where
    by_test : (b : Bool) → list_any test (mounts_where (has_fs fs) rows) ≡ list_any (λ r. r.fs == fs && test r.mount) rows →
        list_any test (map (λ r. r.mount) (cond b (row ∷ filter (has_fs fs) rows) (filter (has_fs fs) rows))) ≡ ((b && test row.mount) || list_any (λ r. r.fs == fs && test r.mount) rows)
    by_test true later = ap (λ (c : Bool). test row.mount || c) later
    by_test false later = later

-- ---- the mounts on the daemon's mount

-- each row is that of its number
rows_known : (rows : List MountRow) → IsRising rows → All (λ (row : MountRow). mount_row rows row.mount ≡ Some row) rows
rows_known rows rises i d less = found_in_place rows rises i (get_or rows i d).mount (get_or rows i d) less (get_or_default rows i d (get_or rows i d) less) refl

module _ (k : KernelState) (autofs : Autofs) where
  -- what is mounted elsewhere is the top at no place of it
  no_top : (row : MountRow) (o : Option Position) → is_position_on autofs.location o ≡ false → is_top_of k autofs.location row o ≡ false
  no_top row None h = refl
  no_top row (Some at) h = rw h refl

  nothing_elsewhere : (row : MountRow) → is_child autofs.location row ≡ false → standing_row k autofs row ≡ []
  nothing_elsewhere row h =
      ap (λ (b : Bool). standing_on (cond b (trigger_at autofs row.mountpoint) None) row.mount) (no_top row row.mountpoint h)

  listed_stand : (rows : List MountRow) → All (λ (row : MountRow). mount_row k.table.rows row.mount ≡ Some row) rows →
      flat_map (standing_mount k autofs) (mounts_where (is_child autofs.location) rows) ≡ flat_map (standing_row k autofs) rows
  listed_stand [] known = refl
  listed_stand (row ∷ rows) known =
      by_test (is_child autofs.location row) refl
      (listed_stand rows (All-tail (λ (r : MountRow). mount_row k.table.rows r.mount ≡ Some r) row rows known))
    where
      own : standing_mount k autofs row.mount ≡ standing_row k autofs row
      own = ap (λ (o : Option MountRow). standing_on (trigger_under_row k autofs o) row.mount) (All-head (λ (r : MountRow). mount_row k.table.rows r.mount ≡ Some r) row rows known)

      by_test : (b : Bool) → is_child autofs.location row ≡ b →
          flat_map (standing_mount k autofs) (mounts_where (is_child autofs.location) rows) ≡ flat_map (standing_row k autofs) rows →
          flat_map (standing_mount k autofs) (map (λ r. r.mount) (cond b (row ∷ filter (is_child autofs.location) rows) (filter (is_child autofs.location) rows))) ≡ standing_row k autofs row ++ flat_map (standing_row k autofs) rows
      by_test true e later =
          ap (λ (xs : List (Trigger × ℕ)). xs ++ flat_map (standing_mount k autofs) (mounts_where (is_child autofs.location) rows)) own ∙
          ap (λ (xs : List (Trigger × ℕ)). standing_row k autofs row ++ xs) later
      by_test false e later = later ∙ ap (λ (xs : List (Trigger × ℕ)). xs ++ flat_map (standing_row k autofs) rows) (sym (nothing_elsewhere row e))

  pub mounts_stand : IsRising k.table.rows → flat_map (standing_mount k autofs) (mounts_where (is_child autofs.location) k.table.rows) ≡ flat_map (standing_row k autofs) k.table.rows
  mounts_stand rises = listed_stand k.table.rows (rows_known k.table.rows rises)
