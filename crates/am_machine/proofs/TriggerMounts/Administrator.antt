-- What an administrator mounts, unmounts and copies is on no trigger at a daemon's mount.
use Rattle.std.proofs.Common.{◌≡◌, ◌≢◌, ◌+◌, ℕ, Bool, true, false, cond, List, [], ◌∷◌, Option, Some, None, refl, sym, ◌∙◌, ap, subst, inl, inr, ⊎_elim, arith}
use Rattle.std.specs.Prelude.{◌==◌, map, filter}
use Rattle.std.proofs.lemmas.Bool.{eqb-true}
use Rattle.am_names.specs.{Membership, MountRow, Position, is_among}
use Rattle.am_names.proofs.Basics.{some_injective, false_unless_true}
use Rattle.am_group.specs.{Receives}
use Rattle.am_mount.specs.{mount_row, is_in, IsAt}
use Rattle.am_mount.proofs.RowLemmas.{RiseFrom-filter}
use Rattle.am_propagate.specs.{CopyForm, is_mount, mountpoint_in, mountpoint_of, IsWhole, mounted, HasSource, copy_number, row_in, with_copy, unmounted, mounts_in}
use Rattle.am_propagate.specs.MountTable.{MountTable}
use Rattle.am_propagate.proofs.RemovalLemmas.{some_of}
use Rattle.am_propagate.proofs.AdditionLemmas.{mounted_whole}
use Rattle.am_propagate.proofs.NamespaceLemmas.{with_copy_whole}
use Rattle.am_trigger.specs.{Autofs, autofs_of}
use Rattle.am_kernel.specs.{KernelState, is_on_autofs, without_mounts, with_namespace}
use Rattle.am_machine.specs.{PlacesAgree}
use Rattle.am_machine.proofs.Places.Rows.{parent_row, Grows, StaysFree}
use Rattle.am_machine.proofs.Places.Added.{joined_row, first_stays, mounted_grows}
use Rattle.am_machine.proofs.Places.Grown.{mounts_same, off_location, stays_free}
use Rattle.am_machine.proofs.Places.Left.{among_passes, removed_shrinks, goes_cases, its_number}
use Rattle.am_machine.proofs.TriggerMounts.Unchanged.{Still, table_still}

-- ---- mounts come

-- where nothing of it is on a location
pub grown_still : (k : KernelState) (new : MountTable) (last : ℕ) → PlacesAgree k → IsWhole new → Grows k.table new → ((fs : ℕ) (a : Autofs) → autofs_of k.triggers fs ≡ Some a → StaysFree k.table new a.location) →
    Still k (record k { table = new; last_fs = last })
grown_still k new last h whole grows free =
    table_still k (record k { table = new; last_fs = last }) refl h.whole.rising whole.rising
    (λ fs a is m row place e at. grows.stays m row e)
    (λ fs a is m row place e at. ⊎_elim (λ old. old) (λ above. absurd ((free fs a is).free m row place above e at)) (grows.came m row e))

-- a mount where no autofs is, and its copies
pub mounted_still : (k : KernelState) (at : Position) (fs last : ℕ) (membership : Membership) → PlacesAgree k → is_mount k.table at.mount ≡ true → is_on_autofs k at.mount ≡ false → HasSource k.table fs membership →
    Still k (record k { table = mounted at fs membership k.table; last_fs = last })
mounted_still k at fs last membership h there off source =
    let row = some_of (mount_row k.table.rows at.mount) there in
    grown_still k (mounted at fs membership k.table) last h (mounted_whole k.table h.whole at fs membership there source) (mounted_grows k.table h.whole at fs membership)
    (λ g a is. stays_free k h at fs membership row.0 row.1 off g a is)

-- ---- a namespace is copied

copied_ns : (number : ℕ → ℕ) (to : ℕ) (rows : List MountRow) (m : ℕ) (row : MountRow) → mount_row (map (row_in number to) rows) m ≡ Some row → row.ns ≡ to
copied_ns number to [] m row e = absurd cc
copied_ns number to (x ∷ rows) m row e = by (number x.mount == m) e (copied_ns number to rows m row)
  where
    by : (b : Bool) → cond b (Some (row_in number to x)) (mount_row (map (row_in number to) rows) m) ≡ Some row → (mount_row (map (row_in number to) rows) m ≡ Some row → row.ns ≡ to) → row.ns ≡ to
    by true e later = ap (λ (r : MountRow). r.ns) (sym (some_injective e))
    by false e later = later e

-- the copies
abbrev copies_in : MountTable → ℕ → List MountRow
copies_in t ns = map (row_in (copy_number t.last_mount (mounts_in t ns)) (t.last_ns + 1)) (filter (is_in ns) t.rows)

pub copied_still : (k : KernelState) → PlacesAgree k → (ns : ℕ) (form : CopyForm) → Still k (with_namespace form ns k)
copied_still k h ns form = table_still k (with_namespace form ns k) refl h.whole.rising whole.rising
    (λ fs a is m row place e at. first_stays k.table.rows (copies_in k.table ns) m row e)
    (λ fs a is m row place e at. ⊎_elim (λ old. old) (λ new. absurd (apart fs a is m row place e at new)) (joined_row k.table.rows (copies_in k.table ns) m row e))
  where
    whole : IsWhole (with_copy form ns k.table)
    whole = with_copy_whole k.table h.whole ns form

    -- what comes is in the new namespace, and so is the mount on which it is mounted
    apart : (fs : ℕ) (a : Autofs) → autofs_of k.triggers fs ≡ Some a → (m : ℕ) (row : MountRow) (place : List (List ℕ)) → mount_row (with_copy form ns k.table).rows m ≡ Some row → IsAt a.location place row → mount_row (copies_in k.table ns) m ≡ Some row → ⊥
    apart fs a is m row place e at new =
        let its = h.locations fs a is in
        let parent = parent_row (with_copy form ns k.table) whole m a.location row place e at in
        let same : parent.0 ≡ its.row = some_injective (sym parent.1 ∙ first_stays k.table.rows (copies_in k.table ns) a.location its.row its.is_row) in
        let here : row.ns ≡ k.table.last_ns + 1 = copied_ns _ (k.table.last_ns + 1) (filter (is_in ns) k.table.rows) m row new in
        let there : its.row.ns ≡ row.ns = ap (λ (r : MountRow). r.ns) (sym same) ∙ parent.2 in
        let first : its.row.ns ≡ 0 = its.ns in
        omega arith

-- ---- mounts go

-- where none of them is on a location
pub left_still : (k : KernelState) (gone : List ℕ) → PlacesAgree k →
    ((fs : ℕ) (a : Autofs) → autofs_of k.triggers fs ≡ Some a → (n : ℕ) (row : MountRow) (place : List (List ℕ)) → mount_row k.table.rows n ≡ Some row → IsAt a.location place row → is_among gone n ≡ false) →
    Still k (without_mounts gone k)
left_still k gone h stay =
    let shrinks = removed_shrinks k.table h.whole gone in
    table_still k (without_mounts gone k) refl h.whole.rising (RiseFrom-filter _ 0 k.table.rows h.whole.rising)
    (λ fs a is m row place e at. shrinks.stays m row (stay fs a is m row place e at) e)
    (λ fs a is m row place e at. (shrinks.was m row e).1)

-- a mount that is mounted somewhere has a row
pub mounted_row : (t : MountTable) (m : ℕ) (at : Position) → mountpoint_of t m ≡ Some at → (row : MountRow) × (mount_row t.rows m ≡ Some row) × IsAt at.mount at.place row
mounted_row t m at e = by (mount_row t.rows m) refl e
  where
    by : (o : Option MountRow) → mount_row t.rows m ≡ o → mountpoint_in o ≡ Some at → (row : MountRow) × (mount_row t.rows m ≡ Some row) × IsAt at.mount at.place row
    by None f e = absurd cc
    by (Some row) f e = (row, f, e)

-- the administrator's unmount
pub plain_still : (k : KernelState) → PlacesAgree k → (m : ℕ) (at : Position) → mountpoint_of k.table m ≡ Some at → is_on_autofs k at.mount ≡ false → Still k (without_mounts (unmounted k.table m) k)
plain_still k h m at mounted off = left_still k (unmounted k.table m) h (λ fs a is n row place e on.
    false_unless_true (is_among (unmounted k.table m) n) (λ goes.
    let its = mounted_row k.table m at mounted in
    let parent = parent_row k.table h.whole m at.mount its.0 at.place its.1 its.2 in
    ⊎_elim
    (λ same.
    let one : its.0 ≡ row = some_injective (sym its.1 ∙ ap (mount_row k.table.rows) (sym same ∙ its_number k.table.rows n row e) ∙ e) in
    let here : IsAt at.mount at.place row = subst (λ (r : MountRow). IsAt at.mount at.place r) one its.2 in
    off_location k h at.mount a.location fs parent.0 a parent.1 off is refl (inl (mounts_same a.location at.mount place at.place (sym on ∙ here))))
    (λ top.
    off_location k h at.mount a.location fs parent.0 a parent.1 off is refl
    (inr (subst (λ (x : ℕ). Receives k.table.groups at.mount x) (mounts_same top.on.mount a.location top.on.place place (sym top.is_on ∙ on)) top.receives)))
    (goes_cases k.table h.whole m at mounted n row e goes)))

-- a namespace that isn't the first is dropped
pub dropped_still : (k : KernelState) → PlacesAgree k → (ns : ℕ) → ns ≢ 0 → Still k (without_mounts (mounts_in k.table ns) k)
dropped_still k h ns other = left_still k (mounts_in k.table ns) h (λ fs a is n row place e on.
    false_unless_true (is_among (mounts_in k.table ns) n) (λ goes.
    let its = h.locations fs a is in
    let parent = parent_row k.table h.whole n a.location row place e on in
    let same : parent.0 ≡ its.row = some_injective (sym parent.1 ∙ its.is_row) in
    let inside : row.ns ≡ ns = eqb-true row.ns ns (among_passes (is_in ns) k.table.rows h.whole.rising n row e goes) in
    other (sym inside ∙ sym parent.2 ∙ ap (λ (r : MountRow). r.ns) same ∙ its.ns)))
