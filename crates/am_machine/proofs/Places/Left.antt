-- Mounts that go keep the agreement on places.
use Rattle.std.proofs.Common.{◌≡◌, ◌⊎◌, ℕ, Bool, true, false, cond, eqb, List, Option, Some, None, refl, sym, ◌∙◌, subst, inl, inr, ⊎_elim}
use Rattle.std.specs.Prelude.{not, ◌==◌}
use Rattle.std.specs.List.{list_any}
use Rattle.std.proofs.lemmas.Bool.{eqb-true, eq-eqb, or_cases, and_parts}
use Rattle.std.proofs.lemmas.Map.Views.{Contains-from_any, list_any-from_Contains}
use Rattle.std.proofs.lemmas.Cmp.{nat_eq_equiv}
use Rattle.am_names.specs.{MountRow, Position, is_among}
use Rattle.am_names.proofs.Basics.{some_injective, or_left}
use Rattle.am_group.specs.{is_just, Receives, receivers_of}
use Rattle.am_group.proofs.LookupLemmas.{find_filter, found_passes}
use Rattle.am_group.proofs.ScanLemmas.{just_same, has_any}
use Rattle.am_mount.specs.{IsRising, mount_row, mounts_where, top_of}
use Rattle.am_mount.proofs.RowLemmas.{where_every}
use Rattle.am_propagate.specs.MountTable.{MountTable}
use Rattle.am_propagate.specs.{mountpoint_of, IsWhole, is_bare, is_top_at, is_top_on, goes_with, unmounted, removed, LeavesParents}
use Rattle.am_propagate.proofs.RemovalLemmas.{among_has, removed_whole, removed_law}
use Rattle.am_propagate.proofs.AdditionLemmas.{receiver_exact}
use Rattle.am_trigger.specs.{Autofs, autofs_of}
use Rattle.am_kernel.specs.{KernelState, without_mounts}
use Rattle.am_machine.specs.{IsLocation, PlacesAgree}
use Rattle.am_machine.proofs.Places.Rows.{Shrinks, LeavesCopies, left_one, left_copied}

-- ---- what is among the mounts that pass a test

pub among_passes : (test : MountRow → Bool) (rows : List MountRow) → IsRising rows → (m : ℕ) (row : MountRow) → mount_row rows m ≡ Some row → is_among (mounts_where test rows) m ≡ true → test row ≡ true
among_passes test rows rising m row e h =
    let found = (where_every test (λ r. test r ≡ true) (λ r. (λ x. x, λ x. x)) rows rising m).0 (Contains-from_any {eq = eqb} eqb-true m (mounts_where test rows) (among_has m (mounts_where test rows) ∙ h)) in
    subst (λ (r : MountRow). test r ≡ true) (some_injective (sym found.1 ∙ e)) found.2

pub passes_among : (test : MountRow → Bool) (rows : List MountRow) → IsRising rows → (m : ℕ) (row : MountRow) → mount_row rows m ≡ Some row → test row ≡ true → is_among (mounts_where test rows) m ≡ true
passes_among test rows rising m row e h =
    sym (among_has m (mounts_where test rows)) ∙
    list_any-from_Contains {eq = eqb} nat_eq_equiv m (mounts_where test rows) ((where_every test (λ r. test r ≡ true) (λ r. (λ x. x, λ x. x)) rows rising m).1 (row, e, h))

-- a mount that is among them makes a test of any of them pass
pub any_among : (test : ℕ → Bool) (mounts : List ℕ) (m : ℕ) → is_among mounts m ≡ true → test m ≡ true → list_any test mounts ≡ true
any_among test mounts m h passes = has_any test mounts m (among_has m mounts ∙ h) passes

-- ---- the agreement, when mounts go

pub removed_shrinks : (t : MountTable) → IsWhole t → (gone : List ℕ) → Shrinks t (removed gone t) (is_among gone)
removed_shrinks t whole gone = record {
  was = λ m row e. split (is_among gone m) (mount_row t.rows m) row (sym (left_row m) ∙ e);
  stays = λ m row stays e. left_row m ∙ rw stays e;
  law = removed_law t whole gone;
}
  where
    left_row : (m : ℕ) → mount_row (removed gone t).rows m ≡ cond (not (is_among gone m)) (mount_row t.rows m) None
    left_row m = find_filter (λ (r : MountRow). r.mount) m (λ n. not (is_among gone n)) t.rows

    split : (b : Bool) (o : Option MountRow) (row : MountRow) → cond (not b) o None ≡ Some row → (b ≡ false) × (o ≡ Some row)
    split true o row e = absurd cc
    split false o row e = (refl, e)

left_location : (k : KernelState) (gone : List ℕ) → IsWhole k.table → (fs x : ℕ) → is_among gone x ≡ false → IsLocation k fs x → IsLocation (without_mounts gone k) fs x
left_location k gone whole fs x stays h =
    let shrinks = removed_shrinks k.table whole gone in
    record {
      row = h.row;
      is_row = shrinks.stays x h.row stays h.is_row;
      fs = h.fs;
      ns = h.ns;
      outside = λ p parent on e. h.outside p parent on (shrinks.was p parent e).1;
    }

-- what is mounted on a mount that goes goes too; no location goes, and none of the copies
pub left_places : (k : KernelState) (gone : List ℕ) → PlacesAgree k → LeavesParents gone k.table →
    ((fs : ℕ) (a : Autofs) → autofs_of k.triggers fs ≡ Some a → is_among gone a.location ≡ false) →
    ((fs : ℕ) (a : Autofs) → autofs_of k.triggers fs ≡ Some a → LeavesCopies k.table (is_among gone) a.location) →
    PlacesAgree (without_mounts gone k)
left_places k gone h parents stays leaves =
    let shrinks = removed_shrinks k.table h.whole gone in
    let whole = removed_whole k.table h.whole gone parents in
    record {
      whole = whole;
      given_fs = λ m row e. h.given_fs m row (shrinks.was m row e).1;
      given_autofs = h.given_autofs;
      locations = λ fs a is. left_location k gone h.whole fs a.location (stays fs a is) (h.locations fs a is);
      one = λ fs a is. left_one k.table h.whole (removed gone k.table) (is_among gone) shrinks a.location (h.one fs a is);
      copied = λ fs a is. left_copied k.table h.whole (removed gone k.table) (is_among gone) shrinks a.location whole (leaves fs a is) (h.copied fs a is);
    }

-- ---- what an unmount removes

-- it is the mount itself, or the top at its place of a mount that receives from its parent
pub record IsTopThere (t : MountTable) (at : Position) (n : ℕ) (row : MountRow) : Type 0 where
  pub on : Position
  pub is_on : row.mountpoint ≡ Some on
  pub receives : Receives t.groups at.mount on.mount
  pub top : top_of t.rows on.mount at.place ≡ Some n

pub goes_cases : (t : MountTable) → IsWhole t → (m : ℕ) (at : Position) → mountpoint_of t m ≡ Some at → (n : ℕ) (row : MountRow) → mount_row t.rows n ≡ Some row → is_among (unmounted t m) n ≡ true → (row.mount ≡ m) ⊎ IsTopThere t at row.mount row
goes_cases t whole m at is_at n row e goes = ⊎_elim
    (λ same. inl (eqb-true row.mount m same))
    (λ copy. inr (on_top row.mountpoint refl (and_parts (is_top_on t (receivers_of t.groups at.mount) at.place row) (is_bare t row.mount) copy).0))
    (or_cases (row.mount == m) _ passes)
  where
    passes : goes_with t m (Some at) row ≡ true
    passes = subst (λ (o : Option Position). goes_with t m o row ≡ true) is_at (among_passes (goes_with t m (mountpoint_of t m)) t.rows whole.rising n row e goes)

    on_top : (o : Option Position) → row.mountpoint ≡ o → is_top_at t (receivers_of t.groups at.mount) at.place row.mount o ≡ true → IsTopThere t at row.mount row
    on_top None f h = absurd cc
    on_top (Some on) f h =
        let both = and_parts (is_among (receivers_of t.groups at.mount) on.mount) (is_just row.mount (top_of t.rows on.mount at.place)) h in
        record {
          on = on;
          is_on = f;
          receives = (receiver_exact t.groups whole.sound at.mount on.mount).0 (among_has on.mount (receivers_of t.groups at.mount) ∙ both.0);
          top = just_same row.mount (top_of t.rows on.mount at.place) both.1;
        }

-- and the mount itself
pub itself_goes : (t : MountTable) → IsWhole t → (m : ℕ) (row : MountRow) → mount_row t.rows m ≡ Some row → row.mount ≡ m → is_among (unmounted t m) m ≡ true
itself_goes t whole m row e same = passes_among (goes_with t m (mountpoint_of t m)) t.rows whole.rising m row e (go (mountpoint_of t m))
  where
    go : (o : Option Position) → goes_with t m o row ≡ true
    go None = eq-eqb row.mount m same
    go (Some at) = or_left (row.mount == m) _ (eq-eqb row.mount m same)

-- a row is found by its own number
pub its_number : (rows : List MountRow) (m : ℕ) (row : MountRow) → mount_row rows m ≡ Some row → row.mount ≡ m
its_number rows m row e = eqb-true row.mount m (found_passes (λ (r : MountRow). r.mount == m) rows row e)
