-- An unmount, by the administrator or by a daemon, and a dropped namespace keep the agreement on
-- places.
use Rattle.std.proofs.Common.{◌≡◌, ◌≢◌, ◌⊎◌, ℕ, true, false, List, Option, Some, None, refl, sym, ◌∙◌, ap, subst, inl, inr, ⊎_elim}
use Rattle.std.specs.Prelude.{IfSome}
use Rattle.std.proofs.lemmas.Bool.{eqb-true, eq-eqb}
use Rattle.am_names.specs.{MountRow, Position, is_among}
use Rattle.am_names.proofs.Basics.{some_injective, false_unless_true}
use Rattle.am_group.specs.{Receives}
use Rattle.am_mount.specs.{mount_row, is_in, top_of, IsAt, IsTop}
use Rattle.am_mount.proofs.RowLemmas.{top_is, some_greatest}
use Rattle.am_propagate.specs.MountTable.{MountTable}
use Rattle.am_propagate.specs.{mountpoint_in, mountpoint_of, IsWhole, is_bare, unmounted, mounts_in}
use Rattle.am_propagate.proofs.RemovalLemmas.{unmounted_leaves, dropped_leaves}
use Rattle.am_trigger.specs.{Autofs, autofs_of}
use Rattle.am_kernel.specs.{KernelState, is_on_autofs, is_any_on_autofs, without_mounts}
use Rattle.am_machine.specs.{IsLocation, PlacesAgree}
use Rattle.am_machine.proofs.Places.Rows.{receiver_row, receiver_fs, parent_row}
use Rattle.am_machine.proofs.Places.Grown.{position, mounts_same, places_same, on_autofs}
use Rattle.am_machine.proofs.Places.Left.{among_passes, passes_among, any_among, left_places, goes_cases, itself_goes, its_number}

-- a mount that is mounted somewhere has a row, and so has its parent
record IsMounted (t : MountTable) (m : ℕ) (at : Position) : Type 0 where
  row : MountRow
  is_row : mount_row t.rows m ≡ Some row
  is_at : IsAt at.mount at.place row

is_mounted : (t : MountTable) (m : ℕ) (at : Position) → mountpoint_of t m ≡ Some at → IsMounted t m at
is_mounted t m at e = go (mount_row t.rows m) refl e
  where
    go : (o : Option MountRow) → mount_row t.rows m ≡ o → mountpoint_in o ≡ Some at → IsMounted t m at
    go None f e = absurd cc
    go (Some row) f e = record { row = row; is_row = f; is_at = e }

-- a mount and what receives from it are of one file system
reach_fs : (t : MountTable) → IsWhole t → (m x : ℕ) (row other : MountRow) → mount_row t.rows m ≡ Some row → mount_row t.rows x ≡ Some other → (x ≡ m) ⊎ Receives t.groups m x → row.fs ≡ other.fs
reach_fs t whole m x row other e f (inl same) = ap (λ (r : MountRow). r.fs) (some_injective (sym e ∙ ap (mount_row t.rows) (sym same) ∙ f))
reach_fs t whole m x row other e f (inr r) = receiver_fs t whole m x r row other e f

module _ (k : KernelState) (h : PlacesAgree k) (m : ℕ) (at : Position) (mounted : mountpoint_of k.table m ≡ Some at) where
  -- what goes with the mount is at the same place of its parent, or of one that receives from that
  record GoesFrom (row : MountRow) : Type 0 where
    parent : ℕ
    is_at : IsAt parent at.place row
    reached : (parent ≡ at.mount) ⊎ Receives k.table.groups at.mount parent

  goes_from : (n : ℕ) (row : MountRow) → mount_row k.table.rows n ≡ Some row → is_among (unmounted k.table m) n ≡ true → GoesFrom row
  goes_from n row e goes = ⊎_elim
      (λ same.
      let its = is_mounted k.table m at mounted in
      let one : its.row ≡ row = some_injective (sym its.is_row ∙ ap (mount_row k.table.rows) (sym same ∙ its_number k.table.rows n row e) ∙ e) in
      record { parent = at.mount; is_at = subst (λ (r : MountRow). IsAt at.mount at.place r) one its.is_at; reached = inl refl })
      (λ there.
      let top : IsTop k.table.rows there.on.mount at.place row.mount = subst (λ (o : Option ℕ). IfSome o (IsTop k.table.rows there.on.mount at.place)) there.top (some_greatest k.table.rows there.on.mount at.place (top_of k.table.rows there.on.mount at.place) (top_is k.table.rows h.whole.rising there.on.mount at.place)) in
      let one : top.is_there.0 ≡ row = some_injective (sym top.is_there.1 ∙ ap (mount_row k.table.rows) (its_number k.table.rows n row e) ∙ e) in
      record { parent = there.on.mount; is_at = subst (λ (r : MountRow). IsAt there.on.mount at.place r) one top.is_there.2; reached = inr there.receives })
      (goes_cases k.table h.whole m at mounted n row e goes)

  -- the row of the mount on which it is mounted
  parent_there : (row : MountRow) × (mount_row k.table.rows at.mount ≡ Some row)
  parent_there =
      let its = is_mounted k.table m at mounted in
      let parent = parent_row k.table h.whole m at.mount its.row at.place its.is_row its.is_at in
      (parent.0, parent.1)

  -- ---- the administrator's: no autofs is concerned

  pub plain_places : is_bare k.table m ≡ true → is_on_autofs k at.mount ≡ false → is_any_on_autofs k (unmounted k.table m) ≡ false → PlacesAgree (without_mounts (unmounted k.table m) k)
  plain_places bare off none = left_places k (unmounted k.table m) h (unmounted_leaves k.table m bare)
      (λ g a is. false_unless_true (is_among (unmounted k.table m) a.location) (λ goes.
      let its = h.locations g a is in
      let on : is_on_autofs k a.location ≡ true = on_autofs k a.location its.row a its.is_row (ap (autofs_of k.triggers) its.fs ∙ is) in
      let any : is_any_on_autofs k (unmounted k.table m) ≡ true = any_among (is_on_autofs k) (unmounted k.table m) a.location goes on in
      let no : true ≡ false = sym any ∙ none in
      cc))
      (λ g a is. record {
        leaves = λ m' y n p q place stays_m stays_y ep at_p r eq at_q. false_unless_true (is_among (unmounted k.table m) n) (λ goes.
            let from = goes_from n q eq goes in
            let its = h.locations g a is in
            let other = receiver_row k.table h.whole a.location y r in
            let same : from.parent ≡ y = mounts_same from.parent y at.place place (sym from.is_at ∙ at_q) in
            let fs : parent_there.0.fs ≡ g = reach_fs k.table h.whole at.mount from.parent parent_there.0 other.0 parent_there.1 (ap (mount_row k.table.rows) same ∙ other.1) from.reached ∙ sym (receiver_fs k.table h.whole a.location y r its.row other.0 its.is_row other.1) ∙ its.fs in
            let on : is_on_autofs k at.mount ≡ true = on_autofs k at.mount parent_there.0 a parent_there.1 (ap (autofs_of k.triggers) fs ∙ is) in
            let no : true ≡ false = sym on ∙ off in
            cc);
      })

  -- ---- a daemon's: the parent is the location of an autofs

  pub daemons_places : is_bare k.table m ≡ true → (f : ℕ) (b : Autofs) → autofs_of k.triggers f ≡ Some b → at.mount ≡ b.location → PlacesAgree (without_mounts (unmounted k.table m) k)
  daemons_places bare f b is_b here = left_places k (unmounted k.table m) h (unmounted_leaves k.table m bare)
      (λ g a is. false_unless_true (is_among (unmounted k.table m) a.location) (λ goes.
      let its = h.locations g a is in
      let from = goes_from a.location its.row its.is_row goes in
      let parent = parent_row k.table h.whole a.location from.parent its.row at.place its.is_row from.is_at in
      let fs : parent.0.fs ≡ f = sym (reach_fs k.table h.whole at.mount from.parent mine.row parent.0 there parent.1 from.reached) ∙ mine.fs in
      let outside : autofs_of k.triggers parent.0.fs ≡ None = its.outside from.parent parent.0 (at.place, from.is_at) parent.1 in
      let no : Some b ≡ None = sym is_b ∙ ap (autofs_of k.triggers) (sym fs) ∙ outside in
      cc))
      (λ g a is. record {
        leaves = λ m' y n p q place stays_m stays_y ep at_p r eq at_q. false_unless_true (is_among (unmounted k.table m) n) (λ goes.
            let from = goes_from n q eq goes in
            let its = h.locations g a is in
            let other = receiver_row k.table h.whole a.location y r in
            let parent : from.parent ≡ y = mounts_same from.parent y at.place place (sym from.is_at ∙ at_q) in
            let same_place : at.place ≡ place = places_same from.parent y at.place place (sym from.is_at ∙ at_q) in
            let fs : f ≡ g = sym mine.fs ∙ reach_fs k.table h.whole at.mount from.parent mine.row other.0 there (ap (mount_row k.table.rows) parent ∙ other.1) from.reached ∙ sym (receiver_fs k.table h.whole a.location y r its.row other.0 its.is_row other.1) ∙ its.fs in
            let same : b ≡ a = some_injective (sym is_b ∙ ap (autofs_of k.triggers) fs ∙ is) in
            let location : at.mount ≡ a.location = here ∙ ap (λ (x : Autofs). x.location) same in
            let me = is_mounted k.table m at mounted in
            let both : Some (position at.mount at.place) ≡ Some (position a.location place) = ap (λ (x : ℕ). Some (position x at.place)) location ∙ ap (λ (names : List (List ℕ)). Some (position a.location names)) same_place in
            let one : m ≡ m' = h.one g a is m m' me.row p place me.is_row ep (me.is_at ∙ both) at_p in
            let itself : is_among (unmounted k.table m) m ≡ true = itself_goes k.table h.whole m me.row me.is_row (its_number k.table.rows m me.row me.is_row) in
            let no : true ≡ false = sym itself ∙ ap (is_among (unmounted k.table m)) one ∙ stays_m in
            cc);
      })
    where
      mine : IsLocation k f b.location
      mine = h.locations f b is_b

      there : mount_row k.table.rows at.mount ≡ Some (h.locations f b is_b).row
      there = ap (mount_row k.table.rows) here ∙ mine.is_row

-- ---- a namespace that isn't the first is dropped

pub dropped_places : (k : KernelState) → PlacesAgree k → (ns : ℕ) → ns ≢ 0 → PlacesAgree (without_mounts (mounts_in k.table ns) k)
dropped_places k h ns other = left_places k (mounts_in k.table ns) h (dropped_leaves k.table ns h.whole)
    (λ g a is. false_unless_true (is_among (mounts_in k.table ns) a.location) (λ goes.
    let its = h.locations g a is in
    other (sym (eqb-true its.row.ns ns (among_passes (is_in ns) k.table.rows h.whole.rising a.location its.row its.is_row goes)) ∙ its.ns)))
    (λ g a is. record {
      leaves = λ m y n p q place stays_m stays_y ep at_p r eq at_q. false_unless_true (is_among (mounts_in k.table ns) n) (λ goes.
          let parent = parent_row k.table h.whole n y q place eq at_q in
          let inside : q.ns ≡ ns = eqb-true q.ns ns (among_passes (is_in ns) k.table.rows h.whole.rising n q eq goes) in
          let too : is_among (mounts_in k.table ns) y ≡ true = passes_among (is_in ns) k.table.rows h.whole.rising y parent.0 parent.1 (eq-eqb parent.0.ns ns (parent.2 ∙ inside)) in
          let no : true ≡ false = sym too ∙ stays_y in
          cc);
    })
