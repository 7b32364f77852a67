-- An autofs that is attached keeps the agreement on places.
use Rattle.std.proofs.Common.{◌≡◌, ◌≢◌, ◌≤◌, ◌<◌, ◌⊎◌, ◌+◌, ℕ, Bool, true, false, cond, List, [], ◌∷◌, Option, Some, None, refl, sym, ◌∙◌, ap, subst, inl, inr, ⊎_elim, arith}
use Rattle.std.specs.Prelude.{◌==◌, is_some}
use Rattle.std.specs.Option.{option_or}
use Rattle.std.proofs.lemmas.List.Folds.{find-append}
use Rattle.std.proofs.lemmas.Bool.{eqb-true, ne_eqb}
use Rattle.am_names.specs.{MountRow, Position}
use Rattle.am_names.proofs.Basics.{some_injective}
use Rattle.am_names.specs.declared.membership.Membership.TheVariants.{Private}
use Rattle.am_mount.specs.{mount_row, HasRow, IsIn}
use Rattle.am_propagate.specs.MountTable.{MountTable}
use Rattle.am_propagate.specs.{ns_in, row_at, mounted}
use Rattle.am_trigger.specs.{Autofs, TriggerRows, autofs_of, with_autofs}
use Rattle.am_kernel.specs.{Attached, KernelState, is_on_autofs, with_mount, attached_at}
use Rattle.am_machine.specs.{IsLocation, PlacesAgree}
use Rattle.am_machine.proofs.Places.Rows.{receiver_row, parent_row}
use Rattle.am_machine.proofs.Places.Added.{mounted_grows, first_row}
use Rattle.am_machine.proofs.Places.Grown.{position, mounts_same, off_autofs, came_at, mounted_places}

-- ---- one autofs more

module _ (t : TriggerRows) (fs location : ℕ) (direct : Bool) where
  abbrev new : Autofs
  new = record { fs = fs; direct = direct; location = location; catatonic = false }

  autofs_or : (g : ℕ) → autofs_of (with_autofs fs direct location t) g ≡ option_or (autofs_of t g) (cond (fs == g) (Some (record { fs = fs; direct = direct; location = location; catatonic = false })) None)
  autofs_or g = find-append (λ (row : Autofs). row.fs == g) t.autofs (new ∷ [])

  -- it is one of the others, or this one
  autofs_cases : (g : ℕ) (a : Autofs) → autofs_of (with_autofs fs direct location t) g ≡ Some a → (autofs_of t g ≡ Some a) ⊎ ((g ≡ fs) × (location ≡ a.location))
  autofs_cases g a e = go (autofs_of t g) refl (fs == g) refl (sym (autofs_or g) ∙ e)
    where
      go : (o : Option Autofs) → autofs_of t g ≡ o → (b : Bool) → (fs == g) ≡ b → option_or o (cond b (Some new) None) ≡ Some a → (autofs_of t g ≡ Some a) ⊎ ((g ≡ fs) × (location ≡ a.location))
      go (Some other) f b same e = inl (f ∙ e)
      go None f true same e = inr (sym (eqb-true fs g same), let location : location ≡ a.location = cc in location)
      go None f false same e = absurd cc

  autofs_none : (g : ℕ) → g ≢ fs → autofs_of t g ≡ None → autofs_of (with_autofs fs direct location t) g ≡ None
  autofs_none g other none = autofs_or g ∙ rw (none, ne_eqb fs g (λ same. other (sym same))) refl

-- nothing is mounted on a mount of this file system
abbrev pub IsBareFs : MountTable → ℕ → Type 0
IsBareFs t fs = (p m : ℕ) (parent row : MountRow) (place : List (List ℕ)) → mount_row t.rows p ≡ Some parent → parent.fs ≡ fs → mount_row t.rows m ≡ Some row → row.mountpoint ≡ Some (position p place) → ⊥

module _ (k : KernelState) (h : PlacesAgree k) (fs location : ℕ) (direct : Bool) (rows : List Attached) (attach : ℕ) (given : fs ≤ k.last_fs) (located : IsLocation k fs location) (bare : IsBareFs k.table fs) where
  still_location : (g x : ℕ) → IsLocation k g x → IsLocation (record k { triggers = with_autofs fs direct location k.triggers; attached = rows; last_attach = attach }) g x
  still_location g x its = record {
    row = its.row;
    is_row = its.is_row;
    fs = its.fs;
    ns = its.ns;
    outside = λ p parent on e. autofs_none k.triggers fs location direct parent.fs (λ same. bare p x parent its.row on.0 e same its.is_row on.1) (its.outside p parent on e);
  }

  pub with_autofs_places : PlacesAgree (record k { triggers = with_autofs fs direct location k.triggers; attached = rows; last_attach = attach })
  with_autofs_places = record {
    whole = h.whole;
    given_fs = h.given_fs;
    given_autofs = λ g a is. ⊎_elim (λ old. h.given_autofs g a old) (λ new. subst (λ (n : ℕ). n ≤ k.last_fs) (sym new.0) given) (autofs_cases k.triggers fs location direct g a is);
    locations = λ g a is. still_location g a.location (⊎_elim
        (λ old. h.locations g a old)
        (λ new. subst (λ (x : ℕ). IsLocation k g x) new.1 (subst (λ (n : ℕ). IsLocation k n location) (sym new.0) located))
        (autofs_cases k.triggers fs location direct g a is));
    one = λ g a is m n p q place ep eq at_p at_q. ⊎_elim
        (λ old. h.one g a old m n p q place ep eq at_p at_q)
        (λ new. absurd (bare a.location m located.row p place (ap (mount_row k.table.rows) (sym new.1) ∙ located.is_row) located.fs ep at_p))
        (autofs_cases k.triggers fs location direct g a is);
    copied = λ g a is m y row place e at r less. ⊎_elim
        (λ old. h.copied g a old m y row place e at r less)
        (λ new. absurd (bare a.location m located.row row place (ap (mount_row k.table.rows) (sym new.1) ∙ located.is_row) located.fs e at))
        (autofs_cases k.triggers fs location direct g a is);
  }

-- ---- a new file system is mounted, and it is an autofs

module _ (k : KernelState) (h : PlacesAgree k) (at : Position) (there : HasRow (IsIn 0) k.table.rows at.mount) (off : is_on_autofs k at.mount ≡ false) where
  -- what was there is of an older file system
  fresh_above : (p : ℕ) (parent : MountRow) → mount_row (mounted at (k.last_fs + 1) Private k.table).rows p ≡ Some parent → parent.fs ≡ k.last_fs + 1 → k.table.last_mount < p
  fresh_above p parent e same = ⊎_elim
      (λ old. let le : parent.fs ≤ k.last_fs = h.given_fs p parent old in absurd (omega arith))
      (λ above. above)
      ((mounted_grows k.table h.whole at (k.last_fs + 1) Private).came p parent e)

  -- all is mounted on what was there
  parent_below : (m p : ℕ) (row : MountRow) (place : List (List ℕ)) → mount_row (mounted at (k.last_fs + 1) Private k.table).rows m ≡ Some row → row.mountpoint ≡ Some (position p place) → p ≤ k.table.last_mount
  parent_below m p row place e is = ⊎_elim
      (λ old. let parent = parent_row k.table h.whole m p row place old is in (h.whole.numbered p parent.0 parent.1).0)
      (λ above. ⊎_elim
      (λ same. subst (λ (n : ℕ). n ≤ k.table.last_mount) (sym same) (h.whole.numbered at.mount there.0 there.1).0)
      (λ r. let row = receiver_row k.table h.whole at.mount p r in (h.whole.numbered p row.0 row.1).0)
      (came_at k h at (k.last_fs + 1) Private m row p place above e is))
      ((mounted_grows k.table h.whole at (k.last_fs + 1) Private).came m row e)

  fresh_bare : IsBareFs (mounted at (k.last_fs + 1) Private k.table) (k.last_fs + 1)
  fresh_bare p m parent row place ep same em is =
      let above : k.table.last_mount < p = fresh_above p parent ep same in
      let below : p ≤ k.table.last_mount = parent_below m p row place em is in
      omega arith

  fresh_location : IsLocation (with_mount at k) (k.last_fs + 1) (k.table.last_mount + 1)
  fresh_location = record {
    row = row_at k.table at.place (k.last_fs + 1) (k.table.last_mount + 1) (k.table.last_mount + 1) at.mount;
    is_row = first_row k.table h.whole at (k.last_fs + 1) Private;
    fs = refl;
    ns = ap ns_in there.1 ∙ there.2;
    outside = λ p parent on e.
        let is_at : at.mount ≡ p = mounts_same at.mount p at.place on.0 on.1 in
        let stays = (mounted_grows k.table h.whole at (k.last_fs + 1) Private).stays at.mount there.0 there.1 in
        let same : there.0 ≡ parent = some_injective (sym stays ∙ ap (mount_row (mounted at (k.last_fs + 1) Private k.table).rows) is_at ∙ e) in
        ap (λ (r : MountRow). autofs_of k.triggers r.fs) (sym same) ∙ off_autofs k at.mount there.0 there.1 off;
  }

  pub attached_places : (direct : Bool) (timeout : ℕ) → PlacesAgree (attached_at direct timeout k at)
  attached_places direct timeout =
      let mid = mounted_places k at (k.last_fs + 1) (k.last_fs + 1) Private h (ap is_some there.1) off (inl refl) (omega arith) (omega arith) in
      let o = attached_at direct timeout k at in
      with_autofs_places (with_mount at k) mid (k.last_fs + 1) (k.table.last_mount + 1) direct o.attached o.last_attach (omega arith) fresh_location fresh_bare
