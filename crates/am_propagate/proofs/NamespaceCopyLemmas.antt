-- A copied namespace is a bijection that rises.
use Rattle.std.proofs.Common.{◌≡◌, ◌≤◌, ◌+◌, ℕ, true, false, [], Option, Some, None, refl, sym, ap, subst, ◌∙◌, arith}
use Rattle.std.specs.Prelude.{option_map, is_some, ◌==◌}
use Rattle.std.proofs.lemmas.List.{append-nil}
use Rattle.std.proofs.lemmas.List.Folds.{find-append}
use Rattle.std.proofs.lemmas.Bool.{eqb-true, eq-eqb}
use Rattle.am_names.specs.{MountRow, MemberRow, is_among}
use Rattle.am_group.specs.{member_row, slave_from}
use Rattle.am_group.proofs.ScanLemmas.{has}
use Rattle.am_group.proofs.ReceiverLemmas.{has_from_Contains}
use Rattle.am_group.proofs.LookupLemmas.{found_passes}
use Rattle.am_mount.specs.{mount_row, HasRow, IsIn}
use Rattle.am_mount.proofs.RowLemmas.{in_every}
use Rattle.am_propagate.specs.{CopyForm, is_mount, IsWhole, mounts_in, count_up_to, copy_number, position_in, row_in, member_in, with_copy, IsNewMount, IsReduced, IsJoinedIn, AreCopies}
use Rattle.am_propagate.specs.declared.subtree.namespace.CopyForm.TheVariants.{Full, Reduced}
use Rattle.am_propagate.specs.MountTable.{MountTable}
use Rattle.am_propagate.proofs.NewMountLemmas.{takes_second, none_above, keeps_mounts}
use Rattle.am_propagate.proofs.RemovalLemmas.{some_of, same_there, among_has}
use Rattle.am_propagate.proofs.NamespaceLemmas.{count_some, rises_members, mapped_there, strict, apart, row_from, copy_there, found_mount}

-- a copy takes part in propagation as its form says
joined_in : (form : CopyForm) (number : ℕ → ℕ) (row : MemberRow) →
    IsJoinedIn form row (member_in form number row)
joined_in Full number row = record { same_group = refl; same_master = refl; same_unbindable = refl }
joined_in Reduced number row = go row.group
  where
    go : (o : Option ℕ) → IsReduced o row (record (slave_from o row) { mount = number row.mount })
    go (Some g) = record { in_no_group = refl; has_master = refl; can_be_bound = refl }
    go None = record { same_group = refl; same_master = refl; same_unbindable = refl }

module _ (t : MountTable) (whole : IsWhole t) (ns : ℕ) (form : CopyForm) where
  has_mount : (m : ℕ) → HasRow (IsIn ns) t.rows m → has m (mounts_in t ns) ≡ true
  has_mount m row = has_from_Contains m (mounts_in t ns) ((in_every ns t.rows whole.rising m).1 row)

  no_mount : (m : ℕ) → HasRow (IsIn ns) t.rows m →
      is_mount t (copy_number t.last_mount (mounts_in t ns) m) ≡ false
  no_mount m row =
      let some : 1 ≤ count_up_to m (mounts_in t ns) = count_some m (mounts_in t ns) (has_mount m row) in
      none_above t whole (copy_number t.last_mount (mounts_in t ns) m) (omega arith)

  copied_row : (m : ℕ) (row : MountRow) → mount_row t.rows m ≡ Some row → IsIn ns row →
      mount_row (with_copy form ns t).rows (copy_number t.last_mount (mounts_in t ns) m) ≡
      Some (row_in (copy_number t.last_mount (mounts_in t ns)) (t.last_ns + 1) row)
  copied_row m row e inside =
      copy_there t whole ns form m row e (found_mount t whole ns form m row e) (eq-eqb row.ns ns inside)

  copied_member : (m : ℕ) (row : MemberRow) → HasRow (IsIn ns) t.rows m →
      member_row t.groups.members m ≡ Some row →
      member_row (with_copy form ns t).groups.members (copy_number t.last_mount (mounts_in t ns) m) ≡
      Some (member_in form (copy_number t.last_mount (mounts_in t ns)) row)
  copied_member m row there e =
      find-append (λ (r : MemberRow). r.mount == copy_number t.last_mount (mounts_in t ns) m)
      t.groups.members _ ∙
      takes_second _ _
      (sym (same_there t whole (copy_number t.last_mount (mounts_in t ns) m)) ∙ no_mount m there) ∙
      mapped_there (λ (r : MemberRow). r.mount) (member_in form (copy_number t.last_mount (mounts_in t ns)))
      (λ r. is_among (mounts_in t ns) r.mount) (copy_number t.last_mount (mounts_in t ns)) (λ y. refl)
      0 t.groups.members (rises_members 0 t.groups.members whole.sound.orderly.rising) m row e among
      (λ y k ey other.
      apart t whole ns form y.mount m (among_has y.mount (mounts_in t ns) ∙ k) (has_mount m there) other)
    where
      at : row.mount ≡ m
      at =
          eqb-true row.mount m (found_passes (λ (r : MemberRow). r.mount == m) t.groups.members row e)

      among : is_among (mounts_in t ns) row.mount ≡ true
      among =
          sym (among_has row.mount (mounts_in t ns)) ∙
          subst (λ (n : ℕ). has n (mounts_in t ns) ≡ true) (sym at) (has_mount m there)

  -- a mount that comes is the copy of one
  comes_from : (c : ℕ) → IsNewMount t (with_copy form ns t) c →
      (m : ℕ) × HasRow (IsIn ns) t.rows m × (copy_number t.last_mount (mounts_in t ns) m ≡ c)
  comes_from c new =
      let row = some_of (mount_row (with_copy form ns t).rows c) new.1 in
      let there =
      sym (find-append (λ (r : MountRow). r.mount == c) t.rows _ ∙
      takes_second (mount_row t.rows c) _ new.0) ∙
      row.1 in
      let x = row_from t whole ns form c row.0 there in
      let at : row.0.mount ≡ c =
      eqb-true row.0.mount c
      (found_passes (λ (r : MountRow). r.mount == c) (with_copy form ns t).rows row.0 row.1)
      in
      (x.0.mount, (x.0, x.2, eqb-true x.0.ns ns x.3), sym (ap (λ (y : MountRow). y.mount) x.4) ∙ at)

  pub copies_rise : AreCopies form ns (t.last_ns + 1) t (with_copy form ns t)
  copies_rise = record {
    copy_of = copy_number t.last_mount (mounts_in t ns);
    each_is_new = λ m there. (no_mount m there, ap is_some (copied_row m there.0 there.1 there.2));
    mounted = λ m row e inside. (
      row_in (copy_number t.last_mount (mounts_in t ns)) (t.last_ns + 1) row,
      copied_row m row e inside,
      record {
        in_new_ns = refl;
        same_fs = refl;
        same_origin = refl;
        on_copy =
            λ p place at. ap (option_map (position_in (copy_number t.last_mount (mounts_in t ns)))) at;
        root =
            λ nowhere. ap (option_map (position_in (copy_number t.last_mount (mounts_in t ns)))) nowhere;
      },
    );
    joined = λ m row there e. (
      member_in form (copy_number t.last_mount (mounts_in t ns)) row,
      copied_member m row there e,
      joined_in form (copy_number t.last_mount (mounts_in t ns)) row,
    );
    no_other = comes_from;
    rising = λ a b in_a in_b less. strict t whole ns form a b less (has_mount b in_b);
    new_ns = λ m there.
        let le : there.0.ns ≤ t.last_ns = (whole.numbered m there.0 there.1).1 in
        let is : there.0.ns ≡ t.last_ns + 1 = there.2 in
        omega arith;
    stay = keeps_mounts t (with_copy form ns t) _ _ [] refl refl refl;
    same_groups = append-nil t.groups.groups;
  }
