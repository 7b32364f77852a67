-- A change of a mount's state keeps the invariant.
use Rattle.std.proofs.Common.{◌≡◌, ◌+◌, ℕ, List, [], ◌∷◌, Option, Some, None, refl, sym, ap, ◌∙◌}
use Rattle.std.specs.Prelude.{map}
use Rattle.am_names.specs.{MemberRow}
use Rattle.am_names.specs.PeerGroups.{PeerGroups}
use Rattle.am_group.specs.{Change, member_row, group_of, is_kept, slave_row, private_row, unbindable_row, shared_row, at_row, with_row, shared_where, changed, IsSound, numbers}
use Rattle.am_group.specs.declared.mount_state.Change.TheVariants.{MakeShared, MakeSlave, MakePrivate, MakeUnbindable}
use Rattle.am_group.proofs.ChangeLemmas.{KeepsLaw, slave_row_thins, at_row_mount, made_slave_keeps, made_private_keeps, made_unbindable_keeps}
use Rattle.am_group.proofs.SharedLemmas.{shared_mount, made_shared_keeps}
use Rattle.am_propagate.specs.MountTable.{MountTable}
use Rattle.am_propagate.specs.{IsWhole, with_change}
use Rattle.am_propagate.proofs.RemovalLemmas.{numbers-settled, law_same_fs}

pub changed_keeps : (change : Change) (m : ℕ) (s : PeerGroups) → IsSound s → KeepsLaw s (changed change m s)
changed_keeps MakeShared m s sound = made_shared_keeps m s sound
changed_keeps MakeSlave m s sound = made_slave_keeps m s sound
changed_keeps MakePrivate m s sound = made_private_keeps m s sound
changed_keeps MakeUnbindable m s sound = made_unbindable_keeps m s sound

numbers-map : (f : MemberRow → MemberRow) → ((r : MemberRow) → (f r).mount ≡ r.mount) → (rows : List MemberRow) → numbers (map f rows) ≡ numbers rows
numbers-map f same [] = refl
numbers-map f same (r ∷ rows) = rw (same r) (ap (λ (xs : List ℕ). r.mount ∷ xs) (numbers-map f same rows))

row_numbers : (f : MemberRow → MemberRow) → ((r : MemberRow) → (f r).mount ≡ r.mount) → (m : ℕ) (s : PeerGroups) → numbers (map (at_row f m) s.members) ≡ numbers s.members
row_numbers f same m s = numbers-map (at_row f m) (at_row_mount f m same) s.members

shared_numbers : (o : Option MemberRow) (g : Option ℕ) (m : ℕ) (s : PeerGroups) → numbers (shared_where o g m s).members ≡ numbers s.members
shared_numbers None g m s = refl
shared_numbers (Some row) (Some g) m s = refl
shared_numbers (Some row) None m s =
    row_numbers (shared_row (s.last_group + 1)) (shared_mount (s.last_group + 1)) m s

changed_numbers : (change : Change) (m : ℕ) (s : PeerGroups) → numbers (changed change m s).members ≡ numbers s.members
changed_numbers MakeShared m s = shared_numbers (member_row s.members m) (group_of s m) m s
changed_numbers MakeSlave m s = numbers-settled (is_kept s.members (map (at_row slave_row m) s.members)) (with_row slave_row m s) (map (at_row slave_row m) s.members) ∙ row_numbers slave_row slave_row_thins.same_mount m s
changed_numbers MakePrivate m s = numbers-settled (is_kept s.members (map (at_row private_row m) s.members)) (with_row private_row m s) (map (at_row private_row m) s.members) ∙ row_numbers private_row (λ r. refl) m s
changed_numbers MakeUnbindable m s = numbers-settled (is_kept s.members (map (at_row unbindable_row m) s.members)) (with_row unbindable_row m s) (map (at_row unbindable_row m) s.members) ∙ row_numbers unbindable_row (λ r. refl) m s

pub changed_whole : (t : MountTable) → IsWhole t → (change : Change) (m : ℕ) → IsWhole (with_change change m t)
changed_whole t whole change m = record {
  rising = whole.rising;
  sound = (changed_keeps change m t.groups whole.sound).sound;
  same_mounts = whole.same_mounts ∙ sym (changed_numbers change m t.groups);
  numbered = whole.numbered;
  parents = whole.parents;
  older = whole.older;
  one_fs = λ b c p. law_same_fs t whole (changed change m t.groups) b c (changed_keeps change m t.groups whole.sound).law p;
}
