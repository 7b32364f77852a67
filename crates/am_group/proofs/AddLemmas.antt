-- Rows that are added at the end.
use Rattle.std.proofs.Common.{◌≡◌, ℕ, List}
use Rattle.std.specs.Prelude.{◌==◌}
use Rattle.std.specs.Option.{option_or}
use Rattle.std.proofs.lemmas.List.Folds.{find-append}
use Rattle.am_names.specs.{MemberRow, GroupRow}
use Rattle.am_names.specs.PeerGroups.{PeerGroups}
use Rattle.am_group.specs.{member_row, group_row, added, IsGroup, HasMembers, IsSound, AddsNoReceivers}
use Rattle.am_group.proofs.ChangeLemmas.{KeepsLaw}
use Rattle.am_group.proofs.GrowLemmas.{grown_law, grown_keeps}
use Rattle.am_group.proofs.GrowLemmas as grow

module _ (s : PeerGroups) (ms : List MemberRow) (gs : List GroupRow) (last : ℕ) where
  members_or : (m : ℕ) → member_row (added ms gs last s).members m ≡ option_or (member_row s.members m) (member_row ms m)
  members_or m = find-append (λ (r : MemberRow). r.mount == m) s.members ms

  pub groups_or : (h : ℕ) → group_row (added ms gs last s).groups h ≡ option_or (group_row s.groups h) (group_row gs h)
  groups_or h = find-append (λ (r : GroupRow). r.group == h) s.groups gs

  -- what is added names groups that are there, with lower masters that have members
  abbrev pub NamesWell : Type 0
  NamesWell = grow.NamesWell s (added ms gs last s) (member_row ms) (group_row gs)

  pub old_is_group : (h : ℕ) → IsGroup s h → IsGroup (added ms gs last s) h
  old_is_group = grow.old_is_group s (added ms gs last s) (member_row ms) (group_row gs) members_or groups_or

  pub old_member : (g : ℕ) → HasMembers s g → HasMembers (added ms gs last s) g
  old_member = grow.old_member s (added ms gs last s) (member_row ms) (group_row gs) members_or groups_or

  -- whatever is added, the law holds
  pub added_law : IsSound s → AddsNoReceivers s (added ms gs last s)
  added_law = grown_law s (added ms gs last s) (member_row ms) (group_row gs) members_or groups_or

  pub added_keeps : IsSound s → NamesWell → KeepsLaw s (added ms gs last s)
  added_keeps = grown_keeps s (added ms gs last s) (member_row ms) (group_row gs) members_or groups_or
