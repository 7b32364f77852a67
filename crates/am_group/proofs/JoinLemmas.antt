-- A fresh group, and copies that stay in their sources' groups or become slaves of them (a namespace copy).
use Rattle.std.proofs.Common.{◌≡◌, ◌≤◌, ◌<◌, ◌+◌, ◌⊎◌, ℕ, Bool, true, false, cond, List, [], ◌∷◌, Option, Some, None, refl, sym, ap, subst, inl, inr, ⊎_elim, ◌∙◌, arith}
use Rattle.std.specs.Prelude.{is_some, ◌==◌}
use Rattle.std.proofs.lemmas.List.{append-nil}
use Rattle.std.proofs.lemmas.Bool.{eqb-true}
use Rattle.std.specs.Option.{option_or}
use Rattle.am_names.proofs.Basics.{some_injective}
use Rattle.am_names.specs.{MemberRow, GroupRow}
use Rattle.am_names.specs.PeerGroups.{PeerGroups}
use Rattle.am_group.specs.{member_row, group_row, slave_in, master_in, group_of, master_where, PropagatesTo, PropagatesBy, has_members, with_group, may_be_master, has_peopled_master, added, RiseFrom, IsGroup, IsMaster, HasMembers, IsOrderly, IsPeopled, IsSound, AddsNoReceivers}
use Rattle.am_group.proofs.ChangeLemmas.{KeepsLaw}
use Rattle.am_group.proofs.LookupLemmas.{members_from_test, groups_follow}
use Rattle.am_group.proofs.CopyLemmas.{members_follow}
use Rattle.am_group.proofs.AddLemmas.{groups_or, added_keeps, old_member, old_is_group}
use Rattle.am_group.proofs.GrowLemmas as grow

one_found : (row r : GroupRow) (h : ℕ) → group_row (row ∷ []) h ≡ Some r → (r ≡ row) × (row.group ≡ h)
one_found row r h e = go (row.group == h) refl e
  where
    go : (b : Bool) → (row.group == h) ≡ b → cond b (Some row) None ≡ Some r → (r ≡ row) × (row.group ≡ h)
    go true f e = (cc, eqb-true row.group h f)
    go false f e = absurd cc

-- a fresh group, whose master (if any) is there
module _ (s : PeerGroups) (orderly : IsOrderly s) (master : Option ℕ) where
  abbrev fresh_row : GroupRow
  fresh_row = record { group = s.last_group + 1; master = master }

  none_more : (o : Option MemberRow) → o ≡ option_or o None
  none_more None = refl
  none_more (Some r) = refl

  rows_or : (m : ℕ) → member_row (with_group master s).members m ≡ option_or (member_row s.members m) None
  rows_or m = none_more (member_row s.members m)

  fresh_or : (h : ℕ) → group_row (with_group master s).groups h ≡ option_or (group_row s.groups h) (group_row (fresh_row ∷ []) h)
  fresh_or = groups_or s [] (fresh_row ∷ []) (s.last_group + 1)

  there_still : (h : ℕ) → IsGroup s h → IsGroup (with_group master s) h
  there_still = grow.old_is_group s (with_group master s) (λ m. None) (group_row (fresh_row ∷ [])) rows_or fresh_or

  pub with_group_orderly : ((g : ℕ) → master ≡ Some g → IsGroup s g) → IsOrderly (with_group master s)
  with_group_orderly known = grow.grown_orderly s (with_group master s) (λ m. None) (group_row (fresh_row ∷ [])) rows_or fresh_or orderly (record {
    rising = orderly.rising;
    groups_rising =
        groups_follow 0 (s.last_group + 1) s.groups (fresh_row ∷ [])
        orderly.groups_rising (omega arith)
        (λ h is_group. let le : h ≤ s.last_group = orderly.fresh h is_group in omega arith)
        (omega arith, tt);
    row_group = λ m g r found e. absurd cc;
    row_master = λ m g r found e. absurd cc;
    group_master = λ h g r found e.
        let one = one_found fresh_row r h found in
        let there : IsGroup s g = known g (sym (ap (λ (x : GroupRow). x.master) one.0) ∙ e) in
        let le : g ≤ s.last_group = orderly.fresh g there in
        let at : s.last_group + 1 ≡ h = one.1 in
        (omega arith, there_still g there);
    group_last = λ h r found.
        let one = one_found fresh_row r h found in
        let at : s.last_group + 1 ≡ h = one.1 in
        omega arith;
    last_rises = omega arith;
  })

  pub with_group_peopled : IsPeopled s → ((g : ℕ) → master ≡ Some g → HasMembers s g) → IsPeopled (with_group master s)
  with_group_peopled peopled known = grow.grown_peopled s (with_group master s) (λ m. None) (group_row (fresh_row ∷ [])) rows_or fresh_or peopled
      (λ m g r found e. absurd cc)
      (λ h g r found e. known g (sym (ap (λ (x : GroupRow). x.master) (one_found fresh_row r h found).0) ∙ e))

  -- nobody is in it, so that each mount propagates to those to which it did
  same_step : (b c : ℕ) → PropagatesTo (with_group master s) b c → PropagatesTo s b c
  same_step b c (g, in_g, inl same) = (g, in_g, inl same)
  same_step b c (g, in_g, inr up) = (g, in_g, inr (go (group_of s c) refl up))
    where
      go : (o : Option ℕ) → group_of s c ≡ o → master_where (with_group master s) o (slave_in (member_row s.members c)) ≡ Some g → master_where s (group_of s c) (slave_in (member_row s.members c)) ≡ Some g
      go None f e = rw f e
      go (Some h) f e =
          let row : group_row (with_group master s).groups h ≡ group_row s.groups h =
          grow.group_stays s (with_group master s) (λ m. None) (group_row (fresh_row ∷ [])) rows_or fresh_or h (orderly.group_named c h f) in
          rw f (sym (ap master_in row) ∙ e)

  same_way : (way : List ℕ) (b c : ℕ) → PropagatesBy (with_group master s) way b c → PropagatesBy s way b c
  same_way [] b c p = same_step b c p
  same_way (n ∷ way) b c p = (same_step b n p.0, same_way way n c p.1)

  pub with_group_law : AddsNoReceivers s (with_group master s)
  with_group_law b c stands_b stands_c receives =
      record { is_other = receives.is_other; way = receives.way; arrives = same_way receives.way b c receives.arrives }

-- a fresh group, whose master (if any) has members
pub with_group_keeps : (s : PeerGroups) → IsSound s → (master : Option ℕ) → ((g : ℕ) → master ≡ Some g → HasMembers s g) → KeepsLaw s (with_group master s)
with_group_keeps s sound master known = record {
  sound = record {
    orderly = with_group_orderly s sound.orderly master (λ g e. let member = known g e in sound.orderly.group_named member.0 g member.1);
    peopled = with_group_peopled s sound.orderly master sound.peopled known;
  };
  law = with_group_law s sound.orderly master;
}

-- rows that are in groups which have members, or slaves of such groups or of masters: each namespace copy, full or reduced
pub joined_keeps : (s : PeerGroups) → IsSound s → (ms : List MemberRow) (number : ℕ) → RiseFrom number ms → ((m : ℕ) → is_some (member_row s.members m) ≡ true → m < number) →
    ((m g : ℕ) (r : MemberRow) → member_row ms m ≡ Some r → r.group ≡ Some g → HasMembers s g) →
    ((m g : ℕ) (r : MemberRow) → member_row ms m ≡ Some r → r.master ≡ Some g → HasMembers s g ⊎ IsMaster s g) →
    KeepsLaw s (added ms [] s.last_group s)
joined_keeps s sound ms number rises above grouped mastered = added_keeps s ms [] s.last_group sound (record {
  rising = members_follow 0 number s.members ms sound.orderly.rising (omega arith) above rises;
  groups_rising = rw append-nil sound.orderly.groups_rising;
  row_group = λ m g r found e. let member = grouped m g r found e in old_is_group s ms [] s.last_group g (sound.orderly.group_named member.0 g member.1);
  row_master = λ m g r found e. ⊎_elim
      (λ member. (old_is_group s ms [] s.last_group g (sound.orderly.group_named member.0 g member.1), old_member s ms [] s.last_group g member))
      (λ master. (old_is_group s ms [] s.last_group g (sound.orderly.master_named g master), old_member s ms [] s.last_group g (sound.peopled g master)))
      (mastered m g r found e);
  group_master = λ h g r found e. absurd cc;
  group_last = λ h r found. absurd cc;
  last_rises = omega arith;
})

-- `fresh`: its test asks that the master is there
pub master_there : (s : PeerGroups) (master : Option ℕ) → may_be_master s master ≡ true → (g : ℕ) → master ≡ Some g → IsGroup s g
master_there s None may g e = absurd cc
master_there s (Some h) may g e = subst (λ (x : ℕ). IsGroup s x) (some_injective e) may

-- a master that has members has one
pub master_member : (s : PeerGroups) → IsOrderly s → (master : Option ℕ) → has_peopled_master s master ≡ true → (g : ℕ) → master ≡ Some g → HasMembers s g
master_member s orderly None has g e = absurd cc
master_member s orderly (Some h) has g e = members_from_test s g orderly.rising (subst (λ (x : ℕ). has_members s.members x ≡ true) (some_injective e) has)
