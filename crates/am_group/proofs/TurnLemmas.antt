-- The peer groups that a walk meets are those with a member among the mount and its receivers.
use Rattle.std.proofs.Common.{◌≡◌, ℕ, suc, Bool, true, false, cond, ◌||◌, List, [], ◌∷◌, length, Option, Some, refl, sym, ap, subst, ⊎_elim, ◌∙◌}
use Rattle.std.specs.Prelude.{◌==◌, filter, not}
use Rattle.std.specs.Option.{option_or}
use Rattle.std.specs.List.{list_any}
use Rattle.std.proofs.lemmas.Bool.{eqb-true, eq-eqb, and_from, and_parts, or_cases}
use Rattle.am_names.proofs.Basics.{or_left, or_right}
use Rattle.am_names.specs.{GroupRow, is_among}
use Rattle.am_names.specs.PeerGroups.{PeerGroups}
use Rattle.am_group.specs.{IsOrderly, HasMembers, group_of, groups_under, group_numbers, has_members, has_receiver, home_group, is_at_or_under, is_just, is_under, master_of_group, member_row, numbers, peopled_up, receives, receivers_of, slave_in, turns_of, turns_where}
use Rattle.am_group.proofs.ClearLemmas.{test_from_member}
use Rattle.am_group.proofs.LookupLemmas.{members_from_test}
use Rattle.am_group.proofs.ScanLemmas.{any_has, has-filter, has-from_filter, has_any, just_same, just_self}
use Rattle.am_group.proofs.UnderLemmas.{has_home, up_step}

module _ (s : PeerGroups) (orderly : IsOrderly s) (b own : ℕ) (in_own : group_of s b ≡ Some own) where
  abbrev all : List ℕ
  all = b ∷ receivers_of s b

  -- a group under the mount's own has a member among them
  met_has : (g : ℕ) → is_at_or_under s own g ≡ true → has_receiver s all g ≡ true
  met_has g under = go (m == b) refl
    where
      live : has_members s.members g ≡ true
      live = (and_parts (g == own || is_among (peopled_up s (master_of_group s g)) own) (has_members s.members g) (sym (up_step s orderly own g) ∙ under)).1

      member : HasMembers s g
      member = members_from_test s g orderly.rising live

      m : ℕ
      m = member.0

      go : (e : Bool) → (m == b) ≡ e → has_receiver s all g ≡ true
      go true e =
          or_left (is_just g (group_of s b)) _
          (just_self g (group_of s b) (ap (group_of s) (sym (eqb-true m b e)) ∙ member.1))
      go false e =
          let home : home_group s m ≡ Some g = ap (λ (o : Option ℕ). option_or o (slave_in (member_row s.members m))) member.1 in
          let passes : receives s b m ≡ true =
          and_from (not (m == b)) (is_under s (group_of s b) m) (rw e refl)
          (ap (λ (o : Option ℕ). is_under s o m) in_own ∙ ap (λ (o : Option ℕ). is_among (peopled_up s o) own) home ∙ under) in
          or_right (is_just g (group_of s b)) _
          (has_any (λ r. is_just g (group_of s r)) (receivers_of s b) m
          (has-filter (receives s b) (numbers s.members) m (has_home s m g home) passes)
          (just_self g (group_of s m) member.1))

  -- and one that has is under it
  has_met : (g : ℕ) → has_receiver s all g ≡ true → is_at_or_under s own g ≡ true
  has_met g e = ⊎_elim
      (λ first.
      let same : group_of s b ≡ Some g = just_same g (group_of s b) first in
      let is : own ≡ g = cc in
      let has_own : has_members s.members own ≡ true = test_from_member s.members b own in_own in
      subst (λ (x : ℕ). is_at_or_under s own x ≡ true) is (up_step s orderly own own ∙ rw (eq-eqb own own refl, has_own) refl))
      (λ later.
      let found = any_has (λ r. is_just g (group_of s r)) (receivers_of s b) later in
      let in_g : group_of s found.0 ≡ Some g = just_same g (group_of s found.0) found.2 in
      let passes = (has-from_filter (receives s b) (numbers s.members) found.0 found.1).1 in
      let under = (and_parts (not (found.0 == b)) (is_under s (group_of s b) found.0) passes).1 in
      let home : home_group s found.0 ≡ Some g = ap (λ (o : Option ℕ). option_or o (slave_in (member_row s.members found.0))) in_g in
      sym (ap (λ (o : Option ℕ). is_among (peopled_up s o) own) home) ∙ sym (ap (λ (o : Option ℕ). is_under s o found.0) in_own) ∙ under)
      (or_cases (is_just g (group_of s b)) (list_any (λ r. is_just g (group_of s r)) (receivers_of s b)) e)

  both : (p q : Bool) → (p ≡ true → q ≡ true) → (q ≡ true → p ≡ true) → p ≡ q
  both true q there back = sym (there refl)
  both false true there back = absurd (let bad = back refl in cc)
  both false false there back = refl

  as_many : (rows : List GroupRow) → length (group_numbers (filter (λ row. is_at_or_under s own row.group) rows)) ≡ length (filter (λ row. has_receiver s all row.group) rows)
  as_many [] = refl
  as_many (r ∷ rows) =
      rw (both (is_at_or_under s own r.group) (has_receiver s all r.group) (met_has r.group) (has_met r.group))
      (go (has_receiver s all r.group) (as_many rows))
    where
      go :
          (c : Bool) →
          length (group_numbers (filter (λ row. is_at_or_under s own row.group) rows)) ≡ length (filter (λ row. has_receiver s all row.group) rows) →
          length (group_numbers (cond c (r ∷ filter (λ row. is_at_or_under s own row.group) rows) (filter (λ row. is_at_or_under s own row.group) rows))) ≡
          length (cond c (r ∷ filter (λ row. has_receiver s all row.group) rows) (filter (λ row. has_receiver s all row.group) rows))
      go true ih = ap suc ih
      go false ih = ih

  pub turns_met : length (groups_under s own) ≡ turns_of s b
  turns_met = as_many s.groups ∙ sym (ap (λ (o : Option ℕ). turns_where o s b) in_own)
