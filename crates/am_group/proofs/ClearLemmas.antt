-- Peer groups that don't stay go: nothing else changes.
use Rattle.std.proofs.Common.{◌≡◌, ℕ, Bool, true, false, cond, ◌||◌, List, [], ◌∷◌, Option, Some, None, refl, sym, ap, inl, inr, ◌∙◌}
use Rattle.std.specs.Prelude.{is_some, ◌==◌}
use Rattle.am_names.proofs.Basics.{or_left, or_right}
use Rattle.am_names.specs.{MemberRow, GroupRow}
use Rattle.am_names.specs.PeerGroups.{PeerGroups}
use Rattle.am_group.specs.{member_row, group_row, group_in, master_in, master_of_group, is_just, has_members, cleared, IsGroup, IsMaster, IsOrderly, IsPeopled}
use Rattle.am_group.proofs.LookupLemmas.{find_filter, RiseBy-filter}
use Rattle.am_group.proofs.SettleLemmas.{leads_same}
use Rattle.am_group.proofs.LawLemmas.{BringsNoneUnder}
use Rattle.am_group.proofs.ScanLemmas.{just_self}

-- a member by look-up is a row in the group
pub test_from_member :
    (rows : List MemberRow) (m g : ℕ) → group_in (member_row rows m) ≡ Some g →
    has_members rows g ≡ true
test_from_member [] m g e = absurd cc
test_from_member (r ∷ rows) m g e = go (r.mount == m) e (test_from_member rows m g)
  where
    go :
        (b : Bool) → group_in (cond b (Some r) (member_row rows m)) ≡ Some g →
        (group_in (member_row rows m) ≡ Some g → has_members rows g ≡ true) →
        (is_just g r.group || has_members rows g) ≡ true
    go true e ih = or_left (is_just g r.group) _ (just_self g r.group e)
    go false e ih = or_right (is_just g r.group) _ (ih e)

module _ (stays : ℕ → Bool) (s : PeerGroups) where
  cleared_row : (g : ℕ) → group_row (cleared stays s).groups g ≡ cond (stays g) (group_row s.groups g) None
  cleared_row g = find_filter (λ (r : GroupRow). r.group) g stays s.groups

  -- a group that stays is as it was
  pub kept_row : (g : ℕ) → stays g ≡ true → group_row (cleared stays s).groups g ≡ group_row s.groups g
  kept_row g e = cleared_row g ∙ rw e refl

  was_group : (g : ℕ) → IsGroup (cleared stays s) g → IsGroup s g
  was_group g e = go (stays g) (group_row s.groups g) (sym (ap is_some (cleared_row g)) ∙ e)
    where
      go : (b : Bool) (o : Option GroupRow) → is_some (cond b o None) ≡ true → is_some o ≡ true
      go true o e = e
      go false o e = absurd cc

  was_master :
      (h n : ℕ) → master_of_group (cleared stays s) h ≡ Some n → master_of_group s h ≡ Some n
  was_master h n e =
      go (stays h) (group_row s.groups h) (sym (ap master_in (cleared_row h)) ∙ e)
    where
      go :
          (b : Bool) (o : Option GroupRow) → master_in (cond b o None) ≡ Some n → master_in o ≡ Some n
      go true o e = e
      go false o e = absurd cc

  was_a_master : (g : ℕ) → IsMaster (cleared stays s) g → IsMaster s g
  was_a_master g (inl (m, e)) = inl (m, e)
  was_a_master g (inr (h, e)) = inr (h, was_master h g e)

  -- where all that have members stay, and all masters
  pub cleared_orderly :
      IsOrderly s → ((g : ℕ) → has_members s.members g ≡ true → stays g ≡ true) →
      ((g : ℕ) → IsMaster s g → stays g ≡ true) → IsOrderly (cleared stays s)
  cleared_orderly orderly members masters = record {
    rising = orderly.rising;
    groups_rising = RiseBy-filter (λ (r : GroupRow). r.group) (λ r. stays r.group) 0 s.groups orderly.groups_rising;
    group_named = λ m g e.
        ap is_some (kept_row g (members g (test_from_member s.members m g e))) ∙
        orderly.group_named m g e;
    master_named = λ g is_master.
        let before = was_a_master g is_master in
        ap is_some (kept_row g (masters g before)) ∙ orderly.master_named g before;
    down = λ h g e. orderly.down h g (was_master h g e);
    fresh = λ g e. orderly.fresh g (was_group g e);
  }

  pub cleared_peopled : IsPeopled s → IsPeopled (cleared stays s)
  cleared_peopled peopled g is_master = peopled g (was_a_master g is_master)

  -- it brings none under another's group
  pub none_under-cleared :
      (first : PeerGroups) → BringsNoneUnder first s → BringsNoneUnder first (cleared stays s)
  none_under-cleared first none b c g stands_b stands_c other in_g under =
      none b c g stands_b stands_c other in_g (record {
        home = under.home;
        is_home = under.is_home;
        way = under.way;
        leads = leads_same s (cleared stays s) was_master under.way under.home g under.leads;
      })
