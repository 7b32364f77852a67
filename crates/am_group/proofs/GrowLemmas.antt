-- Rows that come make no mount that stood receive more; what they have to name so that the invariant holds.
use Rattle.std.proofs.Common.{◌≡◌, ◌≤◌, ◌<◌, ◌⊎◌, ℕ, true, List, [], ◌∷◌, Option, Some, None, refl, sym, ap, inl, inr, ⊎_elim, ◌∙◌, arith}
use Rattle.std.specs.Prelude.{is_some}
use Rattle.std.specs.Option.{option_or}
use Rattle.am_names.specs.{MemberRow, GroupRow, RiseBy}
use Rattle.am_names.specs.PeerGroups.{PeerGroups}
use Rattle.am_group.specs.{member_row, group_row, group_in, slave_in, master_in, group_of, master_of_group, RiseFrom, IsGroup, IsMaster, HasMembers, IsOrderly, IsPeopled, IsSound, AddsNoReceivers}
use Rattle.am_group.proofs.ReceiveLemmas.{LeadsUp, home_where, home_of}
use Rattle.am_group.proofs.LawLemmas.{BringsNoneUnder, law_from_under}
use Rattle.am_group.proofs.ChangeLemmas.{KeepsLaw}

has_of : {A : Type 0} (o p : Option A) → is_some o ≡ true → option_or o p ≡ o
has_of None p e = absurd cc
has_of (Some r) p e = refl

-- what comes names groups that are there, with lower masters that have members
pub record NamesWell (s t : PeerGroups) (new_row : ℕ → Option MemberRow) (new_group : ℕ → Option GroupRow) : Type 0 where
  pub rising : RiseFrom 0 t.members
  pub groups_rising : RiseBy (λ (r : GroupRow). r.group) 0 t.groups
  pub row_group : (m g : ℕ) (r : MemberRow) → new_row m ≡ Some r → r.group ≡ Some g → IsGroup t g
  pub row_master : (m g : ℕ) (r : MemberRow) → new_row m ≡ Some r → r.master ≡ Some g → IsGroup t g × HasMembers t g
  pub group_master : (h g : ℕ) (r : GroupRow) → new_group h ≡ Some r → r.master ≡ Some g → (g < h) × IsGroup t g × HasMembers t g
  pub group_last : (h : ℕ) (r : GroupRow) → new_group h ≡ Some r → h ≤ t.last_group
  pub last_rises : s.last_group ≤ t.last_group

-- what comes names groups that are there, with lower masters
pub record NamesThere (s t : PeerGroups) (new_row : ℕ → Option MemberRow) (new_group : ℕ → Option GroupRow) : Type 0 where
  pub rising : RiseFrom 0 t.members
  pub groups_rising : RiseBy (λ (r : GroupRow). r.group) 0 t.groups
  pub row_group : (m g : ℕ) (r : MemberRow) → new_row m ≡ Some r → r.group ≡ Some g → IsGroup t g
  pub row_master : (m g : ℕ) (r : MemberRow) → new_row m ≡ Some r → r.master ≡ Some g → IsGroup t g
  pub group_master : (h g : ℕ) (r : GroupRow) → new_group h ≡ Some r → r.master ≡ Some g → (g < h) × IsGroup t g
  pub group_last : (h : ℕ) (r : GroupRow) → new_group h ≡ Some r → h ≤ t.last_group
  pub last_rises : s.last_group ≤ t.last_group

-- The rows of s stand in t as they were, and new ones beside them.
module _ (s t : PeerGroups) (new_row : ℕ → Option MemberRow) (new_group : ℕ → Option GroupRow) (rows_or : (m : ℕ) → member_row t.members m ≡ option_or (member_row s.members m) (new_row m)) (groups_or : (h : ℕ) → group_row t.groups h ≡ option_or (group_row s.groups h) (new_group h)) where
  row_stays : (m : ℕ) → is_some (member_row s.members m) ≡ true → member_row t.members m ≡ member_row s.members m
  row_stays m stands = rows_or m ∙ has_of (member_row s.members m) (new_row m) stands

  pub group_stays : (h : ℕ) → IsGroup s h → group_row t.groups h ≡ group_row s.groups h
  group_stays h is_group = groups_or h ∙ has_of (group_row s.groups h) (new_group h) is_group

  home_old : IsOrderly s → (c h : ℕ) → home_of s c ≡ Some h → IsGroup s h
  home_old orderly c h e = go (group_of s c) refl e
    where
      go : (o : Option ℕ) → group_of s c ≡ o → home_where o (slave_in (member_row s.members c)) ≡ Some h → IsGroup s h
      go (Some g) f e = orderly.group_named c h (f ∙ e)
      go None f e = orderly.master_named h (inl (c, e))

  leads_old : IsOrderly s → (way : List ℕ) (h g : ℕ) → IsGroup s h → LeadsUp t way h g → LeadsUp s way h g
  leads_old orderly [] h g is_group leads = leads
  leads_old orderly (n ∷ way) h g is_group leads =
      let same : master_of_group s h ≡ Some n = sym (ap master_in (group_stays h is_group)) ∙ leads.0 in
      (same, leads_old orderly way n g (orderly.master_named n (inr (h, same))) leads.1)

  grown_under : IsOrderly s → BringsNoneUnder s t
  grown_under orderly b c g stands_b stands_c other in_g under =
      let is_home : home_of s c ≡ Some under.home = sym (ap (λ (o : Option MemberRow). home_where (group_in o) (slave_in o)) (row_stays c stands_c)) ∙ under.is_home in (
        sym (ap group_in (row_stays b stands_b)) ∙ in_g,
        record {
          home = under.home;
          is_home = is_home;
          way = under.way;
          leads = leads_old orderly under.way under.home g (home_old orderly c under.home is_home) under.leads;
        },
      )

  -- whatever is added, the law holds
  pub grown_law : IsSound s → AddsNoReceivers s t
  grown_law sound = law_from_under s t sound.peopled (grown_under sound.orderly)

  row_cases : (m : ℕ) → (is_some (member_row s.members m) ≡ true) × (member_row t.members m ≡ member_row s.members m) ⊎ (member_row t.members m ≡ new_row m)
  row_cases m = go (member_row s.members m) refl
    where
      go : (o : Option MemberRow) → member_row s.members m ≡ o → (is_some (member_row s.members m) ≡ true) × (member_row t.members m ≡ member_row s.members m) ⊎ (member_row t.members m ≡ new_row m)
      go (Some r) e = inl (ap is_some e, row_stays m (ap is_some e))
      go None e = inr (rows_or m ∙ rw e refl)

  group_cases : (h : ℕ) → IsGroup s h × (group_row t.groups h ≡ group_row s.groups h) ⊎ (group_row t.groups h ≡ new_group h)
  group_cases h = go (group_row s.groups h) refl
    where
      go : (o : Option GroupRow) → group_row s.groups h ≡ o → IsGroup s h × (group_row t.groups h ≡ group_row s.groups h) ⊎ (group_row t.groups h ≡ new_group h)
      go (Some r) e = inl (ap is_some e, group_stays h (ap is_some e))
      go None e = inr (groups_or h ∙ rw e refl)

  pub old_is_group : (h : ℕ) → IsGroup s h → IsGroup t h
  old_is_group h e = ap is_some (group_stays h e) ∙ e

  group_in_some : (o : Option MemberRow) (g : ℕ) → group_in o ≡ Some g → (r : MemberRow) × (o ≡ Some r) × (r.group ≡ Some g)
  group_in_some None g e = absurd cc
  group_in_some (Some r) g e = (r, refl, e)

  slave_in_some : (o : Option MemberRow) (g : ℕ) → slave_in o ≡ Some g → (r : MemberRow) × (o ≡ Some r) × (r.master ≡ Some g)
  slave_in_some None g e = absurd cc
  slave_in_some (Some r) g e = (r, refl, e)

  master_in_some : (o : Option GroupRow) (g : ℕ) → master_in o ≡ Some g → (r : GroupRow) × (o ≡ Some r) × (r.master ≡ Some g)
  master_in_some None g e = absurd cc
  master_in_some (Some r) g e = (r, refl, e)

  is_some_some : (o : Option GroupRow) → is_some o ≡ true → (r : GroupRow) × (o ≡ Some r)
  is_some_some None e = absurd cc
  is_some_some (Some r) e = (r, refl)

  stands_if_grouped : (o : Option MemberRow) (g : ℕ) → group_in o ≡ Some g → is_some o ≡ true
  stands_if_grouped None g e = absurd cc
  stands_if_grouped (Some r) g e = refl

  pub old_member : (g : ℕ) → HasMembers s g → HasMembers t g
  old_member g member = (member.0, ap group_in (row_stays member.0 (stands_if_grouped (member_row s.members member.0) g member.1)) ∙ member.1)

  grown_named : IsOrderly s → NamesThere s t new_row new_group → (g : ℕ) → IsMaster t g → IsGroup t g
  grown_named orderly there g (inl (m, e)) = ⊎_elim
      (λ old. old_is_group g (orderly.master_named g (inl (m, sym (ap slave_in old.1) ∙ e))))
      (λ new. let row = slave_in_some (new_row m) g (sym (ap slave_in new) ∙ e) in there.row_master m g row.0 row.1 row.2)
      (row_cases m)
  grown_named orderly there g (inr (h, e)) = ⊎_elim
      (λ old. old_is_group g (orderly.master_named g (inr (h, sym (ap master_in old.1) ∙ e))))
      (λ new. let row = master_in_some (new_group h) g (sym (ap master_in new) ∙ e) in (there.group_master h g row.0 row.1 row.2).1)
      (group_cases h)

  pub grown_orderly : IsOrderly s → NamesThere s t new_row new_group → IsOrderly t
  grown_orderly orderly there = record {
    rising = there.rising;
    groups_rising = there.groups_rising;
    group_named = λ m g e. ⊎_elim
        (λ old. old_is_group g (orderly.group_named m g (sym (ap group_in old.1) ∙ e)))
        (λ new. let row = group_in_some (new_row m) g (sym (ap group_in new) ∙ e) in there.row_group m g row.0 row.1 row.2)
        (row_cases m);
    master_named = grown_named orderly there;
    down = λ h g e. ⊎_elim
        (λ old. orderly.down h g (sym (ap master_in old.1) ∙ e))
        (λ new. let row = master_in_some (new_group h) g (sym (ap master_in new) ∙ e) in (there.group_master h g row.0 row.1 row.2).0)
        (group_cases h);
    fresh = λ h e. ⊎_elim
        (λ old. let le : h ≤ s.last_group = orderly.fresh h old.0 in let more : s.last_group ≤ t.last_group = there.last_rises in omega arith)
        (λ new. let row = is_some_some (new_group h) (sym (ap is_some new) ∙ e) in there.group_last h row.0 row.1)
        (group_cases h);
  }

  -- every master has members where those that come have
  pub grown_peopled :
      IsPeopled s →
      ((m g : ℕ) (r : MemberRow) → new_row m ≡ Some r → r.master ≡ Some g → HasMembers t g) →
      ((h g : ℕ) (r : GroupRow) → new_group h ≡ Some r → r.master ≡ Some g → HasMembers t g) →
      IsPeopled t
  grown_peopled peopled rows groups g (inl (m, e)) = ⊎_elim
      (λ old. old_member g (peopled g (inl (m, sym (ap slave_in old.1) ∙ e))))
      (λ new. let row = slave_in_some (new_row m) g (sym (ap slave_in new) ∙ e) in rows m g row.0 row.1 row.2)
      (row_cases m)
  grown_peopled peopled rows groups g (inr (h, e)) = ⊎_elim
      (λ old. old_member g (peopled g (inr (h, sym (ap master_in old.1) ∙ e))))
      (λ new. let row = master_in_some (new_group h) g (sym (ap master_in new) ∙ e) in groups h g row.0 row.1 row.2)
      (group_cases h)

  named_there : NamesWell s t new_row new_group → NamesThere s t new_row new_group
  named_there well = record {
    rising = well.rising;
    groups_rising = well.groups_rising;
    row_group = well.row_group;
    row_master = λ m g r found e. (well.row_master m g r found e).0;
    group_master = λ h g r found e. let all = well.group_master h g r found e in (all.0, all.1);
    group_last = well.group_last;
    last_rises = well.last_rises;
  }

  pub grown_keeps : IsSound s → NamesWell s t new_row new_group → KeepsLaw s t
  grown_keeps sound well = record {
    law = grown_law sound;
    sound = record {
      orderly = grown_orderly sound.orderly (named_there well);
      peopled = grown_peopled sound.peopled
          (λ m g r found e. (well.row_master m g r found e).1)
          (λ h g r found e. let all = well.group_master h g r found e in all.2);
    };
  }
