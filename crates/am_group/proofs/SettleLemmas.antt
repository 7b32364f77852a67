-- Lifting masters that do not stay: what a settled state keeps, and that nothing new comes under a group.
use Rattle.std.proofs.Common.{◌≡◌, ◌≤◌, ◌<◌, ℕ, zero, suc, Bool, true, false, cond, ◌||◌, List, [], ◌∷◌, ◌++◌, Option, Some, None, refl, sym, ap, subst, inl, inr, ◌∙◌, arith}
use Rattle.std.specs.Prelude.{find, map, option_map, is_some}
use Rattle.am_names.specs.{MemberRow, GroupRow}
use Rattle.am_names.specs.PeerGroups.{PeerGroups}
use Rattle.am_group.specs.{member_row, group_row, group_in, slave_in, master_in, group_of, master_of_group, is_just, has_members, up_within, up, lifted, lifted_member, lifted_group, settled, IsMaster, IsOrderly}
use Rattle.am_group.proofs.ReceiveLemmas.{LeadsUp, home_where, IsUnder}
use Rattle.am_group.proofs.LookupLemmas.{find_map_same, found_passes, RiseFrom-map, RiseBy-map}

pub leads_append : (s : PeerGroups) (way more : List ℕ) (h n g : ℕ) → LeadsUp s way h n → LeadsUp s more n g → LeadsUp s (way ++ more) h g
leads_append s [] more h n g here there = subst (λ (x : ℕ). LeadsUp s more x g) (sym here) there
leads_append s (x ∷ way) more h n g here there = (here.0, leads_append s way more x n g here.1 there)

-- where one state has the masters of another, what leads up there leads up here
pub leads_same : (s t : PeerGroups) → ((h n : ℕ) → master_of_group t h ≡ Some n → master_of_group s h ≡ Some n) → (way : List ℕ) (h g : ℕ) → LeadsUp t way h g → LeadsUp s way h g
leads_same s t same [] h g leads = leads
leads_same s t same (n ∷ way) h g leads = (same h n leads.0, leads_same s t same way n g leads.1)

-- what the search up the chain finds stands above
pub found_above : (s : PeerGroups) (test : ℕ → Bool) (steps : ℕ) (start : Option ℕ) (n : ℕ) → find test (up_within steps s start) ≡ Some n → (m : ℕ) × (start ≡ Some m) × (way : List ℕ) × LeadsUp s way m n
found_above s test zero start n e = absurd cc
found_above s test (suc steps) None n e = absurd cc
found_above s test (suc steps) (Some m) n e = go (test m) e (found_above s test steps (master_of_group s m) n)
  where
    go : (b : Bool) → cond b (Some m) (find test (up_within steps s (master_of_group s m))) ≡ Some n → (find test (up_within steps s (master_of_group s m)) ≡ Some n → (k : ℕ) × (master_of_group s m ≡ Some k) × (way : List ℕ) × LeadsUp s way k n) → (k : ℕ) × (Some m ≡ Some k) × (way : List ℕ) × LeadsUp s way k n
    go true e ih = let same : m ≡ n = cc in (m, refl, [], same)
    go false e ih = let rest = ih e in (m, refl, rest.0 ∷ rest.2, (rest.1, rest.3))

module _ (stays : ℕ → Bool) (s : PeerGroups) where
  pub lifted_above : (start : Option ℕ) (n : ℕ) → lifted stays s start ≡ Some n → (m : ℕ) × (start ≡ Some m) × (way : List ℕ) × LeadsUp s way m n
  lifted_above None n e = absurd cc
  lifted_above (Some m) n e = found_above s stays (suc m) (Some m) n e

  pub lifted_stays : (start : Option ℕ) (n : ℕ) → lifted stays s start ≡ Some n → stays n ≡ true
  lifted_stays start n e = found_passes stays (up s start) n e

  -- the look-ups of a settled state
  group_in_lifted : (o : Option MemberRow) → group_in (option_map (lifted_member stays s) o) ≡ group_in o
  group_in_lifted None = refl
  group_in_lifted (Some row) = refl

  slave_in_lifted : (o : Option MemberRow) → slave_in (option_map (lifted_member stays s) o) ≡ lifted stays s (slave_in o)
  slave_in_lifted None = refl
  slave_in_lifted (Some row) = refl

  master_in_lifted : (o : Option GroupRow) → master_in (option_map (lifted_group stays s) o) ≡ lifted stays s (master_in o)
  master_in_lifted None = refl
  master_in_lifted (Some row) = refl

  is_some_mapped : {A B : Type 0} (f : A → B) (o : Option A) → is_some (option_map f o) ≡ is_some o
  is_some_mapped f None = refl
  is_some_mapped f (Some x) = refl

  pub member_row-settled : (m : ℕ) → member_row (settled stays s).members m ≡ option_map (lifted_member stays s) (member_row s.members m)
  member_row-settled m = find_map_same (λ (r : MemberRow). r.mount) m (lifted_member stays s) (λ r. refl) s.members

  group_row-settled : (g : ℕ) → group_row (settled stays s).groups g ≡ option_map (lifted_group stays s) (group_row s.groups g)
  group_row-settled g = find_map_same (λ (r : GroupRow). r.group) g (lifted_group stays s) (λ r. refl) s.groups

  pub group_of-settled : (m : ℕ) → group_of (settled stays s) m ≡ group_of s m
  group_of-settled m = ap group_in (member_row-settled m) ∙ group_in_lifted (member_row s.members m)

  pub slave-settled : (m : ℕ) → slave_in (member_row (settled stays s).members m) ≡ lifted stays s (slave_in (member_row s.members m))
  slave-settled m = ap slave_in (member_row-settled m) ∙ slave_in_lifted (member_row s.members m)

  pub master-settled : (h : ℕ) → master_of_group (settled stays s) h ≡ lifted stays s (master_of_group s h)
  master-settled h = ap master_in (group_row-settled h) ∙ master_in_lifted (group_row s.groups h)

  pub IsGroup-settled : (g : ℕ) → is_some (group_row (settled stays s).groups g) ≡ is_some (group_row s.groups g)
  IsGroup-settled g = ap is_some (group_row-settled g) ∙ is_some_mapped (lifted_group stays s) (group_row s.groups g)

  -- what leads up in the settled state led up before
  leads-settled : (way : List ℕ) (h g : ℕ) → LeadsUp (settled stays s) way h g → (before : List ℕ) × LeadsUp s before h g
  leads-settled [] h g leads = ([], leads)
  leads-settled (n ∷ way) h g leads =
      let rest = leads-settled way n g leads.1 in
      let first = lifted_above (master_of_group s h) n (sym (master-settled h) ∙ leads.0) in
      (first.0 ∷ first.2 ++ rest.0, (first.1, leads_append s first.2 rest.0 first.0 n g first.3 rest.1))

  pub under-settled : (c g : ℕ) → IsUnder (settled stays s) c g → IsUnder s c g
  under-settled c g under = go (group_of s c) refl (rw (group_of-settled c, slave-settled c) at under.is_home)
    where
      go : (in_group : Option ℕ) → group_of s c ≡ in_group → home_where (group_of s c) (lifted stays s (slave_in (member_row s.members c))) ≡ Some under.home → IsUnder s c g
      go (Some h) e home =
          let before = leads-settled under.way under.home g under.leads in
          record { home = under.home; is_home = rw e (rw e at home); way = before.0; leads = before.1 }
      go None e home =
          let before = leads-settled under.way under.home g under.leads in
          let first = lifted_above (slave_in (member_row s.members c)) under.home (rw e at home) in
          record { home = first.0; is_home = rw e first.1; way = first.2 ++ before.0; leads = leads_append s first.2 before.0 first.0 under.home g first.3 before.1 }

-- what stands above a master is a master
master_above : (s : PeerGroups) (way : List ℕ) (m g : ℕ) → IsMaster s m → LeadsUp s way m g → IsMaster s g
master_above s [] m g is_master leads = subst (λ (x : ℕ). IsMaster s x) leads is_master
master_above s (n ∷ way) m g is_master leads = master_above s way n g (inr (m, leads.0)) leads.1

-- and has a lower number
not_below : (s : PeerGroups) → IsOrderly s → (way : List ℕ) (m g : ℕ) → LeadsUp s way m g → g ≤ m
not_below s orderly [] m g leads = omega arith
not_below s orderly (n ∷ way) m g leads =
    let first : n < m = orderly.down m n leads.0 in
    let rest : g ≤ n = not_below s orderly way n g leads.1 in
    omega arith

module _ (stays : ℕ → Bool) (s : PeerGroups) where
  -- a master of the settled state was one before, and stays
  pub master-settled-stays : (g : ℕ) → IsMaster (settled stays s) g → IsMaster s g × (stays g ≡ true)
  master-settled-stays g (inl (m, e)) =
      let lift : lifted stays s (slave_in (member_row s.members m)) ≡ Some g = sym (slave-settled stays s m) ∙ e in
      let above = lifted_above stays s (slave_in (member_row s.members m)) g lift in
      (master_above s above.2 above.0 g (inl (m, above.1)) above.3, lifted_stays stays s _ g lift)
  master-settled-stays g (inr (h, e)) =
      let lift : lifted stays s (master_of_group s h) ≡ Some g = sym (master-settled stays s h) ∙ e in
      let above = lifted_above stays s (master_of_group s h) g lift in
      (master_above s above.2 above.0 g (inr (h, above.1)) above.3, lifted_stays stays s _ g lift)

  -- an orderly state settles into an orderly one
  pub settled_orderly : IsOrderly s → IsOrderly (settled stays s)
  settled_orderly orderly = record {
    rising = RiseFrom-map (lifted_member stays s) (λ r. refl) 0 s.members orderly.rising;
    groups_rising = RiseBy-map (λ (r : GroupRow). r.group) (lifted_group stays s) (λ r. refl) 0 s.groups orderly.groups_rising;
    group_named = λ m g e. IsGroup-settled stays s g ∙ orderly.group_named m g (sym (group_of-settled stays s m) ∙ e);
    master_named = λ g is_master. IsGroup-settled stays s g ∙ orderly.master_named g (master-settled-stays g is_master).0;
    down = λ h g e.
        let above = lifted_above stays s (master_of_group s h) g (sym (master-settled stays s h) ∙ e) in
        let first : above.0 < h = orderly.down h above.0 above.1 in
        let rest : g ≤ above.0 = not_below s orderly above.2 above.0 g above.3 in
        omega arith;
    fresh = λ g is_group. orderly.fresh g (sym (IsGroup-settled stays s g) ∙ is_group);
  }

  -- lifting changes no member's group
  pub has_lifted : (rows : List MemberRow) (g : ℕ) → has_members (map (lifted_member stays s) rows) g ≡ has_members rows g
  has_lifted [] g = refl
  has_lifted (r ∷ rows) g = ap (λ (b : Bool). is_just g r.group || b) (has_lifted rows g)
