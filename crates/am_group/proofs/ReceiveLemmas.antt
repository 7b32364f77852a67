-- A mount receives from the members of the groups at or above its own (its home).
use Rattle.std.proofs.Common.{◌≡◌, ◌⊎◌, ℕ, List, [], ◌∷◌, ◌++◌, Option, Some, None, refl, sym, ap, inl, inr, ◌∙◌}
use Rattle.am_names.proofs.Basics.{some_injective}
use Rattle.am_names.specs.PeerGroups.{PeerGroups}
use Rattle.am_group.specs.{member_row, group_of, slave_in, master_of_group, master_of, PropagatesTo, PropagatesBy, IsPeopled, HasMembers}

-- these masters lead from h up to g
abbrev pub LeadsUp : PeerGroups → List ℕ → ℕ → ℕ → Type 0
LeadsUp s [] h g = h ≡ g
LeadsUp s (n ∷ way) h g = (master_of_group s h ≡ Some n) × LeadsUp s way n g

abbrev pub home_where : Option ℕ → Option ℕ → Option ℕ
home_where (Some group) own = Some group
home_where None own = own

-- the home of a mount: its peer group, else the one of which it is a slave
abbrev pub home_of : PeerGroups → ℕ → Option ℕ
home_of s m = home_where (group_of s m) (slave_in (member_row s.members m))

-- the group g is the home of c or above it
pub record IsUnder (s : PeerGroups) (c g : ℕ) : Type 0 where
  pub home : ℕ
  pub is_home : home_of s c ≡ Some home
  pub way : List ℕ
  pub leads : LeadsUp s way home g

-- each of these peer groups has a member
abbrev pub ArePeopled : PeerGroups → List ℕ → Type 0
ArePeopled s [] = Unit {0}
ArePeopled s (g ∷ way) = HasMembers s g × ArePeopled s way

-- c is under g, by peer groups that all have members
pub record IsReached (s : PeerGroups) (c g : ℕ) : Type 0 where
  pub under : IsUnder s c g
  pub home_has : HasMembers s under.home
  pub way_has : ArePeopled s under.way

pub leads_more : (s : PeerGroups) (way : List ℕ) (h g top : ℕ) → LeadsUp s way h g → master_of_group s g ≡ Some top → LeadsUp s (way ++ top ∷ []) h top
leads_more s [] h g top here e = (ap (master_of_group s) here ∙ e, refl)
leads_more s (n ∷ way) h g top here e = (here.0, leads_more s way n g top here.1 e)

peopled_more : (s : PeerGroups) (way : List ℕ) (g : ℕ) → ArePeopled s way → HasMembers s g → ArePeopled s (way ++ g ∷ [])
peopled_more s [] g all has = (has, tt)
peopled_more s (n ∷ way) g all has = (all.0, peopled_more s way g all.1 has)

-- at a step the receiver's home is the group, or directly under it
home_at_step : (s : PeerGroups) (b c : ℕ) (p : PropagatesTo s b c) → IsReached s c p.0
home_at_step s b c p = go (group_of s c) (slave_in (member_row s.members c)) refl refl p.2
  where
    sender : HasMembers s p.0
    sender = (b, p.1)

    go : (in_group own : Option ℕ) → group_of s c ≡ in_group → slave_in (member_row s.members c) ≡ own → (group_of s c ≡ Some p.0) ⊎ (master_of s c ≡ Some p.0) → IsReached s c p.0
    go in_group own e f (inl same) = record { under = record { home = p.0; is_home = rw same refl; way = []; leads = refl }; home_has = sender; way_has = tt }
    go (Some h) own e f (inr up) = record { under = record { home = h; is_home = rw e refl; way = p.0 ∷ []; leads = ((rw e at up), refl) }; home_has = (c, e); way_has = (sender, tt) }
    go None own e f (inr up) = record { under = record { home = p.0; is_home = rw e (rw e at up); way = []; leads = refl }; home_has = sender; way_has = tt }

-- what is reached is under a group of the sender, by groups that have members
pub reached_by_way : (s : PeerGroups) (way : List ℕ) (b c : ℕ) → PropagatesBy s way b c → (g : ℕ) × (group_of s b ≡ Some g) × IsReached s c g
reached_by_way s [] b c p = (p.0, p.1, home_at_step s b c p)
reached_by_way s (next ∷ way) b c p =
    let rest = reached_by_way s way next c p.1 in
    go rest.0 rest.1 rest.2 p.0.2
  where
    go : (g : ℕ) → group_of s next ≡ Some g → IsReached s c g → (group_of s next ≡ Some p.0.0) ⊎ (master_of s next ≡ Some p.0.0) → (g : ℕ) × (group_of s b ≡ Some g) × IsReached s c g
    go g in_g reached (inl same) = let e : g ≡ p.0.0 = cc in (g, p.0.1 ∙ ap Some (sym e), reached)
    go g in_g reached (inr up) =
        let under = reached.under in (
          p.0.0,
          p.0.1,
          record {
            under = record { home = under.home; is_home = under.is_home; way = under.way ++ p.0.0 ∷ []; leads = leads_more s under.way under.home g p.0.0 under.leads (rw in_g at up) };
            home_has = reached.home_has;
            way_has = peopled_more s under.way p.0.0 reached.way_has (b, p.0.1);
          },
        )

pub under_from_way : (s : PeerGroups) (way : List ℕ) (b c : ℕ) → PropagatesBy s way b c → (g : ℕ) × (group_of s b ≡ Some g) × IsUnder s c g
under_from_way s way b c p = let found = reached_by_way s way b c p in (found.0, found.1, found.2.under)

pub way_more : (s : PeerGroups) (way : List ℕ) (b d c : ℕ) → PropagatesBy s way b d → PropagatesTo s d c → PropagatesBy s (way ++ d ∷ []) b c
way_more s [] b d c here last = (here, last)
way_more s (n ∷ way) b d c here last = (here.0, way_more s way n d c here.1 last)

-- a way to a mount, of any length
abbrev Reaches : PeerGroups → ℕ → ℕ → Type 0
Reaches s b c = (way : List ℕ) × PropagatesBy s way b c

reach_more : (s : PeerGroups) (b d c : ℕ) → Reaches s b d → PropagatesTo s d c → Reaches s b c
reach_more s b d c r last = (r.0 ++ d ∷ [], way_more s r.0 b d c r.1 last)

-- the members of a group under that of b are reached from b
members_reached : (s : PeerGroups) (b g : ℕ) → group_of s b ≡ Some g → (way : List ℕ) (h : ℕ) → LeadsUp s way h g → ArePeopled s way → (c : ℕ) → group_of s c ≡ Some h → Reaches s b c
members_reached s b g in_g [] h leads all c in_h = ([], (g, in_g, inl (in_h ∙ ap Some leads)))
members_reached s b g in_g (n ∷ way) h leads all c in_h =
    let member = all.0 in
    reach_more s b member.0 c (members_reached s b g in_g way n leads.1 all.1 member.0 member.1) (n, member.1, inr (rw in_h leads.0))

-- so is each mount whose home is under it
pub way_from_reached : (s : PeerGroups) (b c g : ℕ) → group_of s b ≡ Some g → IsReached s c g → (way : List ℕ) × PropagatesBy s way b c
way_from_reached s b c g in_g reached = go (group_of s c) refl
  where
    under : IsUnder s c g
    under = reached.under

    go : (in_group : Option ℕ) → group_of s c ≡ in_group → (way : List ℕ) × PropagatesBy s way b c
    go (Some h) e =
        let same : h ≡ under.home = some_injective (rw e at under.is_home) in
        members_reached s b g in_g under.way under.home under.leads reached.way_has c (e ∙ ap Some same)
    go None e =
        let own : slave_in (member_row s.members c) ≡ Some under.home = rw e at under.is_home in
        let member = reached.home_has in
        reach_more s b member.0 c (members_reached s b g in_g under.way under.home under.leads reached.way_has member.0 member.1) (under.home, member.1, inr (rw e own))

-- where every master has members, all of the chain have
chain_peopled : (s : PeerGroups) → IsPeopled s → (way : List ℕ) (h g : ℕ) → LeadsUp s way h g → ArePeopled s way
chain_peopled s peopled [] h g leads = tt
chain_peopled s peopled (n ∷ way) h g leads = (peopled n (inr (h, leads.0)), chain_peopled s peopled way n g leads.1)

home_peopled : (s : PeerGroups) → IsPeopled s → (c h : ℕ) → home_of s c ≡ Some h → HasMembers s h
home_peopled s peopled c h e = go (group_of s c) refl e
  where
    go : (in_group : Option ℕ) → group_of s c ≡ in_group → home_where in_group (slave_in (member_row s.members c)) ≡ Some h → HasMembers s h
    go (Some g) f e = (c, f ∙ e)
    go None f e = peopled h (inl (c, e))

pub reached_from_under : (s : PeerGroups) → IsPeopled s → (b c g : ℕ) → group_of s b ≡ Some g → IsUnder s c g → (way : List ℕ) × PropagatesBy s way b c
reached_from_under s peopled b c g in_g under =
    way_from_reached s b c g in_g (record {
      under = under;
      home_has = home_peopled s peopled c under.home under.is_home;
      way_has = chain_peopled s peopled under.way under.home g under.leads;
    })
