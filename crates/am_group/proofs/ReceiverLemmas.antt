-- The receivers by chains of masters are those by chains of mounts.
use Rattle.std.proofs.Common.{◌≡◌, ◌≢◌, ◌<◌, ℕ, zero, suc, Bool, true, false, cond, eqb, ◌||◌, ◌&&◌, List, [], ◌∷◌, Option, Some, None, refl, sym, ap, subst, ◌∙◌, arith}
use Rattle.std.specs.Prelude.{not, take_while, ◌==◌}
use Rattle.std.specs.List.{Contains}
use Rattle.std.specs.Option.{option_or}
use Rattle.std.proofs.lemmas.Bool.{eqb-true, eq-eqb, ne_eqb, and_parts, and_from}
use Rattle.std.proofs.lemmas.Map.Views.{Contains-from_any, list_any-from_Contains}
use Rattle.std.proofs.lemmas.Cmp.{nat_eq_equiv}
use Rattle.std.proofs.lemmas.List.Sums.{take_while-cons}
use Rattle.am_names.proofs.Basics.{or_left, or_right}
use Rattle.am_names.specs.PeerGroups.{PeerGroups}
use Rattle.am_group.specs.{member_row, slave_in, group_of, master_of_group, PropagatesBy, Receives, has_members, up_within, HasMembers, IsOrderly, home_group, peopled_up, is_under, receives}
use Rattle.am_names.specs.{is_among}
use Rattle.am_group.proofs.ClearLemmas.{test_from_member}
use Rattle.am_group.proofs.LookupLemmas.{members_from_test}
use Rattle.am_group.proofs.ReceiveLemmas.{LeadsUp, ArePeopled, home_where, home_of, IsReached, reached_by_way, way_from_reached}
use Rattle.am_group.proofs.ScanLemmas.{has}

same_home : (o p : Option ℕ) → option_or o p ≡ home_where o p
same_home None p = refl
same_home (Some g) p = refl

-- a chain as far as it passes: its start passes, and the rest is that of its master
pub among_step : (p : ℕ → Bool) (g m : ℕ) (ms : List ℕ) → is_among (take_while p (m ∷ ms)) g ≡ (p m && (m == g || is_among (take_while p ms) g))
among_step p g m ms = ap (λ (xs : List ℕ). is_among xs g) (take_while-cons p m ms) ∙ go (p m)
  where
    go : (b : Bool) → is_among (cond b (m ∷ take_while p ms) []) g ≡ (b && (m == g || is_among (take_while p ms) g))
    go true = refl
    go false = refl

-- what leads from a group up to g, and the groups from which it goes on have members
abbrev Leads : PeerGroups → ℕ → ℕ → Type 0
Leads s g m = HasMembers s m × (way : List ℕ) × LeadsUp s way m g × ArePeopled s way

module _ (s : PeerGroups) (orderly : IsOrderly s) where
  -- what stands in the chain stands above its start
  among_above : (g steps : ℕ) (start : Option ℕ) → is_among (take_while (has_members s.members) (up_within steps s start)) g ≡ true → (m : ℕ) × (start ≡ Some m) × Leads s g m
  among_above g zero start e = absurd cc
  among_above g (suc steps) None e = absurd cc
  among_above g (suc steps) (Some m) e =
      let both = and_parts (has_members s.members m) (m == g || is_among (take_while (has_members s.members) (up_within steps s (master_of_group s m))) g)
      (sym (among_step (has_members s.members) g m (up_within steps s (master_of_group s m))) ∙ e) in
      go (m == g) refl (members_from_test s m orderly.rising both.0) both.1 (among_above g steps (master_of_group s m))
    where
      go : (b : Bool) → (m == g) ≡ b → HasMembers s m → (b || is_among (take_while (has_members s.members) (up_within steps s (master_of_group s m))) g) ≡ true → (is_among (take_while (has_members s.members) (up_within steps s (master_of_group s m))) g ≡ true → (k : ℕ) × (master_of_group s m ≡ Some k) × Leads s g k) → (k : ℕ) × (Some m ≡ Some k) × Leads s g k
      go true f has e ih = (m, refl, (has, [], eqb-true m g f, tt))
      go false f has e ih =
          let rest = ih e in
          let next = rest.2 in
          (m, refl, (has, rest.0 ∷ next.1, (rest.1, next.2), (next.0, next.3)))

  -- and the steps are enough
  among_within : (g steps m : ℕ) → m < steps → HasMembers s m → (way : List ℕ) → LeadsUp s way m g → ArePeopled s way → is_among (take_while (has_members s.members) (up_within steps s (Some m))) g ≡ true
  among_within g zero m fits has way leads all = absurd (omega arith)
  among_within g (suc steps) m fits has [] leads all =
      among_step (has_members s.members) g m (up_within steps s (master_of_group s m)) ∙
      and_from (has_members s.members m) _ (test_from_member s.members has.0 m has.1) (or_left (m == g) _ (eq-eqb m g leads))
  among_within g (suc steps) m fits has (n ∷ way) leads all =
      let lower : n < m = orderly.down m n leads.0 in
      among_step (has_members s.members) g m (up_within steps s (master_of_group s m)) ∙
      and_from (has_members s.members m) _ (test_from_member s.members has.0 m has.1)
      (or_right (m == g) _ (rw (leads.0) (among_within g steps n (omega arith) all.0 way leads.1 all.1)))

  pub under_test : (home : Option ℕ) (g : ℕ) → is_among (peopled_up s home) g ≡ true → (m : ℕ) × (home ≡ Some m) × Leads s g m
  under_test None g e = absurd cc
  under_test (Some m) g e = among_above g (suc m) (Some m) e

  under_found : (home : Option ℕ) (m : ℕ) → home ≡ Some m → HasMembers s m → (way : List ℕ) (g : ℕ) → LeadsUp s way m g → ArePeopled s way → is_among (peopled_up s home) g ≡ true
  under_found None m e has way g leads all = absurd cc
  under_found (Some h) m e has way g leads all =
      let same : m ≡ h = cc in
      among_within g (suc h) h (omega arith) (subst (λ (x : ℕ). HasMembers s x) same has) way (subst (λ (x : ℕ). LeadsUp s way x g) same leads) all

  home_is : (c : ℕ) → home_group s c ≡ home_of s c
  home_is c = same_home (group_of s c) (slave_in (member_row s.members c))

  other_from : (b c : ℕ) → not (c == b) ≡ true → c ≢ b
  other_from b c e same = let bad : not true ≡ true = rw (eq-eqb c b same) at e in cc

  pub receives_test : (b c : ℕ) → receives s b c ≡ true → Receives s b c
  receives_test b c e =
      let both = and_parts (not (c == b)) (is_under s (group_of s b) c) e in
      let way = go (group_of s b) refl both.1 in
      record { is_other = other_from b c both.0; way = way.0; arrives = way.1 }
    where
      go : (o : Option ℕ) → group_of s b ≡ o → is_under s o c ≡ true → (way : List ℕ) × PropagatesBy s way b c
      go None f e = absurd cc
      go (Some g) f e =
          let up = under_test (home_group s c) g e in
          let leads = up.2 in
          way_from_reached s b c g f (record {
            under = record { home = up.0; is_home = sym (home_is c) ∙ up.1; way = leads.1; leads = leads.2 };
            home_has = leads.0;
            way_has = leads.3;
          })

  pub receives_found : (b c : ℕ) → Receives s b c → receives s b c ≡ true
  receives_found b c r =
      let found = reached_by_way s r.way b c r.arrives in
      let reached : IsReached s c found.0 = found.2 in
      let under = reached.under in
      and_from (not (c == b)) (is_under s (group_of s b) c)
      (rw (ne_eqb c b r.is_other) refl)
      (rw (found.1) (under_found (home_group s c) under.home (home_is c ∙ under.is_home) reached.home_has under.way found.0 under.leads reached.way_has))

pub has_from_Contains : (c : ℕ) (xs : List ℕ) → Contains xs c → has c xs ≡ true
has_from_Contains c xs h = list_any-from_Contains {eq = eqb} nat_eq_equiv c xs h

pub Contains_from_has : (c : ℕ) (xs : List ℕ) → has c xs ≡ true → Contains xs c
Contains_from_has c xs h = Contains-from_any {eq = eqb} eqb-true c xs h
