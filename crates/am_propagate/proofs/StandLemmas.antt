-- A new mount's fresh peer group, made together with the groups that stand for others.
use Rattle.std.proofs.Common.{◌≡◌, ◌≤◌, ◌+◌, ◌↔◌, ℕ, Bool, true, false, cond, eqb, ◌||◌, ◌&&◌, List, [], ◌∷◌, ◌++◌, Option, Some, None, refl, sym, ap, inl, inr, ⊎_elim, ◌∙◌, arith}
use Rattle.std.specs.Prelude.{filter, map, not, is_some, option_map, ◌==◌}
use Rattle.std.specs.Option.{option_or}
use Rattle.std.proofs.lemmas.List.{append-nil, append_assoc, length-map, map-append}
use Rattle.std.proofs.lemmas.List.Elements.{filter-append}
use Rattle.std.proofs.lemmas.List.Folds.{find-append}
use Rattle.std.proofs.lemmas.Bool.{eqb-true, eq-eqb, ne_eqb}
use Rattle.am_names.proofs.Basics.{or_left, or_right}
use Rattle.am_names.specs.{GroupRow, MemberRow, row_with}
use Rattle.am_names.specs.PeerGroups.{PeerGroups}
use Rattle.am_names.specs.declared.membership.Membership.TheVariants.{InGroup}
use Rattle.am_group.specs.{member_row, group_row, master_in, slave_in, group_of, master_of_group, master_where, master_of, PropagatesTo, PropagatesBy, Receives, is_just, with_group, all_added, has_receiver, receiving_groups, stand_in, copy_row, copies_from, group_copies, copied, IsGroup, IsSound}
use Rattle.am_group.proofs.ScanLemmas.{has, has-from_filter}

-- with a fresh group all that was there is found as before
module _ (s : PeerGroups) (sound : IsSound s) (master : Option ℕ) where
  abbrev with_fresh : PeerGroups
  with_fresh = with_group master s

  groups_or : (h : ℕ) → group_row (with_group master s).groups h ≡ option_or (group_row s.groups h) (group_row ((record { group = s.last_group + 1; master = master }) ∷ []) h)
  groups_or h = find-append (λ (r : GroupRow). r.group == h) s.groups ((record { group = s.last_group + 1; master = master }) ∷ [])

  keeps_old : (o p : Option GroupRow) → is_some o ≡ true → option_or o p ≡ o
  keeps_old None p e = absurd cc
  keeps_old (Some r) p e = refl

  old_master : (h : ℕ) → IsGroup s h → master_of_group (with_group master s) h ≡ master_of_group s h
  old_master h e = ap master_in (groups_or h ∙ keeps_old (group_row s.groups h) _ e)

  pub fresh_there : IsGroup (with_group master s) (s.last_group + 1)
  fresh_there = ap is_some (groups_or (s.last_group + 1)) ∙ some_or (group_row s.groups (s.last_group + 1)) _ (rw (eq-eqb (s.last_group + 1) (s.last_group + 1) refl) refl)
    where
      some_or : (o p : Option GroupRow) → is_some p ≡ true → is_some (option_or o p) ≡ true
      some_or None p e = e
      some_or (Some r) p e = refl

  same_master : (c : ℕ) → master_of (with_group master s) c ≡ master_of s c
  same_master c = go (group_of s c) refl
    where
      go : (o : Option ℕ) → group_of s c ≡ o → master_where (with_group master s) o (slave_in (member_row s.members c)) ≡ master_where s o (slave_in (member_row s.members c))
      go (Some g) e = old_master g (sound.orderly.group_named c g e)
      go None e = refl

  step_there : (b c : ℕ) → PropagatesTo s b c → PropagatesTo (with_group master s) b c
  step_there b c p = (p.0, p.1, ⊎_elim (λ same. inl same) (λ up. inr (same_master c ∙ up)) p.2)

  step_back : (b c : ℕ) → PropagatesTo (with_group master s) b c → PropagatesTo s b c
  step_back b c p = (p.0, p.1, ⊎_elim (λ same. inl same) (λ up. inr (sym (same_master c) ∙ up)) p.2)

  way_there : (way : List ℕ) (b c : ℕ) → PropagatesBy s way b c → PropagatesBy (with_group master s) way b c
  way_there [] b c p = step_there b c p
  way_there (n ∷ way) b c p = (step_there b n p.0, way_there way n c p.1)

  way_back : (way : List ℕ) (b c : ℕ) → PropagatesBy (with_group master s) way b c → PropagatesBy s way b c
  way_back [] b c p = step_back b c p
  way_back (n ∷ way) b c p = (step_back b n p.0, way_back way n c p.1)

  pub same_receivers : (b c : ℕ) → Receives s b c ↔ Receives (with_group master s) b c
  same_receivers b c = (
    λ r. record { is_other = r.is_other; way = r.way; arrives = way_there r.way b c r.arrives },
    λ r. record { is_other = r.is_other; way = r.way; arrives = way_back r.way b c r.arrives },
  )

  -- nobody is in the fresh group
  none_in : (receivers : List ℕ) → has_receiver s receivers (s.last_group + 1) ≡ false
  none_in [] = refl
  none_in (r ∷ receivers) = go (group_of s r) refl (none_in receivers)
    where
      go : (o : Option ℕ) → group_of s r ≡ o → has_receiver s receivers (s.last_group + 1) ≡ false → (is_just (s.last_group + 1) o || has_receiver s receivers (s.last_group + 1)) ≡ false
      go None e ih = ih
      go (Some g) e ih =
          let le : g ≤ s.last_group = sound.orderly.fresh g (sound.orderly.group_named r g e) in
          rw (ne_eqb g (s.last_group + 1) (λ same. omega arith)) ih

  same_groups : (receivers : List ℕ) (own : ℕ) → receiving_groups (with_group master s) receivers own ≡ receiving_groups s receivers own
  same_groups receivers own =
      ap (filter test) (map-append (λ (r : GroupRow). r.group) s.groups ((record { group = s.last_group + 1; master = master }) ∷ [])) ∙
      filter-append test (map (λ (r : GroupRow). r.group) s.groups) ((s.last_group + 1) ∷ []) ∙
      ap (λ (xs : List ℕ). filter test (map (λ (r : GroupRow). r.group) s.groups) ++ xs) (last_out (not ((s.last_group + 1) == own)) (none_in receivers)) ∙
      append-nil _
    where
      test : ℕ → Bool
      test = λ g. not (g == own) && has_receiver s receivers g

      last_out : (b : Bool) → has_receiver s receivers (s.last_group + 1) ≡ false → cond (b && has_receiver s receivers (s.last_group + 1)) ((s.last_group + 1) ∷ []) [] ≡ []
      last_out true e = rw e refl
      last_out false e = refl

  same_copies : (stand : ℕ → ℕ) (number : ℕ) (receivers : List ℕ) → copies_from stand (with_group master s) number receivers ≡ copies_from stand s number receivers
  same_copies stand number [] = refl
  same_copies stand number (r ∷ receivers) = ap (λ (xs : List MemberRow). copy_row stand number (group_of s r) (slave_in (member_row s.members r)) ∷ xs) (same_copies stand (number + 1) receivers)

  abbrev copy_by : (ℕ → ℕ) → ℕ → GroupRow
  copy_by stand g = record { group = stand g; master = option_map stand (master_of_group s g) }

  named_there : (rows : List GroupRow) (g : ℕ) → has g (map (λ (r : GroupRow). r.group) rows) ≡ true → is_some (group_row rows g) ≡ true
  named_there [] g e = absurd cc
  named_there (r ∷ rows) g e = go (eqb g r.group) refl e (named_there rows g)
    where
      or_some : (b : Bool) → is_some (group_row rows g) ≡ true → is_some (cond b (Some r) (group_row rows g)) ≡ true
      or_some true k = refl
      or_some false k = k

      go : (b : Bool) → eqb g r.group ≡ b → (b || has g (map (λ (x : GroupRow). x.group) rows)) ≡ true → (has g (map (λ (x : GroupRow). x.group) rows) ≡ true → is_some (group_row rows g) ≡ true) → is_some (group_row (r ∷ rows) g) ≡ true
      go true f e ih = rw (eq-eqb r.group g (sym (eqb-true g r.group f))) refl
      go false f e ih = or_some (r.group == g) (ih e)

  same_group_copies : (stand : ℕ → ℕ) (groups : List ℕ) → ((g : ℕ) → has g groups ≡ true → IsGroup s g) → group_copies stand (with_group master s) groups ≡ group_copies stand s groups
  same_group_copies stand [] there = refl
  same_group_copies stand (g ∷ groups) there =
      rw (old_master g (there g (or_left (eqb g g) (has g groups) (eq-eqb g g refl)))) (ap (λ (xs : List GroupRow). copy_by stand g ∷ xs) (same_group_copies stand groups (λ h e. there h (or_right (eqb h g) (has h groups) e))))

  receiving_there : (receivers : List ℕ) (own g : ℕ) → has g (receiving_groups s receivers own) ≡ true → IsGroup s g
  receiving_there receivers own g e = named_there s.groups g (has-from_filter (λ x. not (x == own) && has_receiver s receivers x) (map (λ (r : GroupRow). r.group) s.groups) g e).0

  abbrev state_with : List MemberRow → List GroupRow → ℕ → PeerGroups
  state_with members groups last = record { members = members; groups = groups; last_group = last }

  state_of_parts : (members members' : List MemberRow) (groups groups' : List GroupRow) (last last' : ℕ) → members ≡ members' → groups ≡ groups' → last ≡ last' → state_with members groups last ≡ state_with members' groups' last'
  state_of_parts members members' groups groups' last last' a b d = rw (a, b, d) refl

  -- so both can be added at once
  pub copied_at_once : (own number : ℕ) (receivers : List ℕ) →
      copied own receivers number (s.last_group + 1) (with_group master s) ≡
      all_added
      (row_with (InGroup (s.last_group + 1)) number ∷ copies_from (stand_in own (s.last_group + 1) (s.last_group + 1) (receiving_groups s receivers own)) s (number + 1) receivers)
      ((record { group = s.last_group + 1; master = master }) ∷ [] ++ group_copies (stand_in own (s.last_group + 1) (s.last_group + 1) (receiving_groups s receivers own)) s (receiving_groups s receivers own))
      s
  copied_at_once own number receivers =
      rw (same_groups receivers own, same_copies, same_group_copies (stand_in own (s.last_group + 1) (s.last_group + 1) (receiving_groups s receivers own)) (receiving_groups s receivers own) (receiving_there receivers own))
      (state_of_parts _ _ _ _ _ _ refl
      (append_assoc s.groups ((record { group = s.last_group + 1; master = master }) ∷ []) _)
      (rw (length-map (receiving_groups s receivers own) (copy_by (stand_in own (s.last_group + 1) (s.last_group + 1) (receiving_groups s receivers own)))) (omega arith)))
