-- Peer groups that are lost, each with the first master up its chain that isn't.
use Rattle.std.proofs.Common.{◌≡◌, ◌<◌, ℕ, zero, suc, Bool, true, false, cond, not, ◌&&◌, ◌||◌, List, [], ◌∷◌, length, get_or, Option, Some, None, refl, sym, ap, ◌∙◌, arith}
use Rattle.std.specs.Prelude.{map, filter, find, ◌==◌}
use Rattle.std.specs.List.{list_all}
use Rattle.std.proofs.lemmas.Bool.{eqb-true, eq-eqb}
use Rattle.am_names.proofs.Basics.{equal_either_way, or_left, or_right}
use Rattle.am_names.specs.{GroupRow, MemberRow, is_among}
use Rattle.am_names.specs.PeerGroups.{PeerGroups}
use Rattle.am_group.specs.{AreLifts, AreLost, cleared, group_numbers, is_kept, is_one_of, is_other_than, lift_group, lift_in, lift_member, lift_of, lifted, lifted_group, lifted_member, master_of_group, settled, up, up_within, with_only, without, without_groups}
use Rattle.am_group.proofs.LiftLemmas.{lifted_here, same_state}
use Rattle.am_group.proofs.LostLemmas.{stays_is}
use Rattle.am_group.proofs.SettleLemmas.{lifted_stays}

-- each group's own
at_each :
    (P : GroupRow → Type 0) (f : ℕ → GroupRow) (gs : List ℕ) → ((g : ℕ) → is_among gs g ≡ true → P (f g)) →
    (i : ℕ) (d : GroupRow) → i < length (map f gs) → P (get_or (map f gs) i d)
at_each P f [] all i d within = absurd (omega arith)
at_each P f (g ∷ gs) all zero d within = all g (or_left (g == g) (is_among gs g) (eq-eqb g g refl))
at_each P f (g ∷ gs) all (suc i) d within =
    at_each P f gs (λ h e. all h (or_right (g == h) (is_among gs h) e)) i d (omega arith)

module _ (lost : List ℕ) (s : PeerGroups) where
  abbrev rest : ℕ → Bool
  rest = is_other_than lost

  abbrev lifts : List GroupRow
  lifts = map (lift_of lost s) lost

  numbers_of : (gs : List ℕ) → group_numbers (map (lift_of lost s) gs) ≡ gs
  numbers_of [] = refl
  numbers_of (g ∷ gs) = ap (λ (xs : List ℕ). g ∷ xs) (numbers_of gs)

  given : (gs : List ℕ) (h : ℕ) → is_among gs h ≡ true → lift_in (map (lift_of lost s) gs) (Some h) ≡ lifted rest s (Some h)
  given [] h there = absurd cc
  given (g ∷ gs) h there = go (g == h) refl there (given gs h)
    where
      go :
          (b : Bool) → (g == h) ≡ b → (b || is_among gs h) ≡ true →
          (is_among gs h ≡ true → lift_in (map (lift_of lost s) gs) (Some h) ≡ lifted rest s (Some h)) →
          cond (h == g) (lifted rest s (Some g)) (lift_in (map (lift_of lost s) gs) (Some h)) ≡ lifted rest s (Some h)
      go true e there ih =
          ap (λ (b : Bool). cond b (lifted rest s (Some g)) (lift_in (map (lift_of lost s) gs) (Some h))) (equal_either_way h g ∙ e) ∙
          ap (λ (n : ℕ). lifted rest s (Some n)) (eqb-true g h e)
      go false e there ih =
          ap (λ (b : Bool). cond b (lifted rest s (Some g)) (lift_in (map (lift_of lost s) gs) (Some h))) (equal_either_way h g ∙ e) ∙
          ih there

  not_given : (gs : List ℕ) (h : ℕ) → is_among gs h ≡ false → lift_in (map (lift_of lost s) gs) (Some h) ≡ Some h
  not_given [] h none = refl
  not_given (g ∷ gs) h none = go (g == h) refl none (not_given gs h)
    where
      go :
          (b : Bool) → (g == h) ≡ b → (b || is_among gs h) ≡ false →
          (is_among gs h ≡ false → lift_in (map (lift_of lost s) gs) (Some h) ≡ Some h) →
          cond (h == g) (lifted rest s (Some g)) (lift_in (map (lift_of lost s) gs) (Some h)) ≡ Some h
      go true e none ih = absurd cc
      go false e none ih =
          ap (λ (b : Bool). cond b (lifted rest s (Some g)) (lift_in (map (lift_of lost s) gs) (Some h))) (equal_either_way h g ∙ e) ∙
          ih none

  -- in place of a master that is lost the first that isn't
  pub lift_is : (o : Option ℕ) → lift_in lifts o ≡ lifted rest s o
  lift_is None = none lost
    where
      none : (gs : List ℕ) → lift_in (map (lift_of lost s) gs) None ≡ None
      none [] = refl
      none (g ∷ gs) = none gs
  lift_is (Some h) = go (is_among lost h) refl
    where
      go : (b : Bool) → is_among lost h ≡ b → lift_in lifts (Some h) ≡ lifted rest s (Some h)
      go true e = given lost h e
      go false e = not_given lost h e ∙ sym (lifted_here rest s h (ap not e))

  pub lifts_are : AreLifts lifts
  lifts_are = record {
    clear =
        ap (λ (gs : List ℕ). list_all (λ l. not (is_one_of gs l.master)) lifts) (numbers_of lost) ∙ clear lost;
    same = at_each (λ l. l.master ≡ lift_in lifts (Some l.group)) (lift_of lost s) lost (λ g there. sym (given lost g there));
  }
    where
      own : (g : ℕ) (o : Option ℕ) → lifted rest s (Some g) ≡ o → not (is_one_of lost o) ≡ true
      own g None e = refl
      own g (Some n) e = lifted_stays rest s (Some g) n e

      clear : (gs : List ℕ) → list_all (λ l. not (is_one_of lost l.master)) (map (lift_of lost s) gs) ≡ true
      clear [] = refl
      clear (g ∷ gs) =
          ap (λ (b : Bool). b && list_all (λ l. not (is_one_of lost l.master)) (map (lift_of lost s) gs)) (own g (lifted rest s (Some g)) refl) ∙
          clear gs

  pub members_lifted : (rows : List MemberRow) → map (lift_member lifts) rows ≡ map (lifted_member rest s) rows
  members_lifted [] = refl
  members_lifted (r ∷ rows) =
      ap (λ (o : Option ℕ). (record r { master = o }) ∷ map (lift_member lifts) rows) (lift_is r.master) ∙
      ap (λ (xs : List MemberRow). lifted_member rest s r ∷ xs) (members_lifted rows)

  pub groups_lifted : (rows : List GroupRow) → map (lift_group lifts) rows ≡ map (lifted_group rest s) rows
  groups_lifted [] = refl
  groups_lifted (r ∷ rows) =
      ap (λ (o : Option ℕ). (record r { master = o }) ∷ map (lift_group lifts) rows) (lift_is r.master) ∙
      ap (λ (xs : List GroupRow). lifted_group rest s r ∷ xs) (groups_lifted rows)

-- ---- the followers are lifted first, and then the mounts and the groups go

find_same : (p q : ℕ → Bool) → ((n : ℕ) → p n ≡ q n) → (xs : List ℕ) → find p xs ≡ find q xs
find_same p q same [] = refl
find_same p q same (x ∷ xs) =
    ap (λ (b : Bool). cond b (Some x) (find p xs)) (same x) ∙ ap (λ (o : Option ℕ). cond (q x) (Some x) o) (find_same p q same xs)

-- the chains of masters are those of the peer groups alone
pub up_by_groups : (s t : PeerGroups) → ((g : ℕ) → master_of_group s g ≡ master_of_group t g) → (o : Option ℕ) → up s o ≡ up t o
up_by_groups s t same None = refl
up_by_groups s t same (Some g) = within (suc g) (Some g)
  where
    within : (k : ℕ) (o : Option ℕ) → up_within k s o ≡ up_within k t o
    within zero o = refl
    within (suc k) None = refl
    within (suc k) (Some h) =
        ap (λ (xs : List ℕ). h ∷ xs) (within k (master_of_group s h) ∙ ap (up_within k t) (same h))

module _ (gone : ℕ → Bool) (s : PeerGroups) (lost : List ℕ) (are_lost : AreLost s.members (filter (λ row. not (gone row.mount)) s.members) lost) where
  abbrev raw : PeerGroups
  raw = with_only (λ m. not (gone m)) s

  abbrev stays : ℕ → Bool
  stays = is_kept s.members raw.members

  same_lift : (o : Option ℕ) → lifted (is_other_than lost) s o ≡ lifted stays raw o
  same_lift o =
      ap (find (is_other_than lost)) (up_by_groups s raw (λ g. refl) o) ∙
      find_same (is_other_than lost) stays (λ n. sym (stays_is s.members raw lost are_lost n)) (up raw o)

  members_left :
      (rows : List MemberRow) →
      filter (λ row. not (gone row.mount)) (map (lifted_member (is_other_than lost) s) rows) ≡
      map (lifted_member stays raw) (filter (λ row. not (gone row.mount)) rows)
  members_left [] = refl
  members_left (r ∷ rows) = go (not (gone r.mount)) (members_left rows)
    where
      these : List MemberRow
      these = filter (λ row. not (gone row.mount)) (map (lifted_member (is_other_than lost) s) rows)

      those : List MemberRow
      those = filter (λ row. not (gone row.mount)) rows

      go :
          (b : Bool) → these ≡ map (lifted_member stays raw) those →
          cond b (lifted_member (is_other_than lost) s r ∷ these) these ≡ map (lifted_member stays raw) (cond b (r ∷ those) those)
      go true ih =
          ap (λ (o : Option ℕ). (record r { master = o }) ∷ these) (same_lift r.master) ∙
          ap (λ (xs : List MemberRow). lifted_member stays raw r ∷ xs) ih
      go false ih = ih

  groups_left :
      (rows : List GroupRow) →
      filter (λ row. not (is_among lost row.group)) (map (lifted_group (is_other_than lost) s) rows) ≡
      filter (λ row. stays row.group) (map (lifted_group stays raw) rows)
  groups_left [] = refl
  groups_left (r ∷ rows) =
      ap (λ (b : Bool). cond b (lifted_group (is_other_than lost) s r ∷ these) these) (sym (stays_is s.members raw lost are_lost r.group)) ∙
      ap (λ (o : Option ℕ). cond (stays r.group) ((record r { master = o }) ∷ these) these) (same_lift r.master) ∙
      ap (λ (xs : List GroupRow). cond (stays r.group) (lifted_group stays raw r ∷ xs) xs) (groups_left rows)
    where
      these : List GroupRow
      these = filter (λ row. not (is_among lost row.group)) (map (lifted_group (is_other_than lost) s) rows)

  pub lifted_left :
      without_groups lost (with_only (λ m. not (gone m)) (settled (is_other_than lost) s)) ≡ without gone s
  lifted_left =
      same_state (cleared stays (settled stays raw))
      (filter (λ row. not (gone row.mount)) (map (lifted_member (is_other_than lost) s) s.members))
      (filter (λ row. not (is_among lost row.group)) (map (lifted_group (is_other_than lost) s) s.groups)) s.last_group
      (members_left s.members) (groups_left s.groups) refl
