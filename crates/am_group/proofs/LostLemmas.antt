-- Peer groups that lose their last member, where no master of what stays is one of them.
use Rattle.std.proofs.Common.{◌≡◌, ◌≤◌, ◌<◌, ◌+◌, ℕ, Bool, true, false, cond, ◌||◌, ◌&&◌, List, [], ◌∷◌, length, Option, Some, None, refl, sym, ap, ◌∙◌, arith}
use Rattle.std.specs.Prelude.{map, filter, not, ◌==◌}
use Rattle.std.proofs.lemmas.Bool.{eqb-true, eq-eqb, ne_eqb, and_from}
use Rattle.std.specs.List.{list_all}
use Rattle.am_names.proofs.Basics.{false_where_not, left_of_and, right_of_and, or_assoc}
use Rattle.am_names.specs.{MemberRow, GroupRow, is_among}
use Rattle.am_names.specs.PeerGroups.{PeerGroups}
use Rattle.am_group.specs.{is_just, has_members, is_kept, lifted, lifted_member, lifted_group, settled, cleared, with_only, left, without, has_receiver, AreOfReceivers, RiseFrom, member_row, group_in, group_of, is_one_of, AreLive, AreLost, is_free_group, is_free_member, is_free_of, without_groups}
use Rattle.am_group.proofs.LiftLemmas.{lifted_here, same_state}

or_swap : (a b c : Bool) → (a || (b || c)) ≡ (b || (a || c))
or_swap true true c = refl
or_swap true false c = refl
or_swap false b c = refl

-- of the members those that a test keeps and the others
pub has_split :
    (gone : ℕ → Bool) (rows : List MemberRow) (g : ℕ) →
    has_members rows g ≡
    (has_members (filter (λ row. not (gone row.mount)) rows) g || has_members (filter (λ row. gone row.mount) rows) g)
has_split gone [] g = refl
has_split gone (r ∷ rows) g = go (gone r.mount) (has_split gone rows g)
  where
    stay : List MemberRow
    stay = filter (λ row. not (gone row.mount)) rows

    leave : List MemberRow
    leave = filter (λ row. gone row.mount) rows

    go :
        (b : Bool) → has_members rows g ≡ (has_members stay g || has_members leave g) →
        (is_just g r.group || has_members rows g) ≡
        (has_members (cond (not b) (r ∷ stay) stay) g || has_members (cond b (r ∷ leave) leave) g)
    go true ih =
        ap (λ (x : Bool). is_just g r.group || x) ih ∙
        or_swap (is_just g r.group) (has_members stay g) (has_members leave g)
    go false ih =
        ap (λ (x : Bool). is_just g r.group || x) ih ∙
        or_assoc (is_just g r.group) (has_members stay g) (has_members leave g)

module _ (old : List MemberRow) (raw : PeerGroups) (lost : List ℕ) (are_lost : AreLost old raw.members lost) where
  abbrev stays : ℕ → Bool
  stays = is_kept old raw.members

  kept_where : (now had : Bool) → (now || not had) ≡ not (had && not now)
  kept_where true true = refl
  kept_where true false = refl
  kept_where false true = refl
  kept_where false false = refl

  -- a group stays where it isn't lost
  pub stays_is : (g : ℕ) → stays g ≡ not (is_among lost g)
  stays_is g = kept_where (has_members raw.members g) (has_members old g) ∙ ap not (sym (are_lost g))

  -- a master that isn't lost is not lifted
  pub master_stays : (o : Option ℕ) → is_one_of lost o ≡ false → lifted stays raw o ≡ o
  master_stays None free = refl
  master_stays (Some g) free = lifted_here stays raw g (stays_is g ∙ ap not free)

  members_stay :
      (rows : List MemberRow) → list_all (λ row. not (is_one_of lost row.master)) rows ≡ true →
      rows ≡ map (lifted_member stays raw) rows
  members_stay [] free = refl
  members_stay (r ∷ rows) free =
      let here = false_where_not (is_one_of lost r.master) (left_of_and _ _ free) in
      ap (λ (o : Option ℕ). (record r { master = o }) ∷ rows) (sym (master_stays r.master here)) ∙
      ap (λ (xs : List MemberRow). lifted_member stays raw r ∷ xs) (members_stay rows (right_of_and _ _ free))

  pub groups_stay :
      (rows : List GroupRow) → list_all (is_free_group lost) rows ≡ true →
      filter (λ row. not (is_among lost row.group)) rows ≡
      filter (λ row. stays row.group) (map (lifted_group stays raw) rows)
  groups_stay [] free = refl
  groups_stay (r ∷ rows) free =
      go (is_among lost r.group) refl (stays_is r.group) (left_of_and _ _ free) (groups_stay rows (right_of_and _ _ free))
    where
      these : List GroupRow
      these = filter (λ row. not (is_among lost row.group)) rows

      those : List GroupRow
      those = filter (λ row. stays row.group) (map (lifted_group stays raw) rows)

      go :
          (b : Bool) → is_among lost r.group ≡ b → stays r.group ≡ not (is_among lost r.group) →
          (is_among lost r.group || not (is_one_of lost r.master)) ≡ true → these ≡ those →
          cond (not (is_among lost r.group)) (r ∷ these) these ≡
          cond (stays r.group) (lifted_group stays raw r ∷ those) those
      go true e kept free ih = rw (kept, e) ih
      go false e kept free ih =
          let here = false_where_not (is_one_of lost r.master) (rw e at free) in
          rw (kept, e)
          (ap (λ (o : Option ℕ). (record r { master = o }) ∷ these) (sym (master_stays r.master here)) ∙
          ap (λ (xs : List GroupRow). lifted_group stays raw r ∷ xs) ih)

  -- where nothing that stays has a lost master, the lost groups go, and that is all
  pub free_left : (s : PeerGroups) → s.members ≡ old → is_free_of lost raw ≡ true → without_groups lost raw ≡ left s raw
  free_left s is free =
      rw (is)
      (same_state (cleared stays (settled stays raw)) raw.members (without_groups lost raw).groups raw.last_group
      (members_stay raw.members (left_of_and _ _ free)) (groups_stay raw.groups (right_of_and _ _ free)) refl)

-- ---- the peer groups of mounts that go

or_left_of : (a b : Bool) → b ≡ false → (a || b) ≡ a
or_left_of true b e = refl
or_left_of false b e = e

-- of the members those that pass one test or the other
has_either :
    (p q : MemberRow → Bool) (rows : List MemberRow) (g : ℕ) →
    has_members (filter (λ row. p row || q row) rows) g ≡ (has_members (filter p rows) g || has_members (filter q rows) g)
has_either p q [] g = refl
has_either p q (r ∷ rows) g = go (p r) (q r) (has_either p q rows g)
  where
    ps : List MemberRow
    ps = filter p rows

    qs : List MemberRow
    qs = filter q rows

    both : List MemberRow
    both = filter (λ row. p row || q row) rows

    twice : (a b c : Bool) → (a || (b || c)) ≡ ((a || b) || (a || c))
    twice true b c = refl
    twice false b c = refl

    go :
        (a b : Bool) → has_members both g ≡ (has_members ps g || has_members qs g) →
        has_members (cond (a || b) (r ∷ both) both) g ≡ (has_members (cond a (r ∷ ps) ps) g || has_members (cond b (r ∷ qs) qs) g)
    go true true ih = ap (λ (x : Bool). is_just g r.group || x) ih ∙ twice (is_just g r.group) (has_members ps g) (has_members qs g)
    go true false ih = ap (λ (x : Bool). is_just g r.group || x) ih ∙ or_assoc (is_just g r.group) (has_members ps g) (has_members qs g)
    go false true ih = ap (λ (x : Bool). is_just g r.group || x) ih ∙ or_swap (is_just g r.group) (has_members ps g) (has_members qs g)
    go false false ih = ih

none_pass : (rows : List MemberRow) (g : ℕ) → has_members (filter (λ row. is_among [] row.mount) rows) g ≡ false
none_pass [] g = refl
none_pass (r ∷ rows) g = none_pass rows g

none_above :
    (low x : ℕ) (rows : List MemberRow) → RiseFrom low rows → x < low → (g : ℕ) →
    has_members (filter (λ row. x == row.mount) rows) g ≡ false
none_above low x [] rises below g = refl
none_above low x (r ∷ rows) rises below g =
    let first : low ≤ r.mount = rises.0 in
    rw (ne_eqb x r.mount (λ same. omega arith)) (none_above (r.mount + 1) x rows rises.1 (omega arith) g)

-- a mount's row alone has its peer group
has_own :
    (low x : ℕ) (rows : List MemberRow) → RiseFrom low rows → (g : ℕ) →
    has_members (filter (λ row. x == row.mount) rows) g ≡ is_just g (group_in (member_row rows x))
has_own low x [] rises g = refl
has_own low x (r ∷ rows) rises g = go (x == r.mount) refl (has_own (r.mount + 1) x rows rises.1 g)
  where
    these : List MemberRow
    these = filter (λ row. x == row.mount) rows

    go :
        (b : Bool) → (x == r.mount) ≡ b → has_members these g ≡ is_just g (group_in (member_row rows x)) →
        has_members (cond b (r ∷ these) these) g ≡ is_just g (group_in (member_row (r ∷ rows) x))
    go true e ih =
        let same : x ≡ r.mount = eqb-true x r.mount e in
        rw (eq-eqb r.mount x (sym same))
        (or_left_of (is_just g r.group) (has_members these g) (none_above (r.mount + 1) x rows rises.1 (omega arith) g))
    go false e ih = rw (ne_eqb r.mount x (λ same. let bad : true ≡ false = sym (eq-eqb x r.mount (sym same)) ∙ e in cc)) ih

pub groups_that_go :
    (s : PeerGroups) → RiseFrom 0 s.members → (gone groups : List ℕ) → AreOfReceivers s gone groups →
    AreLive (filter (λ row. is_among gone row.mount) s.members) groups
groups_that_go s rises gone groups are g = are g ∙ all gone
  where
    all : (xs : List ℕ) → has_receiver s xs g ≡ has_members (filter (λ row. is_among xs row.mount) s.members) g
    all [] = sym (none_pass s.members g)
    all (x ∷ xs) =
        ap (λ (b : Bool). is_just g (group_of s x) || b) (all xs) ∙
        ap (λ (b : Bool). b || has_members (filter (λ row. is_among xs row.mount) s.members) g) (sym (has_own 0 x s.members rises g)) ∙
        sym (has_either (λ row. x == row.mount) (λ row. is_among xs row.mount) s.members g)

-- ---- no master is lost

none_lost : (o : Option ℕ) → is_one_of [] o ≡ false
none_lost None = refl
none_lost (Some g) = refl

pub free_of_none : (s : PeerGroups) → is_free_of [] s ≡ true
free_of_none s = rw (members s.members, groups s.groups) refl
  where
    members : (rows : List MemberRow) → list_all (λ row. not (is_one_of [] row.master)) rows ≡ true
    members [] = refl
    members (r ∷ rows) = rw (none_lost r.master) (members rows)

    groups : (rows : List GroupRow) → list_all (is_free_group []) rows ≡ true
    groups [] = refl
    groups (r ∷ rows) = rw (none_lost r.master) (groups rows)

-- so it is of those that stay, where it is of each that stays
pub free_staying :
    (gone lost : List ℕ) (s : PeerGroups) → list_all (is_free_member gone lost) s.members ≡ true → list_all (is_free_group lost) s.groups ≡ true →
    is_free_of lost (with_only (λ m. not (is_among gone m)) s) ≡ true
free_staying gone lost s members groups = and_from _ _ (staying s.members members) groups
  where
    staying :
        (rows : List MemberRow) → list_all (is_free_member gone lost) rows ≡ true →
        list_all (λ row. not (is_one_of lost row.master)) (filter (λ row. not (is_among gone row.mount)) rows) ≡ true
    staying [] free = refl
    staying (r ∷ rows) free = go (is_among gone r.mount) (left_of_and _ _ free) (staying rows (right_of_and _ _ free))
      where
        these : List MemberRow
        these = filter (λ row. not (is_among gone row.mount)) rows

        go :
            (b : Bool) → (not (is_one_of lost r.master) || b) ≡ true → list_all (λ row. not (is_one_of lost row.master)) these ≡ true →
            list_all (λ row. not (is_one_of lost row.master)) (cond (not b) (r ∷ these) these) ≡ true
        go true own ih = ih
        go false own ih = and_from _ _ (sym (or_left_of (not (is_one_of lost r.master)) false refl) ∙ own) ih

-- the same of a state
pub left_where :
    (gone : ℕ → Bool) (s : PeerGroups) (lost : List ℕ) →
    AreLost s.members (filter (λ row. not (gone row.mount)) s.members) lost → is_free_of lost (with_only (λ m. not (gone m)) s) ≡ true →
    without_groups lost (with_only (λ m. not (gone m)) s) ≡ without gone s
left_where gone s lost are_lost free = free_left s.members (with_only (λ m. not (gone m)) s) lost are_lost s refl free

-- no number
pub none_of_length : (xs : List ℕ) → (length xs == 0) ≡ true → xs ≡ []
none_of_length [] e = refl
none_of_length (x ∷ xs) e = let is : length (x ∷ xs) ≡ 0 = eqb-true (length (x ∷ xs)) 0 e in absurd (omega arith)
