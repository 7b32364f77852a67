-- The peer groups under another, and the mounts whose home they are.
use Rattle.std.proofs.Common.{◌≡◌, ◌<◌, ◌↔◌, ℕ, suc, Bool, true, false, cond, ◌||◌, ◌&&◌, List, [], ◌∷◌, length, get_or, Option, Some, None, refl, sym, ap, subst, inl, ◌∙◌, arith}
use Rattle.std.specs.Prelude.{filter, take_while, not, is_some, ◌==◌}
use Rattle.std.specs.List.{Contains}
use Rattle.std.specs.List.Sorted.{IsStrictlyIncreasing}
use Rattle.std.specs.Option.{option_or}
use Rattle.std.proofs.lemmas.Bool.{eqb-true, and_parts}
use Rattle.std.proofs.lemmas.List.Kept.{IsStrictlyIncreasing-filter}
use Rattle.am_names.proofs.Basics.{or_left}
use Rattle.am_names.specs.{MemberRow, GroupRow, is_among}
use Rattle.am_names.specs.PeerGroups.{PeerGroups}
use Rattle.am_group.specs.{member_row, group_row, group_in, slave_in, group_of, master_of_group, Receives, has_members, up_within, has_receiver, receiving_groups, IsGroup, IsOrderly, numbers, is_one_of, home_group, peopled_up, is_under, receives, receivers_of, home_in, is_at_or_under, group_numbers, groups_under, under_these}
use Rattle.am_group.proofs.FindLemmas.{found_at}
use Rattle.am_group.proofs.LiftLemmas.{up_master}
use Rattle.am_group.proofs.ScanLemmas.{has, has-filter, has-from_filter, has_number, numbers_rise}
use Rattle.am_group.proofs.ReceiverLemmas.{among_step, under_test, receives_test, receives_found, has_from_Contains, Contains_from_has}

-- of rows that are kept by their number it is among them where it stands and passes
kept_among :
    (p : ℕ → Bool) (rows : List GroupRow) (n : ℕ) → is_some (group_row rows n) ≡ true →
    is_among (group_numbers (filter (λ row. p row.group) rows)) n ≡ p n
kept_among p rows n e = all rows ∙ rw e refl
  where
    all : (rows : List GroupRow) → is_among (group_numbers (filter (λ row. p row.group) rows)) n ≡ (is_some (group_row rows n) && p n)
    all [] = refl
    all (r ∷ rows) = go (p r.group) (r.group == n) refl refl (all rows)
      where
        or_self : (a : Bool) → (a && true) ≡ a
        or_self true = refl
        or_self false = refl

        go :
            (a b : Bool) → p r.group ≡ a → (r.group == n) ≡ b →
            is_among (group_numbers (filter (λ row. p row.group) rows)) n ≡ (is_some (group_row rows n) && p n) →
            is_among (group_numbers (cond a (r ∷ filter (λ row. p row.group) rows) (filter (λ row. p row.group) rows))) n ≡
            (is_some (cond b (Some r) (group_row rows n)) && p n)
        go true true e f ih =
            let here : p n ≡ true = subst (λ (x : ℕ). p x ≡ true) (eqb-true r.group n f) e in
            or_left (r.group == n) _ f ∙ sym here
        go true false e f ih = rw f ih
        go false true e f ih =
            let here : p n ≡ false = subst (λ (x : ℕ). p x ≡ false) (eqb-true r.group n f) e in
            rw (here) (ih ∙ rw here (and_none (is_some (group_row rows n))))
          where
            and_none : (a : Bool) → (a && false) ≡ false
            and_none true = refl
            and_none false = refl
        go false false e f ih = ih

-- a chain as far as its groups have members: that of its start, and of the start's master
pub up_step : (s : PeerGroups) → IsOrderly s → (own g : ℕ) → is_at_or_under s own g ≡ ((g == own || is_among (peopled_up s (master_of_group s g)) own) && has_members s.members g)
up_step s orderly own g =
    among_step (has_members s.members) own g (up_within g s (master_of_group s g)) ∙
    ap (λ (xs : List ℕ). has_members s.members g && (g == own || is_among (take_while (has_members s.members) xs) own)) (up_master s orderly g) ∙
    swap (has_members s.members g) (g == own || is_among (peopled_up s (master_of_group s g)) own)
  where
    swap : (a b : Bool) → (a && b) ≡ (b && a)
    swap true true = refl
    swap true false = refl
    swap false true = refl
    swap false false = refl

-- a group that stands is under where it passes, and so is none
under_among :
    (s : PeerGroups) (own : ℕ) (rows : List GroupRow) (o : Option ℕ) →
    ((n : ℕ) → o ≡ Some n → is_some (group_row rows n) ≡ true) →
    is_one_of (group_numbers (filter (λ row. is_at_or_under s own row.group) rows)) o ≡ is_among (peopled_up s o) own
under_among s own rows None there = refl
under_among s own rows (Some n) there = kept_among (is_at_or_under s own) rows n (there n refl)

-- ---- one look over the mounts

module _ (s : PeerGroups) (orderly : IsOrderly s) (b own : ℕ) (in_own : group_of s b ≡ Some own) where
  home_named : (row : MemberRow) → member_row s.members row.mount ≡ Some row → (n : ℕ) → home_in row ≡ Some n → IsGroup s n
  home_named row found n e = go row.group refl e
    where
      go : (o : Option ℕ) → row.group ≡ o → option_or o row.master ≡ Some n → IsGroup s n
      go (Some g) f e = orderly.group_named row.mount n (ap group_in found ∙ f ∙ e)
      go None f e = orderly.master_named n (inl (row.mount, ap slave_in found ∙ e))

  mount_test :
      (row : MemberRow) → member_row s.members row.mount ≡ Some row →
      (not (row.mount == b) && is_one_of (groups_under s own) (home_in row)) ≡ receives s b row.mount
  mount_test row found =
      let home : home_group s row.mount ≡ home_in row = ap (λ (o : Option MemberRow). option_or (group_in o) (slave_in o)) found in
      ap (λ (x : Bool). not (row.mount == b) && x)
      (under_among s own s.groups (home_in row) (home_named row found) ∙
      ap (λ (o : Option ℕ). is_among (peopled_up s o) own) (sym home) ∙
      ap (λ (o : Option ℕ). is_under s o row.mount) (sym in_own))

  rows_test :
      (rows : List MemberRow) →
      ((i : ℕ) (d : MemberRow) → i < length rows → member_row s.members (get_or rows i d).mount ≡ Some (get_or rows i d)) →
      under_these (groups_under s own) b rows ≡ filter (receives s b) (numbers rows)
  rows_test [] found = refl
  rows_test (row ∷ rows) found =
      rw (mount_test row (found 0 row (omega arith)))
      (go (receives s b row.mount) (rows_test rows (λ i d within. found (suc i) d (omega arith))))
    where
      go :
          (t : Bool) → under_these (groups_under s own) b rows ≡ filter (receives s b) (numbers rows) →
          numbers (cond t (row ∷ filter (λ r. not (r.mount == b) && is_one_of (groups_under s own) (home_in r)) rows)
          (filter (λ r. not (r.mount == b) && is_one_of (groups_under s own) (home_in r)) rows)) ≡
          cond t (row.mount ∷ filter (receives s b) (numbers rows)) (filter (receives s b) (numbers rows))
      go true ih = ap (λ (xs : List ℕ). row.mount ∷ xs) ih
      go false ih = ih

  pub homed_listed : under_these (groups_under s own) b s.members ≡ receivers_of s b
  homed_listed =
      rows_test s.members
      (λ i d within. found_at (λ (row : MemberRow). row.mount) 0 s.members orderly.rising i (get_or s.members i d).mount d within refl)

-- ---- the list of receivers

pub has_home : (s : PeerGroups) (c m : ℕ) → home_group s c ≡ Some m → has c (numbers s.members) ≡ true
has_home s c m e = go (member_row s.members c) refl e
  where
    go :
        (o : Option MemberRow) → member_row s.members c ≡ o →
        option_or (group_in o) (slave_in o) ≡ Some m → has c (numbers s.members) ≡ true
    go (Some r) f e = has_number s.members c r f
    go None f e = absurd cc

pub receivers_exact :
    (s : PeerGroups) → IsOrderly s → (b c : ℕ) → Contains (receivers_of s b) c ↔ Receives s b c
receivers_exact s orderly b c = (
  λ h. receives_test s orderly b c (has-from_filter (receives s b) (numbers s.members) c (has_from_Contains c _ h)).1,
  λ r.
      let passes = receives_found s orderly b c r in
      let both = and_parts (not (c == b)) (is_under s (group_of s b) c) passes in
      Contains_from_has c _ (has-filter (receives s b) (numbers s.members) c (stands (group_of s b) both.1) passes),
)
  where
    stands : (o : Option ℕ) → is_under s o c ≡ true → has c (numbers s.members) ≡ true
    stands None e = absurd cc
    stands (Some g) e = let up = under_test s orderly (home_group s c) g e in has_home s c up.0 up.1

pub receivers_rise : (s : PeerGroups) → IsOrderly s → (b : ℕ) → IsStrictlyIncreasing (receivers_of s b)
receivers_rise s orderly b =
    IsStrictlyIncreasing-filter (receives s b) (numbers s.members)
    (numbers_rise (λ (r : MemberRow). r.mount) 0 s.members orderly.rising)

-- the groups for which a mount makes fresh ones rise too
pub receiving_rise :
    (s : PeerGroups) → IsOrderly s → (receivers : List ℕ) (own : ℕ) →
    IsStrictlyIncreasing (receiving_groups s receivers own)
receiving_rise s orderly receivers own =
    IsStrictlyIncreasing-filter (λ g. not (g == own) && has_receiver s receivers g) (group_numbers s.groups)
    (numbers_rise (λ (r : GroupRow). r.group) 0 s.groups orderly.groups_rising)
