-- The peer groups of a mount and of its copies stand for those of the mounts on which they are.
use Rattle.std.proofs.Common.{◌≡◌, ◌≤◌, ◌<◌, ◌+◌, ◌⊎◌, ◌↔◌, ℕ, Bool, true, false, cond, eqb, ◌&&◌, List, [], ◌∷◌, ◌++◌, Option, Some, None, refl, sym, ap, subst, inl, inr, ⊎_elim, ◌∙◌, arith}
use Rattle.std.specs.Prelude.{map, not, nat_lt, is_some, option_map, ◌==◌}
use Rattle.std.specs.Option.{option_or}
use Rattle.std.proofs.lemmas.List.{append-nil}
use Rattle.std.proofs.lemmas.List.Folds.{find-append}
use Rattle.std.proofs.lemmas.Bool.{eqb-true, eq-eqb, ne_eqb, and_parts, or_cases, ltb-true, ltb-false}
use Rattle.am_names.proofs.Basics.{or_left, or_right, some_injective}
use Rattle.am_names.specs.{GroupRow, MemberRow, Membership, Position, row_with}
use Rattle.am_names.specs.PeerGroups.{PeerGroups}
use Rattle.am_group.specs.{member_row, group_row, slave_in, master_in, group_of, master_of_group, master_where, Receives, is_just, all_added, has_receiver, receiving_groups, rank, copy_row, copies_from, group_copies, IsGroup, receivers_of}
use Rattle.am_names.specs.declared.membership.Membership.TheVariants.{InGroup, SlaveOf, Private, Unbindable}
use Rattle.am_group.proofs.ReceiveLemmas.{home_where, under_from_way}
use Rattle.am_group.proofs.UnderLemmas.{receivers_rise}
use Rattle.am_group.proofs.ScanLemmas.{has, any_has, has-from_filter, just_same}
use Rattle.am_group.proofs.CopyLemmas.{stands_of_receiver, stands_of_slave, stands_above, copy_mount, rank_less}
use Rattle.am_mount.specs.{IsOn}
use Rattle.am_mount.proofs.RowLemmas.{RiseOn}
use Rattle.am_propagate.specs.MountTable.{MountTable}
use Rattle.am_propagate.specs.{is_mount, IsWhole, is_unbindable, new_group, last_fresh, fresh_groups, stands, new_members, new_groups, mounted, HasSource, count_up_to, ComesAs, IsReceiving, IsConcerned, IsReceiversOnly, IsGroupBy, IsAsSource, ComesUnshared, ComesShared, JoinsBy, Joins}
use Rattle.am_propagate.proofs.RemovalLemmas.{some_of, same_there}
use Rattle.am_propagate.proofs.NamespaceLemmas.{count_some}
use Rattle.am_propagate.proofs.SearchLemmas.{rise_all}
use Rattle.am_propagate.proofs.AdditionLemmas.{receiver_exact, in_group}
use Rattle.am_propagate.proofs.NewMountLemmas.{takes_second, none_above, one_each, each_there}
use Rattle.am_propagate.proofs.ReceiverCopyLemmas.{copy_number_is}

copies_each : (stand : ℕ → ℕ) (s : PeerGroups) (number : ℕ) (receivers : List ℕ) →
    copies_from stand s number receivers ≡
    one_each (λ n r. copy_row stand n (group_of s r) (slave_in (member_row s.members r))) number receivers
copies_each stand s number [] = refl
copies_each stand s number (r ∷ receivers) =
    ap (λ (xs : List MemberRow). copy_row stand number (group_of s r) (slave_in (member_row s.members r)) ∷ xs)
    (copies_each stand s (number + 1) receivers)

row_mount : (k : Membership) (n : ℕ) → (row_with k n).mount ≡ n
row_mount (InGroup g) n = refl
row_mount (SlaveOf g) n = refl
row_mount Private n = refl
row_mount Unbindable n = refl

-- groups that stand for others are found by their numbers
module _ (stand : ℕ → ℕ) (s : PeerGroups) where
  abbrev group_by : ℕ → GroupRow
  group_by g = record { group = stand g; master = option_map stand (master_of_group s g) }

  stand_there : (g : ℕ) (gs : List ℕ) → has g gs ≡ true →
      ((h : ℕ) → has h gs ≡ true → stand h ≡ stand g → h ≡ g) →
      group_row (group_copies stand s gs) (stand g) ≡ Some (group_by g)
  stand_there g [] there apart = absurd cc
  stand_there g (x ∷ gs) there apart =
      go (stand x == stand g) refl (or_cases (eqb g x) (has g gs) there)
      (λ h. stand_there g gs h (λ k e. apart k (or_right (eqb k x) (has k gs) e)))
    where
      go : (b : Bool) → (stand x == stand g) ≡ b → (eqb g x ≡ true) ⊎ (has g gs ≡ true) →
          (has g gs ≡ true → group_row (group_copies stand s gs) (stand g) ≡ Some (group_by g)) →
          cond b (Some (group_by x)) (group_row (group_copies stand s gs) (stand g)) ≡
          Some (group_by g)
      go true e found ih =
          ap (λ (y : ℕ). Some (group_by y))
          (apart x (or_left (eqb x x) (has x gs) (eq-eqb x x refl)) (eqb-true (stand x) (stand g) e))
      go false e (inl same) ih =
          let equal : stand x ≡ stand g = ap stand (sym (eqb-true g x same)) in
          absurd (let no : true ≡ false = sym (eq-eqb (stand x) (stand g) equal) ∙ e in cc)
      go false e (inr rest) ih = ih rest

  stand_from : (gs : List ℕ) (h : ℕ) → is_some (group_row (group_copies stand s gs) h) ≡ true →
      (g : ℕ) × (has g gs ≡ true) × (h ≡ stand g)
  stand_from [] h e = absurd cc
  stand_from (x ∷ gs) h e = go (stand x == h) refl e (stand_from gs h)
    where
      go : (b : Bool) → (stand x == h) ≡ b →
          is_some (cond b (Some (group_by x)) (group_row (group_copies stand s gs) h)) ≡ true →
          (is_some (group_row (group_copies stand s gs) h) ≡ true →
          (g : ℕ) × (has g gs ≡ true) × (h ≡ stand g)) →
          (g : ℕ) × (has g (x ∷ gs) ≡ true) × (h ≡ stand g)
      go true f e ih =
          (x, or_left (eqb x x) (has x gs) (eq-eqb x x refl), sym (eqb-true (stand x) h f))
      go false f e ih =
          let rest = ih e in (rest.0, or_right (eqb rest.0 x) (has rest.0 gs) rest.1, rest.2)

module _
    (t : MountTable) (whole : IsWhole t) (at : Position) (fs : ℕ) (membership : Membership)
    (there : is_mount t at.mount ≡ true) (source : HasSource t fs membership)
    (bindable : is_unbindable membership ≡ false) where
  abbrev s : PeerGroups
  s = t.groups

  abbrev b : ℕ
  b = at.mount

  abbrev rs : List ℕ
  rs = receivers_of t.groups at.mount

  abbrev first : ℕ
  first = t.last_mount + 1

  -- the groups, where that of the mount at the position is this one
  abbrev groups_with : Option ℕ → PeerGroups
  groups_with own =
      all_added
      (new_members membership own (receivers_of t.groups at.mount) (t.last_mount + 1) t.groups)
      (new_groups membership own (receivers_of t.groups at.mount) t.groups) t.groups

  abbrev after : Option ℕ → MountTable
  after own = record (mounted at fs membership t) { groups = groups_with own }

  above : (m : ℕ) → is_some (member_row s.members m) ≡ true → m < first
  above m e =
      let row = some_of _ (same_there t whole m ∙ e) in
      let le : m ≤ t.last_mount = (whole.numbered m row.0 row.1).0 in
      omega arith

  no_member : (m : ℕ) → t.last_mount < m → is_some (member_row s.members m) ≡ false
  no_member m up = sym (same_there t whole m) ∙ none_above t whole m up

  no_group : (g : ℕ) → s.last_group < g → is_some (group_row s.groups g) ≡ false
  no_group g up = go (is_some (group_row s.groups g)) refl
    where
      go : (e : Bool) → is_some (group_row s.groups g) ≡ e → e ≡ false
      go false e = refl
      go true e =
          let le : g ≤ t.groups.last_group = whole.sound.orderly.fresh g e in absurd (omega arith)

  -- on a mount that isn't shared
  as_source : (k : Membership) → is_unbindable k ≡ false → IsAsSource k (row_with k first)
  as_source (InGroup g) e = record { in_group = refl; has_no_master = refl; can_be_bound = refl }
  as_source (SlaveOf g) e = record { in_no_group = refl; has_master = refl; can_be_bound = refl }
  as_source Private e = record { in_no_group = refl; has_no_master = refl; can_be_bound = refl }
  as_source Unbindable e = absurd cc

  comes_unshared : ComesUnshared membership first s (groups_with None)
  comes_unshared = record {
    itself = (
      row_with membership first,
      find-append (λ (r : MemberRow). r.mount == first) s.members (row_with membership first ∷ []) ∙
          takes_second (member_row s.members first) _ (no_member first (omega arith)) ∙
          rw (eq-eqb (row_with membership first).mount first (row_mount membership first)) refl,
      as_source membership bindable,
    );
    same_groups = append-nil s.groups;
  }

  -- on one that is
  module _ (own : ℕ) (in_own : group_of t.groups at.mount ≡ Some own) where
    abbrev gs : List ℕ
    gs = receiving_groups t.groups (receivers_of t.groups at.mount) own

    abbrev stand : ℕ → ℕ
    stand = stands membership own (receivers_of t.groups at.mount) t.groups

    abbrev firsts : List GroupRow
    firsts = fresh_groups membership (t.groups.last_group + 1)

    abbrev others : List GroupRow
    others =
        group_copies (stands membership own (receivers_of t.groups at.mount) t.groups) t.groups
        (receiving_groups t.groups (receivers_of t.groups at.mount) own)

    -- the copy on a receiver, with this number
    abbrev copy_on : ℕ → ℕ → MemberRow
    copy_on n r =
        copy_row (stands membership own (receivers_of t.groups at.mount) t.groups) n
        (group_of t.groups r) (slave_in (member_row t.groups.members r))

    abbrev last : ℕ
    last = last_fresh membership t.groups.last_group

    exact : (r : ℕ) → (has r rs ≡ true) ↔ Receives s b r
    exact = receiver_exact t.groups whole.sound at.mount

    own_group : IsGroup s own
    own_group = whole.sound.orderly.group_named b own in_own

    -- the groups that are concerned, by the list
    only_from : (g : ℕ) → has g gs ≡ true → IsReceiversOnly s b g
    only_from g h =
        let tests =
        has-from_filter (λ x. not (x == own) && has_receiver s rs x) (map (λ row. row.group) s.groups) g h
        in
        let both = and_parts (not (g == own)) (has_receiver s rs g) tests.1 in
        let r = any_has (λ x. is_just g (group_of s x)) rs both.1 in
        let other : not (g == own) ≡ true = both.0 in (
          (r.0, (exact r.0).0 r.1, just_same g (group_of s r.0) r.2),
          λ e.
              let bad : not true ≡ true = rw (eq-eqb g own (some_injective (sym e ∙ in_own))) at other in
              absurd cc,
        )

    abbrev is_listed : ℕ → Type 0
    is_listed g = (g ≡ own) ⊎ (has g gs ≡ true)

    listed_receiving : (g : ℕ) → IsReceiving s b g → is_listed g
    listed_receiving g r =
        stands_of_receiver t.groups whole.sound at.mount own in_own rs exact own first own_group above
        r.0 g ((exact r.0).1 r.1) r.2

    listed : (g : ℕ) → IsConcerned s b g → is_listed g
    listed g (inl e) = inl (some_injective (sym e ∙ in_own))
    listed g (inr r) = listed_receiving g r

    concerned_by : (g : ℕ) → is_listed g → IsConcerned s b g
    concerned_by g (inl same) = inl (in_own ∙ ap Some (sym same))
    concerned_by g (inr h) = inr (only_from g h).0

    only_has : (g : ℕ) → IsReceiversOnly s b g → has g gs ≡ true
    only_has g only =
        ⊎_elim (λ same. absurd (only.1 (in_own ∙ ap Some (sym same)))) (λ h. h) (listed_receiving g only.0)

    -- the groups that stand for them
    stand_own : stand own ≡ new_group membership s.last_group
    stand_own = rw (eq-eqb own own refl) refl

    stand_only : (g : ℕ) → has g gs ≡ true → stand g ≡ last + 1 + rank g gs
    stand_only g h =
        rw (ne_eqb g own (λ same. (only_from g h).1 (in_own ∙ ap Some (sym same)))) refl

    new_low : new_group membership s.last_group ≤ last
    new_low = go membership refl
      where
        go : (k : Membership) → membership ≡ k →
            new_group k s.last_group ≤ last_fresh k s.last_group
        go (InGroup g) e =
            let a = in_group t whole at fs membership there source g e in
            let named : IsGroup s g = whole.sound.orderly.group_named a.0 g a.4 in
            let le : g ≤ t.groups.last_group = whole.sound.orderly.fresh g named in
            omega arith
        go (SlaveOf g) e = omega arith
        go Private e = omega arith
        go Unbindable e = omega arith

    last_low : s.last_group ≤ last
    last_low = go membership
      where
        go : (k : Membership) → s.last_group ≤ last_fresh k s.last_group
        go (InGroup g) = omega arith
        go (SlaveOf g) = omega arith
        go Private = omega arith
        go Unbindable = omega arith

    behind_own : (g : ℕ) → has g gs ≡ true → stand own < stand g
    behind_own g h =
        let low : new_group membership s.last_group ≤ last = new_low in
        subst (λ (x : ℕ). x < stand g) (sym stand_own)
        (subst (λ (x : ℕ). new_group membership s.last_group < x) (sym (stand_only g h)) (omega arith))

    stands_rise : (g h : ℕ) → has g gs ≡ true → has h gs ≡ true → g < h → stand g < stand h
    stands_rise g h in_g in_h less =
        let ranks : rank g gs < rank h gs = rank_less g h less gs in_g in
        subst (λ (x : ℕ). x < stand h) (sym (stand_only g in_g))
        (subst (λ (x : ℕ). last + 1 + rank g gs < x) (sym (stand_only h in_h)) (omega arith))

    stands_apart : (g h : ℕ) → has g gs ≡ true → has h gs ≡ true → stand g ≡ stand h → g ≡ h
    stands_apart g h in_g in_h same = go (nat_lt g h) (nat_lt h g) refl refl
      where
        go : (p q : Bool) → nat_lt g h ≡ p → nat_lt h g ≡ q → g ≡ h
        go true q e f =
            let less : stand g < stand h = stands_rise g h in_g in_h (ltb-true g h e) in
            absurd (omega arith)
        go false true e f =
            let less : stand h < stand g = stands_rise h g in_h in_g (ltb-true h g f) in
            absurd (omega arith)
        go false false e f =
            let up : h ≤ g = ltb-false g h e in let down : g ≤ h = ltb-false h g f in omega arith

    stands_injective : (g h : ℕ) → is_listed g → is_listed h → stand g ≡ stand h → g ≡ h
    stands_injective g h (inl e) (inl f) same = e ∙ sym f
    stands_injective g h (inl e) (inr f) same =
        let less : stand own < stand h = behind_own h f in
        let at : stand g ≡ stand own = ap stand e in
        absurd (omega arith)
    stands_injective g h (inr e) (inl f) same =
        let less : stand own < stand g = behind_own g e in
        let at : stand h ≡ stand own = ap stand f in
        absurd (omega arith)
    stands_injective g h (inr e) (inr f) same = stands_apart g h e f same

    -- the rows of these groups
    group_after : (h : ℕ) → s.last_group < h →
        group_row (groups_with (Some own)).groups h ≡
        option_or (group_row firsts h) (group_row others h)
    group_after h up =
        find-append (λ (r : GroupRow). r.group == h) s.groups _ ∙
        takes_second (group_row s.groups h) _ (no_group h up) ∙
        find-append (λ (r : GroupRow). r.group == h) firsts others

    not_first : (h : ℕ) → last < h →
        is_some (group_row firsts h) ≡ false
    not_first h up = go membership up
      where
        go : (k : Membership) → last_fresh k s.last_group < h →
            is_some (group_row (fresh_groups k (s.last_group + 1)) h) ≡ false
        go (InGroup g) up = refl
        go (SlaveOf g) up = rw (ne_eqb (s.last_group + 1) h (λ same. omega arith)) refl
        go Private up = rw (ne_eqb (s.last_group + 1) h (λ same. omega arith)) refl
        go Unbindable up = rw (ne_eqb (s.last_group + 1) h (λ same. omega arith)) refl

    above_last : (g : ℕ) → has g gs ≡ true → last < stand g
    above_last g h = subst (λ (x : ℕ). last < x) (sym (stand_only g h)) (omega arith)

    group_there : (g : ℕ) → has g gs ≡ true →
        group_row (groups_with (Some own)).groups (stand g) ≡
        Some (record { group = stand g; master = option_map stand (master_of_group s g) })
    group_there g h =
        let up : last < stand g = above_last g h in
        let low : s.last_group ≤ last = last_low in
        group_after (stand g) (omega arith) ∙
        takes_second (group_row firsts (stand g)) _ (not_first (stand g) up) ∙
        stand_there stand s g gs h (λ k e same. stands_apart k g e h same)

    first_there : (master : Option ℕ) →
        fresh_groups membership (s.last_group + 1) ≡
        (record { group = s.last_group + 1; master = master }) ∷ [] →
        group_row (groups_with (Some own)).groups (s.last_group + 1) ≡
        Some (record { group = s.last_group + 1; master = master })
    first_there master e =
        group_after (s.last_group + 1) (omega arith) ∙
        rw (e, eq-eqb (s.last_group + 1) (s.last_group + 1) refl) refl

    by_its_source : (k : Membership) → membership ≡ k → is_unbindable k ≡ false →
        IsGroupBy k s (groups_with (Some own)) (new_group k s.last_group)
    by_its_source (InGroup g) e ok = refl
    by_its_source (SlaveOf g) e ok =
        let found = first_there (Some g) (ap (λ (k : Membership). fresh_groups k (s.last_group + 1)) e) in
        ((omega arith, ap is_some found), ap master_in found)
    by_its_source Private e ok =
        let found = first_there None (ap (λ (k : Membership). fresh_groups k (s.last_group + 1)) e) in
        ((omega arith, ap is_some found), ap master_in found)
    by_its_source Unbindable e ok = absurd cc

    group_from : (h : ℕ) → IsGroup (groups_with (Some own)) h →
        IsGroup s h ⊎ ((g : ℕ) × IsConcerned s b g × (h ≡ stand g))
    group_from h is =
        go (group_row s.groups h) refl
        (ap is_some (sym (find-append (λ (r : GroupRow). r.group == h) s.groups _)) ∙ is)
      where
        made : (o : Option GroupRow) →
            group_row firsts h ≡ o →
            is_some (option_or o (group_row others h)) ≡ true →
            (g : ℕ) × IsConcerned s b g × (h ≡ stand g)
        made None e k = let x = stand_from stand s gs h k in (x.0, inr (only_from x.0 x.1).0, x.2)
        made (Some r) e k = (own, inl in_own, at_first membership refl e ∙ sym stand_own)
          where
            at_number : (m : Option ℕ) →
                group_row ((record { group = s.last_group + 1; master = m }) ∷ []) h ≡ Some r →
                h ≡ s.last_group + 1
            at_number m e = step (s.last_group + 1 == h) refl e
              where
                step : (c : Bool) → (s.last_group + 1 == h) ≡ c →
                    cond c (Some (record { group = s.last_group + 1; master = m })) None ≡ Some r →
                    h ≡ s.last_group + 1
                step true f e = sym (eqb-true (s.last_group + 1) h f)
                step false f e = absurd cc

            at_first : (k : Membership) → membership ≡ k →
                group_row (fresh_groups k (s.last_group + 1)) h ≡ Some r →
                h ≡ new_group k s.last_group
            at_first (InGroup g) is e = absurd cc
            at_first (SlaveOf g) is e = at_number (Some g) e
            at_first Private is e = at_number None e
            at_first Unbindable is e = at_number None e

        go : (o : Option GroupRow) → group_row s.groups h ≡ o →
            is_some (option_or o (group_row (firsts ++ others) h)) ≡
            true →
            IsGroup s h ⊎ ((g : ℕ) × IsConcerned s b g × (h ≡ stand g))
        go (Some r) e k = inl (ap is_some e)
        go None e k =
            inr (made (group_row firsts h) refl
            (ap is_some (sym (find-append (λ (r : GroupRow). r.group == h) firsts others)) ∙ k))

    -- the rows of the mounts
    rise : RiseOn 0 rs
    rise = rise_all rs (receivers_rise t.groups whole.sound.orderly at.mount)

    itself_there :
        member_row (groups_with (Some own)).members first ≡
        Some (row_with (InGroup (new_group membership s.last_group)) first)
    itself_there =
        find-append (λ (r : MemberRow). r.mount == first) s.members _ ∙
        takes_second (member_row s.members first) _ (no_member first (omega arith)) ∙
        rw (eq-eqb first first refl) refl

    copy_there : (r m : ℕ) → Receives s b r → ComesAs (IsOn r) t (after (Some own)) m →
        member_row (groups_with (Some own)).members m ≡
        Some (copy_on m r)
    copy_there r m receives comes =
        let h = (exact r).1 receives in
        let some : 1 ≤ count_up_to r rs = count_some r rs h in
        let at : m ≡ first + count_up_to r rs =
        copy_number_is t whole at fs membership there r m receives comes
        in
        find-append (λ (x : MemberRow). x.mount == m) s.members _ ∙
        takes_second (member_row s.members m) _ (no_member m (omega arith)) ∙
        rw (ne_eqb first m (λ same. omega arith))
        (ap (λ (xs : List MemberRow). member_row xs m) (copies_each stand s (first + 1) rs) ∙
        subst (λ (n : ℕ). member_row (one_each copy_on (first + 1) rs) n ≡ Some (copy_on n r)) (sym at)
        (each_there (λ (x : MemberRow). x.mount) copy_on
        (λ k x. copy_mount stand k (group_of s x) (slave_in (member_row s.members x)))
        first 0 rs rise r h))

    comes_shared : ComesShared membership b own first t (after (Some own))
    comes_shared = record {
      stand = stand;
      injective = λ g h in_g in_h same. stands_injective g h (listed g in_g) (listed h in_h) same;
      itself = (
        row_with (InGroup (new_group membership s.last_group)) first,
        itself_there,
        record { in_group = ap Some (sym stand_own); has_no_master = refl; can_be_bound = refl },
      );
      by_source =
          subst (λ (x : ℕ). IsGroupBy membership s (groups_with (Some own)) x) (sym stand_own)
          (by_its_source membership refl bindable);
      fresh = λ g only.
          let h = only_has g only in
          let up : last < stand g = above_last g h in
          let low : s.last_group ≤ last = last_low in
          (omega arith, ap is_some (group_there g h));
      masters = λ g only. ap master_in (group_there g (only_has g only));
      concerned =
          λ g m only up.
          concerned_by m
          (stands_above t.groups whole.sound at.mount own in_own rs exact own first own_group above
          g m (only_has g only) up);
      rising = λ g h in_g in_h less. stands_rise g h (only_has g in_g) (only_has h in_h) less;
      behind = λ g only. behind_own g (only_has g only);
      members = λ r g m receives in_g comes. (
        copy_row stand m (Some g) (slave_in (member_row s.members r)),
        copy_there r m receives comes ∙
            ap (λ (o : Option ℕ). Some (copy_row stand m o (slave_in (member_row s.members r)))) in_g,
        record { in_group = refl; has_no_master = refl; can_be_bound = refl },
      );
      slaves = λ r m receives in_none comes.
          let under = under_from_way s receives.way b r receives.arrives in
          let g = under.2.home in
          let has_master : slave_in (member_row s.members r) ≡ Some g =
          ap (λ (o : Option ℕ). home_where o (slave_in (member_row s.members r))) (sym in_none) ∙
          under.2.is_home in (
            g,
            ap (λ (o : Option ℕ). master_where s o (slave_in (member_row s.members r))) in_none ∙
                has_master,
            concerned_by g
                (stands_of_slave t.groups whole.sound at.mount own in_own rs exact own first own_group above
                r g ((exact r).1 receives) in_none has_master),
            (
              copy_row stand m None (Some g),
              copy_there r m receives comes ∙
                  ap (λ (o : Option ℕ). Some (copy_row stand m o (slave_in (member_row s.members r)))) in_none ∙
                  ap (λ (o : Option ℕ). Some (copy_row stand m None o)) has_master,
              record { in_no_group = refl; has_master = refl; can_be_bound = refl },
            ),
          );
      no_other = group_from;
    }

  joins_by : (own : Option ℕ) → group_of t.groups at.mount ≡ own →
      JoinsBy membership b own first t (after own)
  joins_by (Some own) in_own = comes_shared own in_own
  joins_by None in_none = comes_unshared

  pub joins : Joins membership b first t (mounted at fs membership t)
  joins = joins_by (group_of t.groups at.mount) refl
