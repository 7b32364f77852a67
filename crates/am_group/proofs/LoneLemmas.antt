-- A mount that gives up the peer group in which it is alone, and which is no master.
use Rattle.std.proofs.Common.{◌≡◌, ◌<◌, ℕ, zero, suc, Bool, true, false, cond, ◌||◌, ◌&&◌, List, [], ◌∷◌, get_or, Option, Some, None, ⊎_elim, refl, sym, ap, subst, ◌∙◌, arith}
use Rattle.std.specs.Prelude.{map, filter, not, ◌==◌}
use Rattle.std.specs.List.{list_any}
use Rattle.std.proofs.lemmas.Bool.{eqb-true, eq-eqb, ne_eqb}
use Rattle.am_names.proofs.Basics.{equal_either_way, or_false}
use Rattle.am_names.specs.{MemberRow, GroupRow, is_among}
use Rattle.am_names.specs.PeerGroups.{PeerGroups}
use Rattle.am_group.specs.{AreLifts, AreLost, Change, IsOrderly, at_row, cleared, gives_up, group_in, has_members, is_just, is_kept, is_not_alone, is_one_of, is_other_in, left, lift_in, lifted, lifted_group, lifted_member, master_of_group, member_row, not_alone_in, past, past_group, past_member, row_of, settled, slave_from, with_row}
use Rattle.am_group.specs.declared.mount_state.Change.TheVariants.{MakeShared, MakeSlave, MakePrivate, MakeUnbindable}
use Rattle.am_group.proofs.ClearLemmas.{test_from_member}
use Rattle.am_group.proofs.LiftLemmas.{lifted_here, lifted_step, same_state}
use Rattle.am_group.proofs.LostLemmas.{stays_is}
use Rattle.am_group.proofs.ScanLemmas.{just_same}
use Rattle.am_group.proofs.SpareLemmas.{found_number, has_other, others_stay, same_change}

-- neither of two
first_not : (a b : Bool) → (a || b) ≡ false → a ≡ false
first_not true b e = absurd cc
first_not false b e = refl

second_not : (a b : Bool) → (a || b) ≡ false → b ≡ false
second_not true b e = absurd cc
second_not false b e = e

-- where no other is in the group, and the mount comes out of it, none is left
none_in :
    (m g : ℕ) (new : MemberRow) → new.group ≡ None → (rows : List MemberRow) → list_any (is_other_in m g) rows ≡ false →
    has_members (map (at_row (λ r. new) m) rows) g ≡ false
none_in m g new out [] none = refl
none_in m g new out (r ∷ rows) none =
    go (r.mount == m) refl (is_just g r.group) refl none (none_in m g new out rows)
  where
    go :
        (a : Bool) → (r.mount == m) ≡ a → (b : Bool) → is_just g r.group ≡ b →
        ((is_just g r.group && not (r.mount == m)) || list_any (is_other_in m g) rows) ≡ false →
        (list_any (is_other_in m g) rows ≡ false → has_members (map (at_row (λ x. new) m) rows) g ≡ false) →
        (is_just g (cond a new r).group || has_members (map (at_row (λ x. new) m) rows) g) ≡ false
    go true e b f none ih =
        ap (λ (o : Option ℕ). is_just g o || has_members (map (at_row (λ x. new) m) rows) g) out ∙
        ih (second_not (is_just g r.group && not (r.mount == m)) (list_any (is_other_in m g) rows) none)
    go false e true f none ih =
        let both : (is_just g r.group && not (r.mount == m)) ≡ true = rw (f, e) refl in
        let no : (is_just g r.group && not (r.mount == m)) ≡ false =
        first_not (is_just g r.group && not (r.mount == m)) (list_any (is_other_in m g) rows) none in
        let bad : true ≡ false = sym both ∙ no in
        absurd cc
    go false e false f none ih =
        rw f (ih (second_not (is_just g r.group && not (r.mount == m)) (list_any (is_other_in m g) rows) none))

module _ (s : PeerGroups) (orderly : IsOrderly s) (m : ℕ) (row : MemberRow) (found : member_row s.members m ≡ Some row) (g : ℕ) (own : row.group ≡ Some g) (alone : is_not_alone s row ≡ false) (f : MemberRow → MemberRow) (out : (f row).group ≡ None) where
  abbrev raw : PeerGroups
  raw = with_row f m s

  no_others : list_any (is_other_in m g) s.members ≡ false
  no_others =
      subst (λ (n : ℕ). list_any (is_other_in n g) s.members ≡ false) (found_number s.members m row found)
      (ap (not_alone_in s row.mount) (sym own) ∙ alone)

  some_same : {x y : MemberRow} → Some x ≡ Some y → x ≡ y
  some_same e = cc

  -- the others keep their members
  still : (n : ℕ) → (g == n) ≡ false → has_members s.members n ≡ true → has_members raw.members n ≡ true
  still n apart had = others_stay f m s.members n (⊎_elim
      (λ others. others)
      (λ its.
      let same : Some g ≡ Some n = sym own ∙ just_same n row.group its in
      let bad : true ≡ false = sym (eq-eqb g n (number same)) ∙ apart in
      absurd cc)
      (has_other f m 0 s.members orderly.rising row n (λ r e. some_same (sym e ∙ found)) had))
    where
      number : {x y : ℕ} → Some x ≡ Some y → x ≡ y
      number e = cc

  -- the group alone is lost
  lone_lost : AreLost s.members raw.members (g ∷ [])
  lone_lost n = go (g == n) refl (has_members s.members n) refl
    where
      go :
          (a : Bool) → (g == n) ≡ a → (b : Bool) → has_members s.members n ≡ b →
          (a || false) ≡ (b && not (has_members raw.members n))
      go true e b had =
          let same : g ≡ n = eqb-true g n e in
          let there : has_members s.members g ≡ true = test_from_member s.members m g (ap group_in found ∙ own) in
          let gone : has_members raw.members g ≡ false =
          ap (λ (rows : List MemberRow). has_members rows g) (sym (same_change f 0 m s.members orderly.rising row found)) ∙
          none_in m g (f row) out s.members no_others in
          let now : has_members raw.members n ≡ false = subst (λ (x : ℕ). has_members raw.members x ≡ false) same gone in
          let before : b ≡ true = sym had ∙ subst (λ (x : ℕ). has_members s.members x ≡ true) same there in
          rw (now, before) refl
      go false e true had = rw (still n e had) refl
      go false e false had = refl

  abbrev stays : ℕ → Bool
  stays = is_kept s.members raw.members

  stays_not : (n : ℕ) → stays n ≡ not (is_among (g ∷ []) n)
  stays_not = stays_is s.members raw (g ∷ []) lone_lost

  -- a master that is the group is lifted to the group's own, and no other is lifted
  past_is : IsOrderly raw → (o : Option ℕ) → past s g o ≡ lifted stays raw o
  past_is raw_orderly None = refl
  past_is raw_orderly (Some h) = go (h == g) refl
    where
      up : (o : Option ℕ) → master_of_group s g ≡ o → o ≡ lifted stays raw o
      up None e = refl
      up (Some t) e =
          let lower : t < g = orderly.down g t e in
          sym (lifted_here stays raw t (stays_not t ∙ ap not (or_false (g == t) ∙ ne_eqb g t (λ same. omega arith))))

      go : (b : Bool) → (h == g) ≡ b → cond b (master_of_group s g) (Some h) ≡ lifted stays raw (Some h)
      go true e =
          let same : h ≡ g = eqb-true h g e in
          let lost : stays g ≡ false = stays_not g ∙ ap not (or_false (g == g) ∙ eq-eqb g g refl) in
          up (master_of_group s g) refl ∙ sym (lifted_step stays raw raw_orderly g lost) ∙
          ap (λ (n : ℕ). lifted stays raw (Some n)) (sym same)
      go false e = sym (lifted_here stays raw h (stays_not h ∙ ap not (or_false (g == h) ∙ equal_either_way g h ∙ e)))

  -- ---- the followers of the group get its master

  followed_rows :
      IsOrderly raw → (new : MemberRow) (rows : List MemberRow) →
      map (at_row (λ r. lifted_member stays raw new) m) (map (past_member s g) rows) ≡ map (lifted_member stays raw) (map (at_row (λ r. new) m) rows)
  followed_rows raw_orderly new [] = refl
  followed_rows raw_orderly new (r ∷ rows) =
      go (r.mount == m) (followed_rows raw_orderly new rows)
    where
      these : List MemberRow
      these = map (at_row (λ r. lifted_member stays raw new) m) (map (past_member s g) rows)

      go :
          (b : Bool) → these ≡ map (lifted_member stays raw) (map (at_row (λ r. new) m) rows) →
          cond b (lifted_member stays raw new) (past_member s g r) ∷ these ≡
          lifted_member stays raw (cond b new r) ∷ map (lifted_member stays raw) (map (at_row (λ r. new) m) rows)
      go true ih = ap (λ (xs : List MemberRow). lifted_member stays raw new ∷ xs) ih
      go false ih =
          ap (λ (o : Option ℕ). (record r { master = o }) ∷ these) (past_is raw_orderly r.master) ∙
          ap (λ (xs : List MemberRow). lifted_member stays raw r ∷ xs) ih

  followed_groups :
      IsOrderly raw → (rows : List GroupRow) →
      filter (λ r. not (is_among (g ∷ []) r.group)) (map (past_group s g) rows) ≡
      filter (λ r. stays r.group) (map (lifted_group stays raw) rows)
  followed_groups raw_orderly [] = refl
  followed_groups raw_orderly (r ∷ rows) =
      ap (λ (b : Bool). cond b (past_group s g r ∷ these) these) (sym (stays_not r.group)) ∙
      ap (λ (o : Option ℕ). cond (stays r.group) ((record r { master = o }) ∷ these) these) (past_is raw_orderly r.master) ∙
      ap (λ (xs : List GroupRow). cond (stays r.group) (lifted_group stays raw r ∷ xs) xs) (followed_groups raw_orderly rows)
    where
      these : List GroupRow
      these = filter (λ x. not (is_among (g ∷ []) x.group)) (map (past_group s g) rows)

  -- the mount's row changes, the followers and it have the group's master in its place, and the group goes
  pub followed_left :
      IsOrderly raw → (after : MemberRow) → after ≡ (record (f row) { master = past s g (f row).master }) →
      (rows : List MemberRow) → rows ≡ map (at_row (λ r. after) m) (map (past_member s g) s.members) → (groups : List GroupRow) →
      groups ≡ filter (λ r. not (is_among (g ∷ []) r.group)) (map (past_group s g) s.groups) → (last : ℕ) → last ≡ s.last_group →
      (record { members = rows; groups = groups; last_group = last }) ≡ left s raw
  followed_left raw_orderly after is rows mounts groups masters last number =
      let lifts : after ≡ lifted_member stays raw (f row) =
      is ∙ ap (λ (o : Option ℕ). record (f row) { master = o }) (past_is raw_orderly (f row).master) in
      same_state (cleared stays (settled stays raw)) rows groups last
      (mounts ∙
      ap (λ (x : MemberRow). map (at_row (λ r. x) m) (map (past_member s g) s.members)) lifts ∙
      followed_rows raw_orderly (f row) s.members ∙
      ap (map (lifted_member stays raw)) (same_change f 0 m s.members orderly.rising row found))
      (masters ∙ followed_groups raw_orderly s.groups)
      number

-- the group with its master, which its followers get
pub lone_lift :
    (s : PeerGroups) → IsOrderly s → (g : ℕ) → AreLifts ((record { group = g; master = master_of_group s g }) ∷ [])
lone_lift s orderly g = record {
  clear = ap (λ (b : Bool). not b && true) (other (master_of_group s g) refl);
  same = at;
}
  where
    other : (o : Option ℕ) → master_of_group s g ≡ o → is_one_of (g ∷ []) o ≡ false
    other None e = refl
    other (Some t) e = let lower : t < g = orderly.down g t e in or_false (g == t) ∙ ne_eqb g t (λ same. omega arith)

    at :
        (i : ℕ) (d : GroupRow) → i < 1 →
        (get_or ((record { group = g; master = master_of_group s g }) ∷ []) i d).master ≡
        lift_in ((record { group = g; master = master_of_group s g }) ∷ []) (Some (get_or ((record { group = g; master = master_of_group s g }) ∷ []) i d).group)
    at zero d within = sym (ap (λ (b : Bool). cond b (master_of_group s g) (Some g)) (eq-eqb g g refl))
    at (suc i) d within = absurd (omega arith)

-- what stands in place of the group is another
pub past_other : (s : PeerGroups) → IsOrderly s → (g : ℕ) (o : Option ℕ) → is_one_of (g ∷ []) (past s g o) ≡ false
past_other s orderly g None = refl
past_other s orderly g (Some h) = go (h == g) refl
  where
    other : (o : Option ℕ) → master_of_group s g ≡ o → is_one_of (g ∷ []) o ≡ false
    other None e = refl
    other (Some t) e = let lower : t < g = orderly.down g t e in or_false (g == t) ∙ ne_eqb g t (λ same. omega arith)

    go : (b : Bool) → (h == g) ≡ b → is_one_of (g ∷ []) (cond b (master_of_group s g) (Some h)) ≡ false
    go true e = other (master_of_group s g) refl
    go false e = or_false (g == h) ∙ equal_either_way g h ∙ e

-- a change that gives a peer group up leaves the mount in none
pub out_of_group :
    (change : Change) → gives_up change ≡ true → (row : MemberRow) (g : ℕ) → row.group ≡ Some g →
    (row_of change 0 row).group ≡ None
out_of_group MakeShared e row g own = absurd cc
out_of_group MakeSlave e row g own = ap (λ (o : Option ℕ). (slave_from o row).group) own
out_of_group MakePrivate e row g own = refl
out_of_group MakeUnbindable e row g own = refl
