-- A mount's state after a change is that of the table.
use Rattle.std.proofs.Common.{◌≡◌, ◌<◌, ◌+◌, ℕ, Bool, true, false, cond, ◌||◌, ◌&&◌, List, [], ◌∷◌, Option, Some, None, refl, sym, ap, subst, ◌∙◌, arith}
use Rattle.std.specs.Prelude.{map, not, option_map, ◌==◌, Result, Ok, Err, OnOk}
use Rattle.std.proofs.lemmas.Bool.{eqb-true, eq-eqb, ne_eqb}
use Rattle.am_names.proofs.Basics.{or_left, or_right}
use Rattle.am_names.specs.{MemberRow, GroupRow}
use Rattle.am_names.specs.PeerGroups.{PeerGroups}
use Rattle.am_group.specs.{MountState, Change, member_row, group_in, master_in, group_of, master_of_group, is_just, has_members, is_kept, lifted, lifted_member, settled, cleared, left, slave_from, slave_row, private_row, unbindable_row, shared_row, shared_where, at_row, with_row, made_shared, changed, shared_kind, lone_kind, kind_where, kind_of_row, kind_of, has_others, alone_in, is_alone, kind_after, IsOrderly}
use Rattle.am_group.specs.declared.mount_state.MountState.TheVariants.{Shared, Slave, SharedSlave, Private, Unbindable}
use Rattle.am_group.specs.declared.mount_state.Change.TheVariants.{MakeShared, MakeSlave, MakePrivate, MakeUnbindable}
use Rattle.am_group.proofs.LookupLemmas.{found_passes, members_from_test}
use Rattle.am_group.proofs.ClearLemmas.{test_from_member, kept_row}
use Rattle.am_group.proofs.SettleLemmas.{member_row-settled, has_lifted}
use Rattle.am_group.proofs.LiftLemmas.{lifted_here, lifted_step}
use Rattle.am_group.proofs.ChangeLemmas.{live_stays, slave_row_thins, row_thins, thin_orderly, member_row-map, at_row_mount}
use Rattle.am_group.proofs.SharedLemmas.{after, fresh_master, shared_mount}
use Rattle.am_group.proofs.ScanLemmas.{just_self}

-- another member than m, found by its number
others_from_member : (rows : List MemberRow) (x m g : ℕ) → (x ≡ m → ⊥) → group_in (member_row rows x) ≡ Some g → has_others rows m g ≡ true
others_from_member [] x m g other e = absurd cc
others_from_member (r ∷ rows) x m g other e = go (r.mount == x) refl e (others_from_member rows x m g other)
  where
    go : (b : Bool) → (r.mount == x) ≡ b → group_in (cond b (Some r) (member_row rows x)) ≡ Some g → (group_in (member_row rows x) ≡ Some g → has_others rows m g ≡ true) → ((is_just g r.group && not (r.mount == m)) || has_others rows m g) ≡ true
    go true f e ih =
        let at : r.mount ≡ x = eqb-true r.mount x f in
        or_left (is_just g r.group && not (r.mount == m)) _ (rw (just_self g r.group e, ne_eqb r.mount m (λ same. other (sym at ∙ same))) refl)
    go false f e ih = or_right (is_just g r.group && not (r.mount == m)) _ (ih e)

-- the other members stay where only the row of m changes
others_stay : (f : MemberRow → MemberRow) (m g : ℕ) (rows : List MemberRow) → has_others rows m g ≡ true → has_members (map (at_row f m) rows) g ≡ true
others_stay f m g [] e = absurd cc
others_stay f m g (r ∷ rows) e = go (r.mount == m) (is_just g r.group) refl e (others_stay f m g rows)
  where
    go : (b j : Bool) → is_just g r.group ≡ j → ((j && not b) || has_others rows m g) ≡ true → (has_others rows m g ≡ true → has_members (map (at_row f m) rows) g ≡ true) → (is_just g (cond b (f r) r).group || has_members (map (at_row f m) rows) g) ≡ true
    go true true j e ih = or_right (is_just g (f r).group) _ (ih e)
    go true false j e ih = or_right (is_just g (f r).group) _ (ih e)
    go false true j e ih = or_left (is_just g r.group) _ j
    go false false j e ih = or_right (is_just g r.group) _ (ih e)

-- a slave is no member: without others the group has none
slave_is_none : (g : ℕ) (r : MemberRow) → is_just g (slave_row r).group ≡ false
slave_is_none g r = go r.group refl
  where
    go : (o : Option ℕ) → r.group ≡ o → is_just g (slave_from o r).group ≡ false
    go (Some h) e = refl
    go None e = rw e refl

alone_leaves : (m g : ℕ) (rows : List MemberRow) → has_others rows m g ≡ false → has_members (map (at_row slave_row m) rows) g ≡ false
alone_leaves m g [] e = refl
alone_leaves m g (r ∷ rows) e = go (r.mount == m) (is_just g r.group) refl e (alone_leaves m g rows)
  where
    go : (b j : Bool) → is_just g r.group ≡ j → ((j && not b) || has_others rows m g) ≡ false → (has_others rows m g ≡ false → has_members (map (at_row slave_row m) rows) g ≡ false) → (is_just g (cond b (slave_row r) r).group || has_members (map (at_row slave_row m) rows) g) ≡ false
    go true true j e ih = rw (slave_is_none g r) (ih e)
    go true false j e ih = rw (slave_is_none g r) (ih e)
    go false true j e ih = absurd cc
    go false false j e ih = rw j (ih e)

-- a group of which m isn't a member stays where only the row of m changes
other_stays : (s : PeerGroups) → IsOrderly s → (f : MemberRow → MemberRow) (m h : ℕ) → (group_of s m ≡ Some h → ⊥) → is_kept s.members (map (at_row f m) s.members) h ≡ true
other_stays s orderly f m h apart = go (has_members s.members h) refl
  where
    go : (b : Bool) → has_members s.members h ≡ b → is_kept s.members (map (at_row f m) s.members) h ≡ true
    go true e =
        let member = members_from_test s h orderly.rising e in
        let others : has_others s.members m h ≡ true =
        others_from_member s.members member.0 m h (λ same. apart (subst (λ (x : ℕ). group_of s x ≡ Some h) same member.1)) member.1 in
        or_left (has_members (map (at_row f m) s.members) h) (not (has_members s.members h)) (others_stay f m h s.members others)
    go false e = or_right (has_members (map (at_row f m) s.members) h) (not (has_members s.members h)) (rw e refl)

-- a master that stays is not lifted
not_lifted : (stays : ℕ → Bool) (raw : PeerGroups) (o : Option ℕ) → ((h : ℕ) → o ≡ Some h → stays h ≡ true) → lifted stays raw o ≡ o
not_lifted stays raw None has = refl
not_lifted stays raw (Some h) has = lifted_here stays raw h (has h refl)

-- where groups go that have no members, each mount's state is as it was
kind_cleared : (stays : ℕ → Bool) (s : PeerGroups) → ((g : ℕ) → has_members s.members g ≡ true → stays g ≡ true) → (m : ℕ) → kind_of (cleared stays s) m ≡ kind_of s m
kind_cleared stays s live m = go (member_row s.members m) refl
  where
    same_kind :
        (row : MemberRow) (o : Option ℕ) → row.group ≡ o → member_row s.members m ≡ Some row →
        kind_where (cleared stays s) o row.master row.unbindable ≡
        kind_where s o row.master row.unbindable
    same_kind row None e found = refl
    same_kind row (Some g) e found =
        let has = test_from_member s.members m g (ap group_in found ∙ e) in
        ap (λ (r : Option GroupRow). shared_kind (master_in r)) (kept_row stays s g (live g has))

    go :
        (o : Option MemberRow) → member_row s.members m ≡ o →
        option_map (kind_of_row (cleared stays s)) o ≡ option_map (kind_of_row s) o
    go None e = refl
    go (Some row) e = ap Some (same_kind row row.group refl e)

kind_left : (old raw : PeerGroups) (m : ℕ) → kind_of (left old raw) m ≡ kind_of (settled (is_kept old.members raw.members) raw) m
kind_left old raw m =
    let stays = is_kept old.members raw.members in
    kind_cleared stays (settled stays raw) (λ g has. live_stays old raw g (sym (has_lifted stays raw raw.members g) ∙ has)) m

module _ (s : PeerGroups) (orderly : IsOrderly s) (m : ℕ) (row : MemberRow) (is_row : member_row s.members m ≡ Some row) where
  at : row.mount ≡ m
  at = eqb-true row.mount m (found_passes (λ (x : MemberRow). x.mount == m) s.members row is_row)

  kind_before : kind_of s m ≡ Some (kind_of_row s row)
  kind_before = ap (λ (o : Option MemberRow). option_map (kind_of_row s) o) is_row

  -- the mount's row where that alone changes
  kind_with : (raw : PeerGroups) (f : MemberRow → MemberRow) → ((r : MemberRow) → (f r).mount ≡ r.mount) → raw.members ≡ map (at_row f m) s.members → kind_of raw m ≡ Some (kind_of_row raw (f row))
  kind_with raw f same rows =
      ap (λ (o : Option MemberRow). option_map (kind_of_row raw) o) (ap (λ (ms : List MemberRow). member_row ms m) rows ∙ member_row-map (at_row f m) (at_row_mount f m same) s.members m) ∙
      rw (is_row, eq-eqb row.mount m at) refl

  -- and in a settled state
  kind_settled : (stays : ℕ → Bool) (f : MemberRow → MemberRow) → ((r : MemberRow) → (f r).mount ≡ r.mount) → kind_of (settled stays (with_row f m s)) m ≡ Some (kind_of_row (settled stays (with_row f m s)) (lifted_member stays (with_row f m s) (f row)))
  kind_settled stays f same =
      ap (λ (o : Option MemberRow). option_map (kind_of_row (settled stays (with_row f m s))) o) (member_row-settled stays (with_row f m s) m ∙ ap (option_map (lifted_member stays (with_row f m s))) (member_row-map (at_row f m) (at_row_mount f m same) s.members m)) ∙
      rw (is_row, eq-eqb row.mount m at) refl

  group_is : (o : Option ℕ) → row.group ≡ o → group_of s m ≡ o
  group_is o e = ap group_in is_row ∙ e

  -- the peer groups that stay where the mount leaves its own
  abbrev slave_stays : ℕ → Bool
  slave_stays = is_kept s.members (map (at_row slave_row m) s.members)

  -- the mount's own master stays
  own_master : row.group ≡ None → (h : ℕ) → slave_stays h ≡ true
  own_master alone h = other_stays s orderly slave_row m h (λ in_h. (let no : None ≡ Some h = sym (group_is None alone) ∙ in_h in cc))

  -- so does the master of its group
  group_master : (g : ℕ) → row.group ≡ Some g → (h : ℕ) → master_of_group s g ≡ Some h → slave_stays h ≡ true
  group_master g in_g h e = other_stays s orderly slave_row m h (λ in_h.
      let same : Some g ≡ Some h = sym (group_is (Some g) in_g) ∙ in_h in
      let is : g ≡ h = cc in
      let lower : h < g = orderly.down g h e in
      omega arith)

  -- its group stays just where it has others
  group_stays : (g : ℕ) → has_others s.members m g ≡ true → slave_stays g ≡ true
  group_stays g e = or_left (has_members (map (at_row slave_row m) s.members) g) (not (has_members s.members g)) (others_stay slave_row m g s.members e)

  group_goes : (g : ℕ) → row.group ≡ Some g → has_others s.members m g ≡ false → slave_stays g ≡ false
  group_goes g in_g e = rw (alone_leaves m g s.members e, test_from_member s.members m g (group_is (Some g) in_g)) refl

  slave_orderly : IsOrderly (with_row slave_row m s)
  slave_orderly = thin_orderly s (with_row slave_row m s) (row_thins s slave_row m orderly slave_row_thins) orderly

  lone_slave : (master : Option ℕ) (u : Bool) → lone_kind master u ≡ kind_after MakeSlave false (lone_kind master u)
  lone_slave (Some h) u = refl
  lone_slave None true = refl
  lone_slave None false = refl

  -- a shared mount: with others it is a slave of its group, alone it is lifted to the group's master
  slave_kind : (others : Bool) (up : Option ℕ) (g : ℕ) → row.group ≡ Some g → has_others s.members m g ≡ others → master_of_group s g ≡ up → lone_kind (lifted slave_stays (with_row slave_row m s) (Some g)) false ≡ kind_after MakeSlave (not others) (shared_kind up)
  slave_kind true up g in_g e f = rw (lifted_here slave_stays (with_row slave_row m s) g (group_stays g e)) (go up)
    where
      go : (up : Option ℕ) → Slave ≡ kind_after MakeSlave false (shared_kind up)
      go (Some h) = refl
      go None = refl
  slave_kind false None g in_g e f = rw (lifted_step slave_stays (with_row slave_row m s) slave_orderly g (group_goes g in_g e), f) refl
  slave_kind false (Some h) g in_g e f = rw (lifted_step slave_stays (with_row slave_row m s) slave_orderly g (group_goes g in_g e), f, lifted_here slave_stays (with_row slave_row m s) h (group_master g in_g h f)) refl

  slave_row_kind : (o : Option ℕ) → row.group ≡ o → kind_of_row (settled slave_stays (with_row slave_row m s)) (lifted_member slave_stays (with_row slave_row m s) (slave_from o row)) ≡ kind_after MakeSlave (alone_in s m o) (kind_where s o row.master row.unbindable)
  slave_row_kind (Some g) e = slave_kind (has_others s.members m g) (master_of_group s g) g e refl refl
  slave_row_kind None e = rw (e, not_lifted slave_stays (with_row slave_row m s) row.master (λ h f. own_master e h)) (lone_slave row.master row.unbindable)

  slave_table : kind_of (left s (with_row slave_row m s)) m ≡ Some (kind_after MakeSlave (is_alone s m) (kind_of_row s row))
  slave_table = kind_left s (with_row slave_row m s) m ∙ kind_settled slave_stays slave_row slave_row_thins.same_mount ∙ ap Some (slave_row_kind row.group refl ∙ ap (λ (o : Option ℕ). kind_after MakeSlave (alone_in s m o) (kind_of_row s row)) (sym (group_is row.group refl)))

  -- private and unbindable, whatever it was
  becomes_private : (alone : Bool) (k : MountState) → Private ≡ kind_after MakePrivate alone k
  becomes_private alone Shared = refl
  becomes_private alone Slave = refl
  becomes_private alone SharedSlave = refl
  becomes_private alone Private = refl
  becomes_private alone Unbindable = refl

  becomes_unbindable : (alone : Bool) (k : MountState) → Unbindable ≡ kind_after MakeUnbindable alone k
  becomes_unbindable alone Shared = refl
  becomes_unbindable alone Slave = refl
  becomes_unbindable alone SharedSlave = refl
  becomes_unbindable alone Private = refl
  becomes_unbindable alone Unbindable = refl

  private_table : kind_of (left s (with_row private_row m s)) m ≡ Some (kind_after MakePrivate (is_alone s m) (kind_of_row s row))
  private_table = kind_left s (with_row private_row m s) m ∙ kind_settled (is_kept s.members (map (at_row private_row m) s.members)) private_row (λ r. refl) ∙ ap Some (becomes_private (is_alone s m) (kind_of_row s row))

  unbindable_table : kind_of (left s (with_row unbindable_row m s)) m ≡ Some (kind_after MakeUnbindable (is_alone s m) (kind_of_row s row))
  unbindable_table = kind_left s (with_row unbindable_row m s) m ∙ kind_settled (is_kept s.members (map (at_row unbindable_row m) s.members)) unbindable_row (λ r. refl) ∙ ap Some (becomes_unbindable (is_alone s m) (kind_of_row s row))

  -- shared: it stays so, or its fresh group has the master that it had
  stays_shared : (alone : Bool) (up : Option ℕ) → shared_kind up ≡ kind_after MakeShared alone (shared_kind up)
  stays_shared alone (Some h) = refl
  stays_shared alone None = refl

  becomes_shared : (alone : Bool) (master : Option ℕ) (u : Bool) → shared_kind master ≡ kind_after MakeShared alone (lone_kind master u)
  becomes_shared alone (Some h) u = refl
  becomes_shared alone None true = refl
  becomes_shared alone None false = refl

  fresh_kind : row.group ≡ None → kind_of_row (after s m row) (shared_row (s.last_group + 1) row) ≡ kind_after MakeShared (is_alone s m) (kind_of_row s row)
  fresh_kind alone = rw (alone, fresh_master s orderly m row is_row alone) (becomes_shared (is_alone s m) row.master row.unbindable)

  shared_table : kind_of (made_shared m s) m ≡ Some (kind_after MakeShared (is_alone s m) (kind_of_row s row))
  shared_table = rw (is_row) (go row.group refl)
    where
      go : (o : Option ℕ) → row.group ≡ o → kind_of (shared_where (Some row) o m s) m ≡ Some (kind_after MakeShared (is_alone s m) (kind_of_row s row))
      go (Some g) e = kind_before ∙ ap Some (rw e (stays_shared (is_alone s m) (master_of_group s g)))
      go None e = kind_with (after s m row) (shared_row (s.last_group + 1)) (shared_mount (s.last_group + 1)) refl ∙ ap Some (fresh_kind e)

  pub table_row : (change : Change) → kind_of (changed change m s) m ≡ option_map (kind_after change (is_alone s m)) (kind_of s m)
  table_row change = go change ∙ sym (ap (option_map (kind_after change (is_alone s m))) kind_before)
    where
      go : (change : Change) → kind_of (changed change m s) m ≡ Some (kind_after change (is_alone s m) (kind_of_row s row))
      go MakeShared = shared_table
      go MakeSlave = slave_table
      go MakePrivate = private_table
      go MakeUnbindable = unbindable_table

none_mapped : {A B : Type 0} (f : A → B) (o : Option A) → o ≡ None → option_map f o ≡ None
none_mapped f o e = rw e refl

-- a mount that isn't there is not there afterwards
none_settled : (s : PeerGroups) (m : ℕ) (f : MemberRow → MemberRow) → ((r : MemberRow) → (f r).mount ≡ r.mount) → member_row s.members m ≡ None → kind_of (left s (with_row f m s)) m ≡ None
none_settled s m f same none =
    let raw = with_row f m s in
    let stays = is_kept s.members raw.members in
    kind_left s raw m ∙
    ap (λ (o : Option MemberRow). option_map (kind_of_row (settled stays raw)) o) (member_row-settled stays raw m ∙ ap (option_map (lifted_member stays raw)) (member_row-map (at_row f m) (at_row_mount f m same) s.members m ∙ none_mapped (at_row f m) (member_row s.members m) none))

table_none : (s : PeerGroups) (m : ℕ) → member_row s.members m ≡ None → (change : Change) → kind_of (changed change m s) m ≡ None
table_none s m none MakeShared = rw none (none_mapped (kind_of_row s) (member_row s.members m) none)
table_none s m none MakeSlave = none_settled s m slave_row slave_row_thins.same_mount none
table_none s m none MakePrivate = none_settled s m private_row (λ r. refl) none
table_none s m none MakeUnbindable = none_settled s m unbindable_row (λ r. refl) none

-- the state of each mount after each change is that of the table
pub table_holds : (s : PeerGroups) → IsOrderly s → (change : Change) (m : ℕ) → kind_of (changed change m s) m ≡ option_map (kind_after change (is_alone s m)) (kind_of s m)
table_holds s orderly change m = go (member_row s.members m) refl
  where
    go : (o : Option MemberRow) → member_row s.members m ≡ o → kind_of (changed change m s) m ≡ option_map (kind_after change (is_alone s m)) (kind_of s m)
    go None e = table_none s m e change ∙ sym (none_mapped (kind_after change (is_alone s m)) (kind_of s m) (none_mapped (kind_of_row s) (member_row s.members m) e))
    go (Some row) e = table_row s orderly m row e change

-- where the change succeeds
pub table_ok : {T E : Type 0} (r : Result T E) (s t : PeerGroups) → IsOrderly s → (change : Change) (m : ℕ) → OnOk r (t ≡ changed change m s) → OnOk r (kind_of t m ≡ option_map (kind_after change (is_alone s m)) (kind_of s m))
table_ok (Ok x) s t orderly change m e = ap (λ (v : PeerGroups). kind_of v m) e ∙ table_holds s orderly change m
table_ok (Err x) s t orderly change m e = e
