-- A mount with its copies keeps the invariant.
use Rattle.std.proofs.Common.{◌≡◌, ◌≤◌, ◌<◌, ◌+◌, ◌⊎◌, ◌↔◌, ℕ, Bool, true, false, cond, eqb, ◌||◌, ◌&&◌, List, [], ◌∷◌, ◌++◌, length, Option, Some, None, refl, sym, ap, subst, inl, inr, ⊎_elim, ◌∙◌, arith}
use Rattle.std.specs.Prelude.{filter, map, not, is_some, option_map, ◌==◌}
use Rattle.std.specs.Option.{option_or}
use Rattle.std.proofs.lemmas.List.{length-map}
use Rattle.std.proofs.lemmas.List.Folds.{find-append}
use Rattle.std.proofs.lemmas.Bool.{eqb-true, eq-eqb, or_cases}
use Rattle.am_names.proofs.Basics.{or_left, or_right, and_false, some_injective}
use Rattle.am_names.specs.{GroupRow, MemberRow, Membership, MountRow, Position, membership_where, row_with}
use Rattle.am_names.specs.PeerGroups.{PeerGroups}
use Rattle.am_group.specs.{member_row, group_row, group_in, slave_in, group_of, master_of_group, Receives, with_group, added, all_added, receiving_groups, rank, stand_in, copy_row, copies_from, group_copies, is_under, receives, receivers_of, numbers, IsMaster, HasMembers, IsSound, AddsNoReceivers}
use Rattle.am_names.specs.declared.membership.Membership.TheVariants.{InGroup, SlaveOf, Private, Unbindable}
use Rattle.am_group.proofs.ReceiveLemmas.{home_where, under_from_way}
use Rattle.am_group.proofs.ReceiverLemmas.{receives_test, receives_found}
use Rattle.am_group.proofs.ScanLemmas.{has, has-filter, has-from_filter}
use Rattle.am_group.proofs.JoinLemmas.{with_group_keeps, joined_keeps}
use Rattle.am_group.proofs.CopyLemmas.{copied_keeps}
use Rattle.am_group.proofs.AddLemmas.{added_law}
use Rattle.am_mount.specs.Rows.{RiseFrom as RowsRise}
use Rattle.am_mount.specs.{mount_row}
use Rattle.am_propagate.specs.MountTable.{MountTable}
use Rattle.am_propagate.specs.{is_mount, IsWhole, grown, ns_in, row_at, rows_at, membership_in, new_group, last_fresh, fresh_groups, stands, new_members, new_groups, fresh_count, groups_made, mounted, HasSource}
use Rattle.am_propagate.proofs.RemovalLemmas.{some_of, same_there}
use Rattle.am_propagate.proofs.GrowthLemmas.{IsKin, ComesWell, grown_whole}
use Rattle.am_propagate.proofs.StandLemmas.{same_receivers, fresh_there, copied_at_once}

-- what the membership of a mount says
in_group_where : (o m : Option ℕ) (u : Bool) (g : ℕ) → membership_where o m u ≡ InGroup g → o ≡ Some g
in_group_where (Some h) m u g e = ap Some (let same : h ≡ g = cc in same)
in_group_where None (Some h) u g e = absurd cc
in_group_where None None true g e = absurd cc
in_group_where None None false g e = absurd cc

slave_where : (o m : Option ℕ) (u : Bool) (g : ℕ) → membership_where o m u ≡ SlaveOf g → (o ≡ None) × (m ≡ Some g)
slave_where (Some h) m u g e = absurd cc
slave_where None (Some h) u g e = (refl, ap Some (let same : h ≡ g = cc in same))
slave_where None None true g e = absurd cc
slave_where None None false g e = absurd cc

in_group_of : (o : Option MemberRow) (g : ℕ) → membership_in o ≡ InGroup g → group_in o ≡ Some g
in_group_of None g e = absurd cc
in_group_of (Some r) g e = in_group_where r.group r.master r.unbindable g e

slave_of : (o : Option MemberRow) (g : ℕ) → membership_in o ≡ SlaveOf g → (group_in o ≡ None) × (slave_in o ≡ Some g)
slave_of None g e = absurd cc
slave_of (Some r) g e = slave_where r.group r.master r.unbindable g e

-- the rows at one place of several parents
module _ (t : MountTable) (place : List (List ℕ)) (fs origin : ℕ) where
  pub length_rows : (number : ℕ) (parents : List ℕ) → length (rows_at t place fs origin number parents) ≡ length parents
  length_rows number [] = refl
  length_rows number (p ∷ parents) = let rest : length (rows_at t place fs origin (number + 1) parents) ≡ length parents = length_rows (number + 1) parents in omega arith

  rows_rise : (low number : ℕ) (parents : List ℕ) → low ≤ number → RowsRise low (rows_at t place fs origin number parents)
  rows_rise low number [] le = tt
  rows_rise low number (p ∷ parents) le = (le, rows_rise (number + 1) (number + 1) parents (omega arith))

  row_found : (number : ℕ) (parents : List ℕ) (m : ℕ) (row : MountRow) → mount_row (rows_at t place fs origin number parents) m ≡ Some row → (p : ℕ) × (has p parents ≡ true) × (m < number + length parents) × (number ≤ m) × (row ≡ row_at t place fs origin m p)
  row_found number [] m row e = absurd cc
  row_found number (p ∷ parents) m row e = go (number == m) refl e (row_found (number + 1) parents m row)
    where
      go : (b : Bool) → (number == m) ≡ b → cond b (Some (row_at t place fs origin number p)) (mount_row (rows_at t place fs origin (number + 1) parents) m) ≡ Some row → (mount_row (rows_at t place fs origin (number + 1) parents) m ≡ Some row → (q : ℕ) × (has q parents ≡ true) × (m < number + 1 + length parents) × (number + 1 ≤ m) × (row ≡ row_at t place fs origin m q)) → (q : ℕ) × (has q (p ∷ parents) ≡ true) × (m < number + length (p ∷ parents)) × (number ≤ m) × (row ≡ row_at t place fs origin m q)
      go true f e ih =
          let same : number ≡ m = eqb-true number m f in
          let here : row_at t place fs origin number p ≡ row = cc in
          (p, or_left (eqb p p) (has p parents) (eq-eqb p p refl), omega arith, omega arith, sym here ∙ ap (λ (n : ℕ). row_at t place fs origin n p) same)
      go false f e ih =
          let rest = ih e in
          let lt : m < number + 1 + length parents = rest.2 in
          let le : number + 1 ≤ m = rest.3 in
          (rest.0, or_right (eqb rest.0 p) (has rest.0 parents) rest.1, omega arith, omega arith, rest.4)

  copy_mount : (stand : ℕ → ℕ) (number : ℕ) (group master : Option ℕ) → (copy_row stand number group master).mount ≡ number
  copy_mount stand number (Some g) master = refl
  copy_mount stand number None master = refl

  same_numbers : (stand : ℕ → ℕ) (s : PeerGroups) (number : ℕ) (receivers : List ℕ) → map (λ row. row.mount) (rows_at t place fs origin number receivers) ≡ numbers (copies_from stand s number receivers)
  same_numbers stand s number [] = refl
  same_numbers stand s number (r ∷ receivers) = rw (copy_mount stand number (group_of s r) (slave_in (member_row s.members r))) (ap (λ (xs : List ℕ). number ∷ xs) (same_numbers stand s (number + 1) receivers))

receives_none : (s : PeerGroups) (b c : ℕ) → group_of s b ≡ None → receives s b c ≡ false
receives_none s b c e = ap (λ (o : Option ℕ). not (c == b) && is_under s o c) e ∙ and_false (not (c == b))

none_pass : (p : ℕ → Bool) (xs : List ℕ) → ((c : ℕ) → p c ≡ false) → filter p xs ≡ []
none_pass p [] none = refl
none_pass p (x ∷ xs) none = rw (none x) (none_pass p xs none)

pub no_receivers : (s : PeerGroups) (b : ℕ) → group_of s b ≡ None → receivers_of s b ≡ []
no_receivers s b e = none_pass (receives s b) (numbers s.members) (λ c. receives_none s b c e)

-- a mount is among the numbers
has_number : (rows : List MemberRow) (m : ℕ) → is_some (member_row rows m) ≡ true → has m (numbers rows) ≡ true
has_number [] m e = absurd cc
has_number (r ∷ rows) m e = go (r.mount == m) refl e (has_number rows m)
  where
    go : (b : Bool) → (r.mount == m) ≡ b → is_some (cond b (Some r) (member_row rows m)) ≡ true → (is_some (member_row rows m) ≡ true → has m (numbers rows) ≡ true) → (eqb m r.mount || has m (numbers rows)) ≡ true
    go true f e ih = or_left (eqb m r.mount) _ (eq-eqb m r.mount (sym (eqb-true r.mount m f)))
    go false f e ih = or_right (eqb m r.mount) _ (ih e)

number_has : (rows : List MemberRow) (m : ℕ) → has m (numbers rows) ≡ true → is_some (member_row rows m) ≡ true
number_has [] m e = absurd cc
number_has (r ∷ rows) m e = go (eqb m r.mount) refl e (number_has rows m)
  where
    some_or : (b : Bool) → is_some (member_row rows m) ≡ true → is_some (cond b (Some r) (member_row rows m)) ≡ true
    some_or true k = refl
    some_or false k = k

    go : (b : Bool) → eqb m r.mount ≡ b → (b || has m (numbers rows)) ≡ true → (has m (numbers rows) ≡ true → is_some (member_row rows m) ≡ true) → is_some (member_row (r ∷ rows) m) ≡ true
    go true f e ih = rw (eq-eqb r.mount m (sym (eqb-true m r.mount f))) refl
    go false f e ih = some_or (r.mount == m) (ih e)

-- the receivers are those of the definition, and mounts
module _ (s : PeerGroups) (sound : IsSound s) (b : ℕ) where
  pub receiver_exact : (r : ℕ) → (has r (receivers_of s b) ≡ true) ↔ Receives s b r
  receiver_exact r = (
    λ h. receives_test s sound.orderly b r (has-from_filter (receives s b) (numbers s.members) r h).1,
    λ h. has-filter (receives s b) (numbers s.members) r (has_number s.members r (there r h)) (receives_found s sound.orderly b r h),
  )
    where
      home_there : (o : Option MemberRow) (h : ℕ) → home_where (group_in o) (slave_in o) ≡ Some h → is_some o ≡ true
      home_there None h e = absurd cc
      home_there (Some x) h e = refl

      there : (r : ℕ) → Receives s b r → is_some (member_row s.members r) ≡ true
      there r h = let under = under_from_way s h.way b r h.arrives in home_there (member_row s.members r) under.2.home under.2.is_home

  pub receiver_there : (r : ℕ) → has r (receivers_of s b) ≡ true → is_some (member_row s.members r) ≡ true
  receiver_there r h = number_has s.members r (has-from_filter (receives s b) (numbers s.members) r h).0

module _ (t : MountTable) (whole : IsWhole t) (at : Position) (fs : ℕ) (membership : Membership) (there : is_mount t at.mount ≡ true) (source : HasSource t fs membership) where
  abbrev s : PeerGroups
  s = t.groups

  above : (m : ℕ) → is_some (member_row t.groups.members m) ≡ true → m < t.last_mount + 1
  above m e =
      let row = some_of (mount_row t.rows m) (same_there t whole m ∙ e) in
      let le : m ≤ t.last_mount = (whole.numbered m row.0 row.1).0 in
      omega arith

  -- the source, where it is shared or a slave
  pub in_group : (g : ℕ) → membership ≡ InGroup g → (a : ℕ) × (row : MountRow) × (mount_row t.rows a ≡ Some row) × (row.fs ≡ fs) × (group_of t.groups a ≡ Some g)
  in_group g e = ⊎_elim
      (λ private. absurd (let no : InGroup g ≡ Private = sym e ∙ private in cc))
      (λ has. (has.0, has.1, has.2, has.3, in_group_of (member_row t.groups.members has.0) g (has.4 ∙ e)))
      source

  in_master : (g : ℕ) → membership ≡ SlaveOf g → (a : ℕ) × (row : MountRow) × (mount_row t.rows a ≡ Some row) × (row.fs ≡ fs) × (group_of t.groups a ≡ None) × (slave_in (member_row t.groups.members a) ≡ Some g)
  in_master g e = ⊎_elim
      (λ private. absurd (let no : SlaveOf g ≡ Private = sym e ∙ private in cc))
      (λ has. let both = slave_of (member_row t.groups.members has.0) g (has.4 ∙ e) in (has.0, has.1, has.2, has.3, both.0, both.1))
      source

  -- the groups that are named are kin
  fresh_kin : (g : ℕ) → t.groups.last_group < g → IsKin t fs fs g
  fresh_kin g lt = inr (lt, refl)

  group_kin : (g : ℕ) → membership ≡ InGroup g → IsKin t fs fs g
  group_kin g e = let a = in_group g e in inl (a.0, a.1, a.2, a.3, record { home = g; is_home = rw (a.4) refl; way = []; leads = refl })

  master_kin : (g : ℕ) → membership ≡ SlaveOf g → IsKin t fs fs g
  master_kin g e = let a = in_master g e in inl (a.0, a.1, a.2, a.3, record { home = g; is_home = rw (a.4) a.5; way = []; leads = refl })

  new_kin : IsKin t fs fs (new_group membership t.groups.last_group)
  new_kin = go membership refl
    where
      go : (k : Membership) → membership ≡ k → IsKin t fs fs (new_group k t.groups.last_group)
      go (InGroup g) e = group_kin g e
      go (SlaveOf g) e = fresh_kin (t.groups.last_group + 1) (omega arith)
      go Private e = fresh_kin (t.groups.last_group + 1) (omega arith)
      go Unbindable e = fresh_kin (t.groups.last_group + 1) (omega arith)

  last_rises : t.groups.last_group ≤ last_fresh membership t.groups.last_group
  last_rises = go membership
    where
      go : (k : Membership) → t.groups.last_group ≤ last_fresh k t.groups.last_group
      go (InGroup g) = omega arith
      go (SlaveOf g) = omega arith
      go Private = omega arith
      go Unbindable = omega arith

  stand_kin : (own : ℕ) (receivers : List ℕ) (g : ℕ) → IsKin t fs fs (stands membership own receivers t.groups g)
  stand_kin own receivers g = go (g == own)
    where
      go : (b : Bool) → IsKin t fs fs (cond b (new_group membership t.groups.last_group) (last_fresh membership t.groups.last_group + 1 + rank g (receiving_groups t.groups receivers own)))
      go true = new_kin
      go false = let le : t.groups.last_group ≤ last_fresh membership t.groups.last_group = last_rises in fresh_kin _ (omega arith)

  mapped : (stand : ℕ → ℕ) → ((g : ℕ) → IsKin t fs fs (stand g)) → (o : Option ℕ) (h : ℕ) → option_map stand o ≡ Some h → IsKin t fs fs h
  mapped stand kin None h e = absurd cc
  mapped stand kin (Some g) h e = subst (λ (x : ℕ). IsKin t fs fs x) (some_injective e) (kin g)

  copy_kin : (stand : ℕ → ℕ) → ((g : ℕ) → IsKin t fs fs (stand g)) → (n : ℕ) (group master : Option ℕ) (h : ℕ) → home_where (copy_row stand n group master).group (copy_row stand n group master).master ≡ Some h → IsKin t fs fs h
  copy_kin stand kin n (Some g) master h e = subst (λ (x : ℕ). IsKin t fs fs x) (some_injective e) (kin g)
  copy_kin stand kin n None master h e = mapped stand kin master h e

  copies_kin : (stand : ℕ → ℕ) → ((g : ℕ) → IsKin t fs fs (stand g)) → (n : ℕ) (rs : List ℕ) (m : ℕ) (r : MemberRow) → member_row (copies_from stand t.groups n rs) m ≡ Some r → (h : ℕ) → home_where r.group r.master ≡ Some h → IsKin t fs fs h
  copies_kin stand kin n [] m r e h home = absurd cc
  copies_kin stand kin n (x ∷ rs) m r e h home = go (copy_row stand n (group_of t.groups x) (slave_in (member_row t.groups.members x))) refl ((copy_row stand n (group_of t.groups x) (slave_in (member_row t.groups.members x))).mount == m) e (copies_kin stand kin (n + 1) rs m r)
    where
      go : (first : MemberRow) → first ≡ copy_row stand n (group_of t.groups x) (slave_in (member_row t.groups.members x)) → (b : Bool) → cond b (Some first) (member_row (copies_from stand t.groups (n + 1) rs) m) ≡ Some r → (member_row (copies_from stand t.groups (n + 1) rs) m ≡ Some r → (h : ℕ) → home_where r.group r.master ≡ Some h → IsKin t fs fs h) → IsKin t fs fs h
      go first is true e ih =
          let same : r ≡ first = cc in
          copy_kin stand kin n (group_of t.groups x) (slave_in (member_row t.groups.members x)) h (subst (λ (y : MemberRow). home_where y.group y.master ≡ Some h) (same ∙ is) home)
      go first is false e ih = ih e h home

  one_found : (row r : MemberRow) (rest : List MemberRow) (m : ℕ) → member_row (row ∷ rest) m ≡ Some r → (r ≡ row) ⊎ (member_row rest m ≡ Some r)
  one_found row r rest m e = go (row.mount == m) e
    where
      go : (b : Bool) → cond b (Some row) (member_row rest m) ≡ Some r → (r ≡ row) ⊎ (member_row rest m ≡ Some r)
      go true e = inl cc
      go false e = inr e

  alone_kin : (k : Membership) → membership ≡ k → (m h : ℕ) → home_where (row_with k m).group (row_with k m).master ≡ Some h → IsKin t fs fs h
  alone_kin (InGroup g) e m h home = group_kin h (e ∙ ap InGroup (some_injective home))
  alone_kin (SlaveOf g) e m h home = master_kin h (e ∙ ap SlaveOf (some_injective home))
  alone_kin Private e m h home = absurd cc
  alone_kin Unbindable e m h home = absurd cc

  member_kin : (own : Option ℕ) (rs : List ℕ) (n m : ℕ) (r : MemberRow) → member_row (new_members membership own rs n t.groups) m ≡ Some r → (h : ℕ) → home_where r.group r.master ≡ Some h → IsKin t fs fs h
  member_kin (Some o) rs n m r e h home = ⊎_elim
      (λ first. subst (λ (x : ℕ). IsKin t fs fs x) (some_injective (subst (λ (y : MemberRow). home_where y.group y.master ≡ Some h) first home)) new_kin)
      (λ later. copies_kin (stands membership o rs t.groups) (stand_kin o rs) (n + 1) rs m r later h home)
      (one_found (row_with (InGroup (new_group membership t.groups.last_group)) n) r _ m e)
  member_kin None rs n m r e h home = ⊎_elim
      (λ first. alone_kin membership refl n h (subst (λ (y : MemberRow). home_where y.group y.master ≡ Some h) first home))
      (λ later. absurd cc)
      (one_found (row_with membership n) r [] m e)

  -- and the masters of the groups that are made
  fresh_found : (k : Membership) → membership ≡ k → (f h : ℕ) (r : GroupRow) → group_row (fresh_groups k f) h ≡ Some r → (n : ℕ) → r.master ≡ Some n → IsKin t fs fs n
  fresh_found (InGroup g) e f h r found n up = absurd cc
  fresh_found (SlaveOf g) e f h r found n up = go (f == h) found
    where
      go : (b : Bool) → cond b (Some (record { group = f; master = Some g })) None ≡ Some r → IsKin t fs fs n
      go true found = let same : Some g ≡ Some n = cc in master_kin n (e ∙ ap SlaveOf (some_injective same))
      go false found = absurd cc
  fresh_found Private e f h r found n up = go (f == h) found
    where
      go : (b : Bool) → cond b (Some (record { group = f; master = None })) None ≡ Some r → IsKin t fs fs n
      go true found = absurd cc
      go false found = absurd cc
  fresh_found Unbindable e f h r found n up = go (f == h) found
    where
      go : (b : Bool) → cond b (Some (record { group = f; master = None })) None ≡ Some r → IsKin t fs fs n
      go true found = absurd cc
      go false found = absurd cc

  made_found : (stand : ℕ → ℕ) → ((g : ℕ) → IsKin t fs fs (stand g)) → (groups : List ℕ) (h : ℕ) (r : GroupRow) → group_row (group_copies stand t.groups groups) h ≡ Some r → (n : ℕ) → r.master ≡ Some n → IsKin t fs fs n
  made_found stand kin [] h r e n up = absurd cc
  made_found stand kin (g ∷ groups) h r e n up = go (stand g == h) e (made_found stand kin groups h r)
    where
      go : (b : Bool) → cond b (Some (record { group = stand g; master = option_map stand (master_of_group t.groups g) })) (group_row (group_copies stand t.groups groups) h) ≡ Some r → (group_row (group_copies stand t.groups groups) h ≡ Some r → (n : ℕ) → r.master ≡ Some n → IsKin t fs fs n) → IsKin t fs fs n
      go true e ih = mapped stand kin (master_of_group t.groups g) n (sym (ap (λ (x : GroupRow). x.master) (row_same e)) ∙ up)
        where
          row_same : {x y : GroupRow} → Some x ≡ Some y → y ≡ x
          row_same e = cc
      go false e ih = ih e n up

  groups_kin : (own : Option ℕ) (rs : List ℕ) (h : ℕ) (r : GroupRow) → group_row (new_groups membership own rs t.groups) h ≡ Some r → (n : ℕ) → r.master ≡ Some n → IsKin t fs fs n
  groups_kin None rs h r e n up = absurd cc
  groups_kin (Some o) rs h r e n up = go (group_row (fresh_groups membership (t.groups.last_group + 1)) h) refl (sym (find-append (λ (x : GroupRow). x.group == h) (fresh_groups membership (t.groups.last_group + 1)) (group_copies (stands membership o rs t.groups) t.groups (receiving_groups t.groups rs o))) ∙ e)
    where
      go : (q : Option GroupRow) → group_row (fresh_groups membership (t.groups.last_group + 1)) h ≡ q → option_or q (group_row (group_copies (stands membership o rs t.groups) t.groups (receiving_groups t.groups rs o)) h) ≡ Some r → IsKin t fs fs n
      go (Some x) f e = fresh_found membership refl (t.groups.last_group + 1) h r (f ∙ e) n up
      go None f e = made_found (stands membership o rs t.groups) (stand_kin o rs) (receiving_groups t.groups rs o) h r e n up

  -- so all together is sound
  number_row : (k : Membership) (n : ℕ) → (row_with k n).mount ≡ n
  number_row (InGroup g) n = refl
  number_row (SlaveOf g) n = refl
  number_row Private n = refl
  number_row Unbindable n = refl

  row_names : (k : Membership) → membership ≡ k → (n g : ℕ) → (row_with k n).group ≡ Some g → HasMembers t.groups g
  row_names (InGroup h) e n g at = let a = in_group g (e ∙ ap InGroup (some_injective at)) in (a.0, a.4)
  row_names (SlaveOf h) e n g at = absurd cc
  row_names Private e n g at = absurd cc
  row_names Unbindable e n g at = absurd cc

  row_masters : (k : Membership) → membership ≡ k → (n g : ℕ) → (row_with k n).master ≡ Some g → HasMembers t.groups g ⊎ IsMaster t.groups g
  row_masters (InGroup h) e n g at = absurd cc
  row_masters (SlaveOf h) e n g at = let a = in_master g (e ∙ ap SlaveOf (some_injective at)) in inr (inl (a.0, a.5))
  row_masters Private e n g at = absurd cc
  row_masters Unbindable e n g at = absurd cc

  only_row : (row r : MemberRow) (m : ℕ) → member_row (row ∷ []) m ≡ Some r → r ≡ row
  only_row row r m e = ⊎_elim (λ same. same) (λ no. absurd cc) (one_found row r [] m e)

  alone_sound : IsSound (all_added (row_with membership (t.last_mount + 1) ∷ []) [] t.groups)
  alone_sound = subst (λ (l : ℕ). IsSound (added (row_with membership (t.last_mount + 1) ∷ []) [] l t.groups)) (no_more t.groups.last_group)
      (joined_keeps t.groups whole.sound (row_with membership (t.last_mount + 1) ∷ []) (t.last_mount + 1) (rw (number_row membership (t.last_mount + 1)) (omega arith, tt)) above
      (λ m g r found e. row_names membership refl (t.last_mount + 1) g (sym (ap (λ (x : MemberRow). x.group) (only_row (row_with membership (t.last_mount + 1)) r m found)) ∙ e))
      (λ m g r found e. row_masters membership refl (t.last_mount + 1) g (sym (ap (λ (x : MemberRow). x.master) (only_row (row_with membership (t.last_mount + 1)) r m found)) ∙ e))).sound
    where
      no_more : (n : ℕ) → n ≡ n + 0
      no_more n = omega arith

  abbrev rs : List ℕ
  rs = receivers_of t.groups at.mount

  abbrev copy_by : (ℕ → ℕ) → ℕ → GroupRow
  copy_by stand g = record { group = stand g; master = option_map stand (master_of_group t.groups g) }

  shared_sound : (own g : ℕ) → group_of t.groups at.mount ≡ Some own → membership ≡ InGroup g →
      IsSound (all_added (new_members (InGroup g) (Some own) (receivers_of t.groups at.mount) (t.last_mount + 1) t.groups) (new_groups (InGroup g) (Some own) (receivers_of t.groups at.mount) t.groups) t.groups)
  shared_sound own g e is =
      let a = in_group g is in
      subst (λ (l : ℕ). IsSound (added (new_members (InGroup g) (Some own) (receivers_of t.groups at.mount) (t.last_mount + 1) t.groups) (new_groups (InGroup g) (Some own) (receivers_of t.groups at.mount) t.groups) l t.groups))
      (ap (λ (l : ℕ). t.groups.last_group + l) (sym (length-map (receiving_groups t.groups (receivers_of t.groups at.mount) own) (copy_by (stands (InGroup g) own (receivers_of t.groups at.mount) t.groups)))))
      (copied_keeps t.groups whole.sound at.mount own e (receivers_of t.groups at.mount) (receiver_exact t.groups whole.sound at.mount) g (t.last_mount + 1) (whole.sound.orderly.group_named a.0 g a.4) above).sound

  fresh_sound : (own : ℕ) → group_of t.groups at.mount ≡ Some own → (master : Option ℕ) → ((g : ℕ) → master ≡ Some g → HasMembers t.groups g) →
      IsSound (all_added
      (row_with (InGroup (t.groups.last_group + 1)) (t.last_mount + 1) ∷ copies_from (stand_in own (t.groups.last_group + 1) (t.groups.last_group + 1) (receiving_groups t.groups (receivers_of t.groups at.mount) own)) t.groups (t.last_mount + 1 + 1) (receivers_of t.groups at.mount))
      ((record { group = t.groups.last_group + 1; master = master }) ∷ [] ++ group_copies (stand_in own (t.groups.last_group + 1) (t.groups.last_group + 1) (receiving_groups t.groups (receivers_of t.groups at.mount) own)) t.groups (receiving_groups t.groups (receivers_of t.groups at.mount) own))
      t.groups)
  fresh_sound own e master known =
      subst (λ (x : PeerGroups). IsSound x) (copied_at_once t.groups whole.sound master own (t.last_mount + 1) (receivers_of t.groups at.mount))
      (copied_keeps (with_group master t.groups) (with_group_keeps t.groups whole.sound master known).sound at.mount own e (receivers_of t.groups at.mount)
      (λ r. (
        (λ h. (same_receivers t.groups whole.sound master at.mount r).0 ((receiver_exact t.groups whole.sound at.mount r).0 h)),
        (λ h. (receiver_exact t.groups whole.sound at.mount r).1 ((same_receivers t.groups whole.sound master at.mount r).1 h)),
      ))
      (t.groups.last_group + 1) (t.last_mount + 1) (fresh_there t.groups whole.sound master) above).sound

  no_master : (g : ℕ) → None ≡ Some g → HasMembers t.groups g
  no_master g e = absurd cc

  new_sound : (own : Option ℕ) → group_of t.groups at.mount ≡ own → (k : Membership) → membership ≡ k →
      IsSound (all_added (new_members k own (receivers_of t.groups at.mount) (t.last_mount + 1) t.groups) (new_groups k own (receivers_of t.groups at.mount) t.groups) t.groups)
  new_sound None e k is = subst (λ (x : Membership). IsSound (all_added (row_with x (t.last_mount + 1) ∷ []) [] t.groups)) is alone_sound
  new_sound (Some own) e (InGroup g) is = shared_sound own g e is
  new_sound (Some own) e (SlaveOf m) is = fresh_sound own e (Some m) (λ g same. let a = in_master g (is ∙ ap SlaveOf (some_injective same)) in whole.sound.peopled g (inl (a.0, a.5)))
  new_sound (Some own) e Private is = fresh_sound own e None no_master
  new_sound (Some own) e Unbindable is = fresh_sound own e None no_master

  same_mounts : (own : Option ℕ) → group_of t.groups at.mount ≡ own →
      map (λ row. row.mount) (rows_at t at.place fs (t.last_mount + 1) (t.last_mount + 1) (at.mount ∷ receivers_of t.groups at.mount)) ≡ numbers (new_members membership own (receivers_of t.groups at.mount) (t.last_mount + 1) t.groups)
  same_mounts (Some own) e = ap (λ (xs : List ℕ). (t.last_mount + 1) ∷ xs) (same_numbers t at.place fs (t.last_mount + 1) (stands membership own (receivers_of t.groups at.mount) t.groups) t.groups (t.last_mount + 1 + 1) (receivers_of t.groups at.mount))
  same_mounts None e = rw (no_receivers t.groups at.mount e, number_row membership (t.last_mount + 1)) refl

  parent_there : (p : ℕ) → has p (at.mount ∷ receivers_of t.groups at.mount) ≡ true → (row : MountRow) × (mount_row t.rows p ≡ Some row)
  parent_there p h = ⊎_elim
      (λ same. some_of (mount_row t.rows p) (subst (λ (x : ℕ). is_some (mount_row t.rows x) ≡ true) (sym (eqb-true p at.mount same)) there))
      (λ receiver. some_of (mount_row t.rows p) (same_there t whole p ∙ receiver_there t.groups whole.sound at.mount p receiver))
      (or_cases (eqb p at.mount) (has p (receivers_of t.groups at.mount)) h)

  abbrev comes : List MountRow
  comes = rows_at t at.place fs (t.last_mount + 1) (t.last_mount + 1) (at.mount ∷ receivers_of t.groups at.mount)

  still_row : (rows : List MountRow) (p : ℕ) (row : MountRow) → mount_row t.rows p ≡ Some row → mount_row (t.rows ++ rows) p ≡ Some row
  still_row rows p row e = find-append (λ (r : MountRow). r.mount == p) t.rows rows ∙ rw e refl

  abbrev mount_of : Option Position → ℕ
  mount_of None = 0
  mount_of (Some p) = p.mount

  abbrev place_at : ℕ → List (List ℕ) → Position
  place_at p place = record { mount = p; place = place }

  same_parent : (o : Option Position) (p q : ℕ) (place place' : List (List ℕ)) → o ≡ Some (place_at p place) → o ≡ Some (place_at q place') → p ≡ q
  same_parent o p q place place' e f = ap mount_of (sym e ∙ f)

  comes_well : ComesWell t (rows_at t at.place fs (t.last_mount + 1) (t.last_mount + 1) (at.mount ∷ receivers_of t.groups at.mount)) (new_members membership (group_of t.groups at.mount) (receivers_of t.groups at.mount) (t.last_mount + 1) t.groups) (new_groups membership (group_of t.groups at.mount) (receivers_of t.groups at.mount) t.groups) t.last_ns fs
  comes_well = record {
    rising = rows_rise t at.place fs (t.last_mount + 1) (t.last_mount + 1) (t.last_mount + 1) (at.mount ∷ receivers_of t.groups at.mount) (omega arith);
    sound = new_sound (group_of t.groups at.mount) refl membership refl;
    same_mounts = same_mounts (group_of t.groups at.mount) refl;
    numbered = λ m row e.
        let found = row_found t at.place fs (t.last_mount + 1) (t.last_mount + 1) (at.mount ∷ receivers_of t.groups at.mount) m row e in
        let parent = parent_there found.0 found.1 in
        let long : length comes ≡ length (at.mount ∷ receivers_of t.groups at.mount) = length_rows t at.place fs (t.last_mount + 1) (t.last_mount + 1) (at.mount ∷ receivers_of t.groups at.mount) in
        let lt : m < t.last_mount + 1 + length (at.mount ∷ receivers_of t.groups at.mount) = found.2 in
        let ns : parent.0.ns ≡ row.ns = sym (ap (λ (x : MountRow). x.ns) found.4 ∙ ap ns_in parent.1) in
        (omega arith, subst (λ (x : ℕ). x ≤ t.last_ns) ns (whole.numbered found.0 parent.0 parent.1).1);
    last_ns = omega arith;
    parents = λ m q row e on.
        let found = row_found t at.place fs (t.last_mount + 1) (t.last_mount + 1) (at.mount ∷ receivers_of t.groups at.mount) m row e in
        let parent = parent_there found.0 found.1 in
        let same : found.0 ≡ q = same_parent row.mountpoint found.0 q at.place on.0 (ap (λ (x : MountRow). x.mountpoint) found.4) on.1 in
        let ns : parent.0.ns ≡ row.ns = sym (ap (λ (x : MountRow). x.ns) found.4 ∙ ap ns_in parent.1) in
        (parent.0, still_row comes q parent.0 (ap (mount_row t.rows) (sym same) ∙ parent.1), ns);
    older = λ m q row e on.
        let found = row_found t at.place fs (t.last_mount + 1) (t.last_mount + 1) (at.mount ∷ receivers_of t.groups at.mount) m row e in
        let parent = parent_there found.0 found.1 in
        let same : found.0 ≡ q = same_parent row.mountpoint found.0 q at.place on.0 (ap (λ (x : MountRow). x.mountpoint) found.4) on.1 in
        let le : found.0 ≤ t.last_mount = (whole.numbered found.0 parent.0 parent.1).0 in
        let next : t.last_mount + 1 ≤ m = found.3 in
        subst (λ (x : ℕ). x < m) same (omega arith);
    row_kin = λ m h member row fm fr home.
        let found = row_found t at.place fs (t.last_mount + 1) (t.last_mount + 1) (at.mount ∷ receivers_of t.groups at.mount) m row fr in
        let is : row.fs ≡ fs = ap (λ (x : MountRow). x.fs) found.4 in
        subst (λ (x : ℕ). IsKin t fs x h) (sym is) (member_kin (group_of t.groups at.mount) (receivers_of t.groups at.mount) (t.last_mount + 1) m member fm h home);
    group_kin = λ h n group fg up. groups_kin (group_of t.groups at.mount) (receivers_of t.groups at.mount) h group fg n up;
  }

  pub added_whole : IsWhole (grown (rows_at t at.place fs (t.last_mount + 1) (t.last_mount + 1) (at.mount ∷ receivers_of t.groups at.mount)) (new_members membership (group_of t.groups at.mount) (receivers_of t.groups at.mount) (t.last_mount + 1) t.groups) (new_groups membership (group_of t.groups at.mount) (receivers_of t.groups at.mount) t.groups) t.last_ns t)
  added_whole = grown_whole t whole _ _ _ t.last_ns fs comes_well

abbrev with_last : MountTable → ℕ → MountTable
with_last x l = record x { last_mount = l }

-- and it is the mount of the definition
pub added_mounted : (t : MountTable) (at : Position) (fs : ℕ) (membership : Membership) → grown (rows_at t at.place fs (t.last_mount + 1) (t.last_mount + 1) (at.mount ∷ receivers_of t.groups at.mount)) (new_members membership (group_of t.groups at.mount) (receivers_of t.groups at.mount) (t.last_mount + 1) t.groups) (new_groups membership (group_of t.groups at.mount) (receivers_of t.groups at.mount) t.groups) t.last_ns t ≡ mounted at fs membership t
added_mounted t at fs membership =
    let long : length (rows_at t at.place fs (t.last_mount + 1) (t.last_mount + 1) (at.mount ∷ receivers_of t.groups at.mount)) ≡ length (at.mount ∷ receivers_of t.groups at.mount) = length_rows t at.place fs (t.last_mount + 1) (t.last_mount + 1) (at.mount ∷ receivers_of t.groups at.mount) in
    let last : t.last_mount + length (rows_at t at.place fs (t.last_mount + 1) (t.last_mount + 1) (at.mount ∷ receivers_of t.groups at.mount)) ≡ t.last_mount + 1 + length (receivers_of t.groups at.mount) = omega arith in
    ap (λ (l : ℕ). with_last (mounted at fs membership t) l) last

abbrev copy_of : PeerGroups → (ℕ → ℕ) → ℕ → GroupRow
copy_of s stand g = record { group = stand g; master = option_map stand (master_of_group s g) }

-- how many peer groups come
pub made_length : (membership : Membership) (own : Option ℕ) (receivers : List ℕ) (s : PeerGroups) → length (new_groups membership own receivers s) ≡ groups_made membership own receivers s
made_length membership None receivers s = refl
made_length membership (Some own) receivers s = go membership (length-map (receiving_groups s receivers own) (copy_of s (stands membership own receivers s)))
  where
    go : (k : Membership) → length (group_copies (stands membership own receivers s) s (receiving_groups s receivers own)) ≡ length (receiving_groups s receivers own) → length (fresh_groups k (s.last_group + 1) ++ group_copies (stands membership own receivers s) s (receiving_groups s receivers own)) ≡ length (receiving_groups s receivers own) + fresh_count k
    go (InGroup g) e = omega arith
    go (SlaveOf g) e = omega arith
    go Private e = omega arith
    go Unbindable e = omega arith

pub mounted_whole : (t : MountTable) → IsWhole t → (at : Position) (fs : ℕ) (membership : Membership) → is_mount t at.mount ≡ true → HasSource t fs membership → IsWhole (mounted at fs membership t)
mounted_whole t whole at fs membership there source = subst (λ (x : MountTable). IsWhole x) (added_mounted t at fs membership) (added_whole t whole at fs membership there source)

pub mounted_law : (t : MountTable) → IsWhole t → (at : Position) (fs : ℕ) (membership : Membership) → AddsNoReceivers t.groups (mounted at fs membership t).groups
mounted_law t whole at fs membership = added_law t.groups _ _ _ whole.sound
