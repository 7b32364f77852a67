-- Mounts that come: what they have to show so that the invariant holds of all together.
use Rattle.std.proofs.Common.{◌≡◌, ◌≤◌, ◌<◌, ◌+◌, ◌⊎◌, ℕ, Bool, true, false, List, [], ◌∷◌, ◌++◌, length, Option, Some, None, refl, sym, ap, subst, inl, inr, ⊎_elim, ◌∙◌, arith}
use Rattle.std.specs.Prelude.{map, is_some, ◌==◌}
use Rattle.std.specs.Option.{option_or}
use Rattle.std.proofs.lemmas.List.{map-append}
use Rattle.std.proofs.lemmas.List.Folds.{find-append}
use Rattle.std.proofs.lemmas.Bool.{eqb-true, eq-eqb}
use Rattle.am_names.specs.{MountRow, MemberRow, GroupRow}
use Rattle.am_names.specs.PeerGroups.{PeerGroups}
use Rattle.am_group.specs.{member_row, group_row, group_in, slave_in, master_in, group_of, master_of_group, PropagatesTo, all_added, IsGroup, HasMembers, IsSound, AddsNoReceivers, numbers}
use Rattle.am_group.proofs.ReceiveLemmas.{LeadsUp, home_where, home_of, IsUnder, leads_more, under_from_way, reached_from_under}
use Rattle.am_group.proofs.AddLemmas.{added_law}
use Rattle.am_mount.specs.{RiseFrom, mount_row, HasRow, IsIn, IsOn}
use Rattle.am_propagate.specs.MountTable.{MountTable}
use Rattle.am_propagate.specs.{ShareFs, IsWhole, grown}
use Rattle.am_propagate.proofs.RemovalLemmas.{some_of, same_there, same_along}

-- rows that follow rise too
pub rows_follow : (low c : ℕ) (xs ys : List MountRow) → RiseFrom low xs → low ≤ c → ((m : ℕ) (row : MountRow) → mount_row xs m ≡ Some row → m < c) → RiseFrom c ys → RiseFrom low (xs ++ ys)
rows_follow low c [] [] rises le below more = tt
rows_follow low c [] (y ∷ ys) rises le below more = let first : c ≤ y.mount = more.0 in (omega arith, more.1)
rows_follow low c (x ∷ xs) ys rises le below more =
    let here : x.mount < c = below x.mount x (rw (eq-eqb x.mount x.mount refl) refl) in
    (rises.0, rows_follow (x.mount + 1) c xs ys rises.1 (omega arith) (λ m row e. go m row (x.mount == m) refl e) more)
  where
    go : (m : ℕ) (row : MountRow) (b : Bool) → (x.mount == m) ≡ b → mount_row xs m ≡ Some row → m < c
    go m row true f e = let same : x.mount ≡ m = eqb-true x.mount m f in let here : x.mount < c = below x.mount x (rw (eq-eqb x.mount x.mount refl) refl) in omega arith
    go m row false f e = below m row (rw f e)

-- the mounts of one family have one file system
module _ (t : MountTable) (whole : IsWhole t) where
  has_members_above : (way : List ℕ) (h g : ℕ) → HasMembers t.groups h → LeadsUp t.groups way h g → HasMembers t.groups g
  has_members_above [] h g member leads = subst (λ (x : ℕ). HasMembers t.groups x) leads member
  has_members_above (n ∷ way) h g member leads = has_members_above way n g (whole.sound.peopled n (inr (h, leads.0))) leads.1

  home_has_members : (m h : ℕ) → home_of t.groups m ≡ Some h → HasMembers t.groups h
  home_has_members m h e = go (group_of t.groups m) refl e
    where
      go : (o : Option ℕ) → group_of t.groups m ≡ o → home_where o (slave_in (member_row t.groups.members m)) ≡ Some h → HasMembers t.groups h
      go (Some g) f e = (m, f ∙ e)
      go None f e = whole.sound.peopled h (inl (m, e))

  under_has_members : (m g : ℕ) → IsUnder t.groups m g → HasMembers t.groups g
  under_has_members m g under = has_members_above under.way under.home g (home_has_members m under.home under.is_home) under.leads

  stands_if_grouped : (o : Option MemberRow) (g : ℕ) → group_in o ≡ Some g → is_some o ≡ true
  stands_if_grouped None g e = absurd cc
  stands_if_grouped (Some r) g e = refl

  under_same_fs : (a b g : ℕ) → IsUnder t.groups a g → IsUnder t.groups b g → ShareFs t.rows a b
  under_same_fs a b g under_a under_b x y ex ey =
      let member = under_has_members a g under_a in
      let row = some_of (mount_row t.rows member.0) (same_there t whole member.0 ∙ stands_if_grouped (member_row t.groups.members member.0) g member.1) in
      let to_a = reached_from_under t.groups whole.sound.peopled member.0 a g member.1 under_a in
      let to_b = reached_from_under t.groups whole.sound.peopled member.0 b g member.1 under_b in
      sym (same_along t whole to_a.0 member.0 a to_a.1 row.0 x row.1 ex) ∙ same_along t whole to_b.0 member.0 b to_b.1 row.0 y row.1 ey

  under_group : (m g : ℕ) → IsUnder t.groups m g → IsGroup t.groups g
  under_group m g under = let member = under_has_members m g under in whole.sound.orderly.group_named member.0 g member.1

-- a mount of this file system is under the peer group, or the group is new
abbrev pub IsKin : MountTable → ℕ → ℕ → ℕ → Type 0
IsKin t new fs g =
    ((a : ℕ) × (row : MountRow) × (mount_row t.rows a ≡ Some row) × (row.fs ≡ fs) × IsUnder t.groups a g) ⊎
    ((t.groups.last_group < g) × (fs ≡ new))

-- what comes: rows above all that are there, of the same mounts as the members, whose parents are
-- there and older; the peer groups that they name are of their file system, or new
pub record ComesWell (t : MountTable) (rows : List MountRow) (members : List MemberRow) (groups : List GroupRow) (ns fs : ℕ) : Type 0 where
  pub rising : RiseFrom (t.last_mount + 1) rows
  pub sound : IsSound (all_added members groups t.groups)
  pub same_mounts : map (λ row. row.mount) rows ≡ numbers members
  pub numbered : (m : ℕ) (row : MountRow) → mount_row rows m ≡ Some row → (m ≤ t.last_mount + length rows) × (row.ns ≤ ns)
  pub last_ns : t.last_ns ≤ ns
  pub parents : (m p : ℕ) (row : MountRow) → mount_row rows m ≡ Some row → IsOn p row → HasRow (IsIn row.ns) (t.rows ++ rows) p
  pub older : (m p : ℕ) (row : MountRow) → mount_row rows m ≡ Some row → IsOn p row → p < m
  pub row_kin : (m h : ℕ) (member : MemberRow) (row : MountRow) → member_row members m ≡ Some member → mount_row rows m ≡ Some row → home_where member.group member.master ≡ Some h → IsKin t fs row.fs h
  pub group_kin : (h n : ℕ) (group : GroupRow) → group_row groups h ≡ Some group → group.master ≡ Some n → IsKin t fs fs n

module _ (t : MountTable) (whole : IsWhole t) (rows : List MountRow) (members : List MemberRow) (groups : List GroupRow) (ns fs : ℕ) (well : ComesWell t rows members groups ns fs) where
  abbrev after : PeerGroups
  after = all_added members groups t.groups

  rows_or : (m : ℕ) → mount_row (t.rows ++ rows) m ≡ option_or (mount_row t.rows m) (mount_row rows m)
  rows_or m = find-append (λ (r : MountRow). r.mount == m) t.rows rows

  members_or : (m : ℕ) → member_row (t.groups.members ++ members) m ≡ option_or (member_row t.groups.members m) (member_row members m)
  members_or m = find-append (λ (r : MemberRow). r.mount == m) t.groups.members members

  groups_or : (h : ℕ) → group_row (t.groups.groups ++ groups) h ≡ option_or (group_row t.groups.groups h) (group_row groups h)
  groups_or h = find-append (λ (r : GroupRow). r.group == h) t.groups.groups groups

  -- a row that is found is an old one, or a new one
  row_cases : (m : ℕ) (row : MountRow) → mount_row (t.rows ++ rows) m ≡ Some row → (mount_row t.rows m ≡ Some row) ⊎ ((mount_row t.rows m ≡ None) × (mount_row rows m ≡ Some row))
  row_cases m row e = go (mount_row t.rows m) refl (sym (rows_or m) ∙ e)
    where
      go : (o : Option MountRow) → mount_row t.rows m ≡ o → option_or o (mount_row rows m) ≡ Some row → (mount_row t.rows m ≡ Some row) ⊎ ((mount_row t.rows m ≡ None) × (mount_row rows m ≡ Some row))
      go (Some x) f e = inl (f ∙ e)
      go None f e = inr (f, e)

  pub old_row : (m : ℕ) (row : MountRow) → mount_row t.rows m ≡ Some row → mount_row (t.rows ++ rows) m ≡ Some row
  old_row m row e = rows_or m ∙ rw e refl

  old_is_some : (m : ℕ) (row : MountRow) → mount_row t.rows m ≡ Some row → is_some (member_row t.groups.members m) ≡ true
  old_is_some m row e = sym (same_there t whole m) ∙ ap is_some e

  none_is_none : (m : ℕ) → mount_row t.rows m ≡ None → is_some (member_row t.groups.members m) ≡ false
  none_is_none m e = sym (same_there t whole m) ∙ ap is_some e

  -- an old mount has the home that it had
  keeps_old : (o p : Option MemberRow) → is_some o ≡ true → option_or o p ≡ o
  keeps_old None p e = absurd cc
  keeps_old (Some r) p e = refl

  takes_new : (o p : Option MemberRow) → is_some o ≡ false → option_or o p ≡ p
  takes_new None p e = refl
  takes_new (Some r) p e = absurd cc

  abbrev home_at : Option MemberRow → Option ℕ
  home_at o = home_where (group_in o) (slave_in o)

  member_home : (o : Option MemberRow) (h : ℕ) → home_at o ≡ Some h → (r : MemberRow) × (o ≡ Some r) × (home_where r.group r.master ≡ Some h)
  member_home None h e = absurd cc
  member_home (Some r) h e = (r, refl, e)

  home_kin : (m h : ℕ) (row : MountRow) → mount_row (t.rows ++ rows) m ≡ Some row → home_of after m ≡ Some h → IsKin t fs row.fs h
  home_kin m h row e home = ⊎_elim
      (λ old.
      let same : home_of t.groups m ≡ Some h = ap home_at (sym (members_or m ∙ keeps_old (member_row t.groups.members m) (member_row members m) (old_is_some m row old))) ∙ home in
      inl (m, row, old, refl, record { home = h; is_home = same; way = []; leads = refl }))
      (λ new.
      let found = member_home (member_row members m) h (ap home_at (sym (members_or m ∙ takes_new (member_row t.groups.members m) (member_row members m) (none_is_none m new.0))) ∙ home) in
      well.row_kin m h found.0 row found.1 new.1 found.2)
      (row_cases m row e)

  master_in_some : (o : Option GroupRow) (g : ℕ) → master_in o ≡ Some g → (r : GroupRow) × (o ≡ Some r) × (r.master ≡ Some g)
  master_in_some None g e = absurd cc
  master_in_some (Some r) g e = (r, refl, e)

  -- the master of a kin group is kin
  master_kin : (h n x : ℕ) → IsKin t fs x h → master_of_group after h ≡ Some n → IsKin t fs x n
  master_kin h n x kin up = go (group_row t.groups.groups h) refl kin (ap master_in (sym (groups_or h)) ∙ up)
    where
      go : (o : Option GroupRow) → group_row t.groups.groups h ≡ o → IsKin t fs x h → master_in (option_or o (group_row groups h)) ≡ Some n → IsKin t fs x n
      go (Some r) f (inl a) up = inl (a.0, a.1, a.2, a.3, record { home = a.4.home; is_home = a.4.is_home; way = a.4.way ++ n ∷ []; leads = leads_more t.groups a.4.way a.4.home h n a.4.leads (ap master_in f ∙ up) })
      go (Some r) f (inr new) up =
          let le : h ≤ t.groups.last_group = whole.sound.orderly.fresh h (ap is_some f) in
          let lt : t.groups.last_group < h = new.0 in
          absurd (omega arith)
      go None f (inl a) up =
          let there : is_some (group_row t.groups.groups h) ≡ true = under_group t whole a.0 h a.4 in
          absurd (let no : false ≡ true = ap is_some (sym f) ∙ there in cc)
      go None f (inr new) up =
          let found = master_in_some (group_row groups h) n up in
          subst (λ (y : ℕ). IsKin t fs y n) (sym new.1) (well.group_kin h n found.0 found.1 found.2)

  way_kin : (way : List ℕ) (h g x : ℕ) → IsKin t fs x h → LeadsUp after way h g → IsKin t fs x g
  way_kin [] h g x kin leads = subst (λ (y : ℕ). IsKin t fs x y) leads kin
  way_kin (n ∷ way) h g x kin leads = way_kin way n g x (master_kin h n x kin leads.0) leads.1

  under_kin : (m g : ℕ) (row : MountRow) → mount_row (t.rows ++ rows) m ≡ Some row → IsUnder after m g → IsKin t fs row.fs g
  under_kin m g row e under = way_kin under.way under.home g row.fs (home_kin m under.home row e under.is_home) under.leads

  kin_same : (x y g : ℕ) → IsKin t fs x g → IsKin t fs y g → x ≡ y
  kin_same x y g (inl a) (inl b) = sym a.3 ∙ under_same_fs t whole a.0 b.0 g a.4 b.4 a.1 b.1 a.2 b.2 ∙ b.3
  kin_same x y g (inr a) (inr b) = a.1 ∙ sym b.1
  kin_same x y g (inl a) (inr b) =
      let le : g ≤ t.groups.last_group = whole.sound.orderly.fresh g (under_group t whole a.0 g a.4) in
      let lt : t.groups.last_group < g = b.0 in
      absurd (omega arith)
  kin_same x y g (inr a) (inl b) =
      let le : g ≤ t.groups.last_group = whole.sound.orderly.fresh g (under_group t whole b.0 g b.4) in
      let lt : t.groups.last_group < g = a.0 in
      absurd (omega arith)

  in_group_under : (m g : ℕ) → group_of after m ≡ Some g → IsUnder after m g
  in_group_under m g e = record { home = g; is_home = rw e refl; way = []; leads = refl }

  grown_fs : (b c : ℕ) → PropagatesTo after b c → ShareFs (t.rows ++ rows) b c
  grown_fs b c p x y ex ey =
      let found = under_from_way after [] b c p in
      kin_same x.fs y.fs found.0 (under_kin b found.0 x ex (in_group_under b found.0 found.1)) (under_kin c found.0 y ey found.2)

  pub grown_whole : IsWhole (grown rows members groups ns t)
  grown_whole = record {
    rising = rows_follow 0 (t.last_mount + 1) t.rows rows whole.rising (omega arith) (λ m row e. let le : m ≤ t.last_mount = (whole.numbered m row e).0 in omega arith) well.rising;
    sound = well.sound;
    same_mounts = map-append (λ (r : MountRow). r.mount) t.rows rows ∙ rw (whole.same_mounts, well.same_mounts) (sym (map-append (λ (r : MemberRow). r.mount) t.groups.members members));
    numbered = λ m row e. ⊎_elim
        (λ old.
        let both = whole.numbered m row old in
        let le : m ≤ t.last_mount = both.0 in
        let low : row.ns ≤ t.last_ns = both.1 in
        let up : t.last_ns ≤ ns = well.last_ns in
        (omega arith, omega arith))
        (λ new. well.numbered m row new.1)
        (row_cases m row e);
    parents = λ m p row e on. ⊎_elim
        (λ old. let parent = whole.parents m p row old on in (parent.0, old_row p parent.0 parent.1, parent.2))
        (λ new. well.parents m p row new.1 on)
        (row_cases m row e);
    older = λ m p row e on. ⊎_elim
        (λ old. whole.older m p row old on)
        (λ new. well.older m p row new.1 on)
        (row_cases m row e);
    one_fs = grown_fs;
  }

  pub grown_law : AddsNoReceivers t.groups (grown rows members groups ns t).groups
  grown_law = added_law t.groups members groups (t.groups.last_group + length groups) whole.sound
