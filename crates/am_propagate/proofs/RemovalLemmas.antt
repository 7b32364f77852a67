-- Mounts that go: what is left keeps the invariant.
use Rattle.std.proofs.Common.{◌≡◌, ◌≢◌, ◌≤◌, ◌<◌, ◌+◌, ℕ, Bool, true, false, cond, eqb, ◌||◌, List, [], ◌∷◌, Option, Some, None, Result, Err, refl, sym, ap, subst, inl, inr, ⊎_elim, ◌∙◌, arith}
use Rattle.std.specs.Prelude.{◌⊎◌, map, filter, find, not, is_some, ◌==◌}
use Rattle.std.specs.List.{list_any, Contains}
use Rattle.std.proofs.lemmas.Bool.{eqb-true, eq-eqb, ne_eqb, or_cases, and_parts}
use Rattle.std.proofs.lemmas.Map.Views.{Contains-from_any, list_any-from_Contains}
use Rattle.std.proofs.lemmas.Cmp.{nat_eq_equiv}
use Rattle.am_names.proofs.Basics.{false_unless_true}
use Rattle.am_names.specs.declared.errno.Errno.{Errno}
use Rattle.am_names.specs.declared.errno.Errno.TheVariants.{NoMemory}
use Rattle.am_names.specs.{MountRow, MemberRow, Position, RefusedAs, is_among}
use Rattle.am_names.specs.PeerGroups.{PeerGroups}
use Rattle.am_group.specs.{member_row, group_in, slave_in, master_where, PropagatesTo, PropagatesBy, Receives, is_kept, lifted_member, with_only, AddsNoReceivers, receivers_of, numbers}
use Rattle.am_group.proofs.LookupLemmas.{find_filter}
use Rattle.am_group.proofs.ChangeLemmas.{without_keeps}
use Rattle.am_mount.specs.{RiseFrom, mount_row, mounts_where, is_position_on, is_child, HasRow, IsIn, IsOn}
use Rattle.am_mount.proofs.RowLemmas.{RiseFrom-filter, in_every}
use Rattle.am_propagate.specs.MountTable.{MountTable}
use Rattle.am_propagate.specs.{is_mount, mountpoint_of, ShareFs, IsWhole, is_bare, is_top_on, goes_with, unmounted, mounts_in, removed, LeavesParents}

-- the numbers of rows that are kept by their number
pub keys-filter : {R : Type 0} (key : R → ℕ) (keeps : ℕ → Bool) (rows : List R) → map key (filter (λ r. keeps (key r)) rows) ≡ filter keeps (map key rows)
keys-filter key keeps [] = refl
keys-filter {R} key keeps (r ∷ rows) = go (keeps (key r)) (keys-filter key keeps rows)
  where
    go : (b : Bool) → map key (filter (λ x. keeps (key x)) rows) ≡ filter keeps (map key rows) → map key (cond b (r ∷ filter (λ x. keeps (key x)) rows) (filter (λ x. keeps (key x)) rows)) ≡ cond b (key r ∷ filter keeps (map key rows)) (filter keeps (map key rows))
    go true ih = ap (λ (xs : List ℕ). key r ∷ xs) ih
    go false ih = ih

pub numbers-settled : (stays : ℕ → Bool) (s : PeerGroups) (rows : List MemberRow) → numbers (map (lifted_member stays s) rows) ≡ numbers rows
numbers-settled stays s [] = refl
numbers-settled stays s (r ∷ rows) = ap (λ (xs : List ℕ). r.mount ∷ xs) (numbers-settled stays s rows)

-- a number is found just where it is among the numbers
found_named : {R : Type 0} (key : R → ℕ) (rows : List R) (m : ℕ) → is_some (find (λ r. key r == m) rows) ≡ is_among (map key rows) m
found_named key [] m = refl
found_named {R} key (r ∷ rows) m = go (key r == m) (found_named key rows m)
  where
    go : (b : Bool) → is_some (find (λ x. key x == m) rows) ≡ is_among (map key rows) m → is_some (cond b (Some r) (find (λ x. key x == m) rows)) ≡ (b || is_among (map key rows) m)
    go true ih = refl
    go false ih = ih

pub some_of : {A : Type 0} (o : Option A) → is_some o ≡ true → (x : A) × (o ≡ Some x)
some_of None e = absurd cc
some_of (Some x) e = (x, refl)

-- what propagation reaches is a mount
touched : (o : Option MemberRow) (s : PeerGroups) (g : ℕ) → (group_in o ≡ Some g) ⊎ (master_where s (group_in o) (slave_in o) ≡ Some g) → is_some o ≡ true
touched None s g (inl e) = absurd cc
touched None s g (inr e) = absurd cc
touched (Some r) s g e = refl

module _ (t : MountTable) (whole : IsWhole t) where
  pub same_there : (m : ℕ) → is_some (mount_row t.rows m) ≡ is_some (member_row t.groups.members m)
  same_there m = found_named (λ (r : MountRow). r.mount) t.rows m ∙ ap (λ (xs : List ℕ). is_among xs m) whole.same_mounts ∙ sym (found_named (λ (r : MemberRow). r.mount) t.groups.members m)

  pub reached_row : (b c : ℕ) → PropagatesTo t.groups b c → (row : MountRow) × (mount_row t.rows c ≡ Some row)
  reached_row b c p = some_of (mount_row t.rows c) (same_there c ∙ touched (member_row t.groups.members c) t.groups p.0 p.2)

  -- all mounts on the way are of one file system
  pub same_along : (way : List ℕ) (b c : ℕ) → PropagatesBy t.groups way b c → ShareFs t.rows b c
  same_along [] b c p = whole.one_fs b c p
  same_along (n ∷ way) b c p = λ x y ex ey.
      let row = reached_row b n p.0 in
      whole.one_fs b n p.0 x row.0 ex row.1 ∙ same_along way n c p.1 row.0 y row.1 ey

  -- so it is after a step that makes no mount receive more and keeps the rows that are left
  pub law_same_fs : (groups : PeerGroups) (b c : ℕ) → AddsNoReceivers t.groups groups → PropagatesTo groups b c → ShareFs t.rows b c
  law_same_fs groups b c law p = λ x y ex ey. go (eqb c b) refl x y ex ey
    where
      go : (e : Bool) → eqb c b ≡ e → (x y : MountRow) → mount_row t.rows b ≡ Some x → mount_row t.rows c ≡ Some y → x.fs ≡ y.fs
      go true f x y ex ey =
          let same : c ≡ b = eqb-true c b f in
          let one : Some x ≡ Some y = sym ex ∙ ap (mount_row t.rows) (sym same) ∙ ey in
          cc
      go false f x y ex ey =
          let other : c ≢ b = λ same. let bad : true ≡ false = sym (eq-eqb c b same) ∙ f in cc in
          let r : Receives t.groups b c = law b c (sym (same_there b) ∙ ap is_some ex) (sym (same_there c) ∙ ap is_some ey) (record { is_other = other; way = []; arrives = p }) in
          same_along r.way b c r.arrives x y ex ey

  left_row : (gone : List ℕ) (m : ℕ) → mount_row (removed gone t).rows m ≡ cond (not (is_among gone m)) (mount_row t.rows m) None
  left_row gone m = find_filter (λ (r : MountRow). r.mount) m (λ n. not (is_among gone n)) t.rows

  stays : (b : Bool) (o : Option MountRow) (row : MountRow) → cond (not b) o None ≡ Some row → (b ≡ false) × (o ≡ Some row)
  stays true o row e = absurd cc
  stays false o row e = (refl, e)

  was_row : (gone : List ℕ) (m : ℕ) (row : MountRow) → mount_row (removed gone t).rows m ≡ Some row → (is_among gone m ≡ false) × (mount_row t.rows m ≡ Some row)
  was_row gone m row e = stays (is_among gone m) (mount_row t.rows m) row (sym (left_row gone m) ∙ e)

  still_row : (gone : List ℕ) (m : ℕ) (row : MountRow) → is_among gone m ≡ false → mount_row t.rows m ≡ Some row → mount_row (removed gone t).rows m ≡ Some row
  still_row gone m row keeps e = left_row gone m ∙ rw keeps e

  pub removed_whole : (gone : List ℕ) → LeavesParents gone t → IsWhole (removed gone t)
  removed_whole gone leaves = record {
    rising = RiseFrom-filter (λ row. not (is_among gone row.mount)) 0 t.rows whole.rising;
    sound = (without_keeps (is_among gone) t.groups whole.sound).sound;
    same_mounts =
        keys-filter (λ (r : MountRow). r.mount) (λ n. not (is_among gone n)) t.rows ∙
        ap (filter (λ n. not (is_among gone n))) whole.same_mounts ∙
        sym (keys-filter (λ (r : MemberRow). r.mount) (λ n. not (is_among gone n)) t.groups.members) ∙
        sym (numbers-settled (is_kept t.groups.members (with_only (λ n. not (is_among gone n)) t.groups).members) (with_only (λ n. not (is_among gone n)) t.groups) (with_only (λ n. not (is_among gone n)) t.groups).members);
    numbered = λ m row e. whole.numbered m row (was_row gone m row e).1;
    parents = λ m p row e on.
        let was = was_row gone m row e in
        let parent = whole.parents m p row was.1 on in
        (parent.0, still_row gone p parent.0 (leaves m p row was.1 on was.0) parent.1, parent.2);
    older = λ m p row e on. whole.older m p row (was_row gone m row e).1 on;
    one_fs = λ b c p x y ex ey.
        law_same_fs (removed gone t).groups b c (without_keeps (is_among gone) t.groups whole.sound).law p x y (was_row gone b x ex).1 (was_row gone c y ey).1;
  }

  pub removed_law : (gone : List ℕ) → AddsNoReceivers t.groups (removed gone t).groups
  removed_law gone = (without_keeps (is_among gone) t.groups whole.sound).law

-- a mount of those whose rows pass has a row that passes
among_where : (test : MountRow → Bool) (rows : List MountRow) (p : ℕ) → is_among (mounts_where test rows) p ≡ true → (row : MountRow) × (test row ≡ true) × (row.mount ≡ p)
among_where test [] p e = absurd cc
among_where test (r ∷ rows) p e = go (test r) refl e (among_where test rows p)
  where
    go : (b : Bool) → test r ≡ b → is_among (map (λ (x : MountRow). x.mount) (cond b (r ∷ filter test rows) (filter test rows))) p ≡ true → (is_among (mounts_where test rows) p ≡ true → (row : MountRow) × (test row ≡ true) × (row.mount ≡ p)) → (row : MountRow) × (test row ≡ true) × (row.mount ≡ p)
    go true f e ih = ⊎_elim (λ here. (r, f, eqb-true r.mount p here)) ih (or_cases (r.mount == p) (is_among (mounts_where test rows) p) e)
    go false f e ih = ih e

-- what is found and passes another test makes that one hold of some row
found_any : (m : ℕ) (test : MountRow → Bool) (rows : List MountRow) (row : MountRow) → mount_row rows m ≡ Some row → test row ≡ true → list_any test rows ≡ true
found_any m test [] row e f = absurd cc
found_any m test (r ∷ rows) row e f = go (r.mount == m) e (found_any m test rows row)
  where
    right : (a b : Bool) → b ≡ true → (a || b) ≡ true
    right true b h = refl
    right false b h = h

    go : (b : Bool) → cond b (Some r) (mount_row rows m) ≡ Some row → (mount_row rows m ≡ Some row → test row ≡ true → list_any test rows ≡ true) → (test r || list_any test rows) ≡ true
    go true e ih = let same : row ≡ r = cc in let passes : test r ≡ true = subst (λ (x : MountRow). test x ≡ true) same f in rw passes refl
    go false e ih = right (test r) (list_any test rows) (ih e f)

on_child : (p : ℕ) (row : MountRow) → IsOn p row → is_child p row ≡ true
on_child p row on = ap (is_position_on p) on.1 ∙ eq-eqb p p refl

goes_bare : (t : MountTable) (m : ℕ) (o : Option Position) (row : MountRow) → is_bare t m ≡ true → goes_with t m o row ≡ true → is_bare t row.mount ≡ true
goes_bare t m None row bare e = subst (λ (x : ℕ). is_bare t x ≡ true) (sym (eqb-true row.mount m e)) bare
goes_bare t m (Some position) row bare e = ⊎_elim
    (λ same. subst (λ (x : ℕ). is_bare t x ≡ true) (sym (eqb-true row.mount m same)) bare)
    (λ copy. (and_parts (is_top_on t (receivers_of t.groups position.mount) position.place row) (is_bare t row.mount) copy).1)
    (or_cases (row.mount == m) _ e)

-- nothing is mounted on what an unmount removes
pub unmounted_leaves : (t : MountTable) (m : ℕ) → is_bare t m ≡ true → LeavesParents (unmounted t m) t
unmounted_leaves t m bare c p row e on stays = false_unless_true (is_among (unmounted t m) p) (λ goes.
    let found = among_where (goes_with t m (mountpoint_of t m)) t.rows p goes in
    let free : is_bare t p ≡ true = subst (λ (x : ℕ). is_bare t x ≡ true) found.2 (goes_bare t m (mountpoint_of t m) found.0 bare found.1) in
    let child : list_any (is_child p) t.rows ≡ true = found_any c (is_child p) t.rows row e (on_child p row on) in
    let no : not true ≡ true = rw child at free in
    cc)

-- the first test that fails refuses the call
refused_with : (T : Type 0) (first : Option Errno) (e : Errno) → first ≡ Some e → RefusedAs {T = T} first (Err e)
refused_with T first NoMemory is = tt
refused_with T first _ is = is

pub refused_as : (T : Type 0) (first : Option Errno) (r : Result T Errno) (e : Errno) → r ≡ Err e → first ≡ Some e → RefusedAs first r
refused_as T first r e told is = subst (λ (x : Result T Errno). RefusedAs first x) (sym told) (refused_with T first e is)

eqb_swap : (a b : ℕ) → eqb a b ≡ eqb b a
eqb_swap a b = grind arith

pub among_has : (c : ℕ) (xs : List ℕ) → list_any (λ x. eqb c x) xs ≡ is_among xs c
among_has c [] = refl
among_has c (x ∷ xs) = rw (among_has c xs, eqb_swap c x) refl

pub among_from : (c : ℕ) (xs : List ℕ) → Contains xs c → is_among xs c ≡ true
among_from c xs h = sym (among_has c xs) ∙ list_any-from_Contains {eq = eqb} nat_eq_equiv c xs h

pub among_contains : (c : ℕ) (xs : List ℕ) → is_among xs c ≡ true → Contains xs c
among_contains c xs h = Contains-from_any {eq = eqb} eqb-true c xs (among_has c xs ∙ h)

-- the parent of a mount of another namespace is of that one
pub dropped_leaves : (t : MountTable) (ns : ℕ) → IsWhole t → LeavesParents (mounts_in t ns) t
dropped_leaves t ns whole c p row e on stays = false_unless_true (is_among (mounts_in t ns) p) (λ goes.
    let parent = whole.parents c p row e on in
    let inside : HasRow (IsIn ns) t.rows p = (in_every ns t.rows whole.rising p).0 (among_contains p (mounts_in t ns) goes) in
    let same : parent.0 ≡ inside.0 = some_same (sym parent.1 ∙ inside.1) in
    let here : row.ns ≡ ns = sym parent.2 ∙ ap (λ (x : MountRow). x.ns) same ∙ inside.2 in
    let among : is_among (mounts_in t ns) c ≡ true = among_from c (mounts_in t ns) ((in_every ns t.rows whole.rising c).1 (row, e, here)) in
    let no : true ≡ false = sym among ∙ stays in
    cc)
  where
    some_same : {x y : MountRow} → Some x ≡ Some y → x ≡ y
    some_same e = cc

-- of rising rows just one is the mount's, where it is there
pub itself_only : (t : MountTable) (m : ℕ) → IsWhole t → mounts_where (goes_with t m None) t.rows ≡ cond (is_mount t m) (m ∷ []) []
itself_only t m whole = only t.rows 0 whole.rising
  where
    none_above : (rows : List MountRow) (low : ℕ) → RiseFrom low rows → m < low → mounts_where (λ row. row.mount == m) rows ≡ []
    none_above [] low rises above = refl
    none_above (r ∷ rows) low rises above =
        let first : low ≤ r.mount = rises.0 in
        rw (ne_eqb r.mount m (λ same. omega arith)) (none_above rows (r.mount + 1) rises.1 (omega arith))

    only : (rows : List MountRow) (low : ℕ) → RiseFrom low rows → mounts_where (λ row. row.mount == m) rows ≡ cond (is_some (mount_row rows m)) (m ∷ []) []
    only [] low rises = refl
    only (r ∷ rows) low rises = go (r.mount == m) refl (only rows (r.mount + 1) rises.1)
      where
        go : (b : Bool) → (r.mount == m) ≡ b → mounts_where (λ row. row.mount == m) rows ≡ cond (is_some (mount_row rows m)) (m ∷ []) [] → map (λ (x : MountRow). x.mount) (cond b (r ∷ filter (λ row. row.mount == m) rows) (filter (λ row. row.mount == m) rows)) ≡ cond (is_some (cond b (Some r) (mount_row rows m))) (m ∷ []) []
        go true e ih =
            let same : r.mount ≡ m = eqb-true r.mount m e in
            ap (λ (n : ℕ). n ∷ mounts_where (λ row. row.mount == m) rows) same ∙
            ap (λ (xs : List ℕ). m ∷ xs) (none_above rows (r.mount + 1) rises.1 (omega arith))
        go false e ih = ih
