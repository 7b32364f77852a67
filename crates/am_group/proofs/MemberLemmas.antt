-- A mount that is added, between those with lower and those with higher numbers.
use Rattle.std.proofs.Common.{◌≡◌, ◌≤◌, ◌<◌, ◌+◌, ℕ, Bool, true, false, cond, List, [], ◌∷◌, ◌++◌, length, take, drop, Option, Some, None, refl, sym, ap, subst, ⊎_elim, ◌∙◌, arith}
use Rattle.std.specs.Prelude.{nat_lt, ◌==◌}
use Rattle.std.specs.List.{insert}
use Rattle.std.proofs.lemmas.Bool.Decides.{nat_tests}
use Rattle.std.specs.Option.{option_or}
use Rattle.std.proofs.lemmas.List.Folds.{find-append}
use Rattle.std.proofs.lemmas.Bool.{eqb-true, ltb-true, ltb-false}
use Rattle.am_names.specs.{GroupRow, MemberRow, Membership, row_with}
use Rattle.am_names.specs.PeerGroups.{PeerGroups}
use Rattle.am_group.specs.{member_row, group_row, has_members, below, above, with_member, is_group, may_have, no_mounts, has_peopled_master, RiseFrom, IsGroup, IsOrderly, IsPeopled, IsSound, AddsNoReceivers}
use Rattle.am_names.specs.declared.membership.Membership.TheVariants.{InGroup, SlaveOf, Private, Unbindable}
use Rattle.am_group.proofs.LookupLemmas.{find_filter, RiseFrom-lower, members_from_test}
use Rattle.am_group.proofs.ChangeLemmas.{KeepsLaw}
use Rattle.am_group.proofs.JoinLemmas.{master_member}
use Rattle.am_group.proofs.GrowLemmas.{grown_law, grown_orderly, grown_peopled, old_is_group, old_member}

-- the rows with lower numbers, up to a row, and those with higher ones
none_lower : (m low : ℕ) (rows : List MemberRow) → m < low → RiseFrom low rows → below m rows ≡ []
none_lower m low [] lt rises = refl
none_lower m low (r ∷ rows) lt rises =
    let first : low ≤ r.mount = rises.0 in
    let no : nat_lt r.mount m ≡ false = grind (arith, nat_tests) in
    rw no (none_lower m (r.mount + 1) rows (omega arith) rises.1)

all_higher : (m low : ℕ) (rows : List MemberRow) → m < low → RiseFrom low rows → above m rows ≡ rows
all_higher m low [] lt rises = refl
all_higher m low (r ∷ rows) lt rises =
    let first : low ≤ r.mount = rises.0 in
    let higher : nat_lt m r.mount ≡ true = grind (arith, nat_tests) in
    rw higher (ap (λ (xs : List MemberRow). r ∷ xs) (all_higher m (r.mount + 1) rows (omega arith) rises.1))

-- a row that isn't found has another number, and so the rest
not_first : (r : MemberRow) (rows : List MemberRow) (m : ℕ) → member_row (r ∷ rows) m ≡ None → ((r.mount == m) ≡ false) × (member_row rows m ≡ None)
not_first r rows m e = go (r.mount == m) e
  where
    go : (b : Bool) → cond b (Some r) (member_row rows m) ≡ None → (b ≡ false) × (member_row rows m ≡ None)
    go true e = absurd cc
    go false e = (refl, e)

-- so it stands where it is put, behind as many rows as have lower numbers
taken : (m low : ℕ) (rows : List MemberRow) → RiseFrom low rows → take (length (below m rows)) rows ≡ below m rows
taken m low [] rises = refl
taken m low (r ∷ rows) rises = go (nat_lt r.mount m) refl (taken m (r.mount + 1) rows rises.1)
  where
    go : (b : Bool) → nat_lt r.mount m ≡ b → take (length (below m rows)) rows ≡ below m rows → take (length (cond b (r ∷ below m rows) (below m rows))) (r ∷ rows) ≡ cond b (r ∷ below m rows) (below m rows)
    go true e ih = ap (λ (xs : List MemberRow). r ∷ xs) ih
    go false e ih =
        let high : m ≤ r.mount = ltb-false r.mount m e in
        rw (none_lower m (r.mount + 1) rows (omega arith) rises.1) refl

dropped : (m low : ℕ) (rows : List MemberRow) → RiseFrom low rows → member_row rows m ≡ None → drop (length (below m rows)) rows ≡ above m rows
dropped m low [] rises new = refl
dropped m low (r ∷ rows) rises new = go (nat_lt r.mount m) refl (dropped m (r.mount + 1) rows rises.1 (not_first r rows m new).1)
  where
    go : (b : Bool) → nat_lt r.mount m ≡ b → drop (length (below m rows)) rows ≡ above m rows → drop (length (cond b (r ∷ below m rows) (below m rows))) (r ∷ rows) ≡ above m (r ∷ rows)
    go true e ih =
        let low : r.mount < m = ltb-true r.mount m e in
        let no : nat_lt m r.mount ≡ false = grind (arith, nat_tests) in
        rw no ih
    go false e ih =
        let high : m ≤ r.mount = ltb-false r.mount m e in
        let apart : (r.mount == m) ≡ false = (not_first r rows m new).0 in
        let higher : nat_lt m r.mount ≡ true = grind (arith, nat_tests) in
        rw (none_lower m (r.mount + 1) rows (omega arith) rises.1, higher, all_higher m (r.mount + 1) rows (omega arith) rises.1) refl

pub put_between : (row : MemberRow) (low : ℕ) (rows : List MemberRow) → RiseFrom low rows → member_row rows row.mount ≡ None → insert rows (length (below row.mount rows)) row ≡ below row.mount rows ++ row ∷ above row.mount rows
put_between row low rows rises new = rw (taken row.mount low rows rises, dropped row.mount low rows rises new) refl

-- and the rows rise
between_rises : (row : MemberRow) (low : ℕ) (rows : List MemberRow) → low ≤ row.mount → RiseFrom low rows → RiseFrom low (below row.mount rows ++ row ∷ above row.mount rows)
between_rises row low [] le rises = (le, tt)
between_rises row low (r ∷ rows) le rises = go (nat_lt r.mount row.mount) (nat_lt row.mount r.mount) refl refl (λ lower. between_rises row (r.mount + 1) rows lower rises.1)
  where
    go : (b c : Bool) → nat_lt r.mount row.mount ≡ b → nat_lt row.mount r.mount ≡ c → (r.mount + 1 ≤ row.mount → RiseFrom (r.mount + 1) (below row.mount rows ++ row ∷ above row.mount rows)) → RiseFrom low (cond b (r ∷ below row.mount rows) (below row.mount rows) ++ row ∷ cond c (r ∷ above row.mount rows) (above row.mount rows))
    go true true e f ih = let a : r.mount < row.mount = ltb-true r.mount row.mount e in let b : row.mount < r.mount = ltb-true row.mount r.mount f in absurd (omega arith)
    go true false e f ih = let a : r.mount < row.mount = ltb-true r.mount row.mount e in (rises.0, ih (omega arith))
    go false true e f ih =
        let b : row.mount < r.mount = ltb-true row.mount r.mount f in
        rw (none_lower row.mount (r.mount + 1) rows (omega arith) rises.1, all_higher row.mount (r.mount + 1) rows (omega arith) rises.1) (le, (omega arith, rises.1))
    go false false e f ih =
        let a : row.mount ≤ r.mount = ltb-false r.mount row.mount e in
        let b : r.mount ≤ row.mount = ltb-false row.mount r.mount f in
        rw (none_lower row.mount (r.mount + 1) rows (omega arith) rises.1, all_higher row.mount (r.mount + 1) rows (omega arith) rises.1) (le, RiseFrom-lower (row.mount + 1) (r.mount + 1) rows (omega arith) rises.1)

-- its number finds it, and each other number what it found before
abbrev new_row : MemberRow → ℕ → Option MemberRow
new_row row m = cond (row.mount == m) (Some row) None

between_or : (row : MemberRow) (rows : List MemberRow) → member_row rows row.mount ≡ None → (m : ℕ) → member_row (below row.mount rows ++ row ∷ above row.mount rows) m ≡ option_or (member_row rows m) (new_row row m)
between_or row rows new m =
    find-append (λ (r : MemberRow). r.mount == m) (below row.mount rows) (row ∷ above row.mount rows) ∙
    rw (find_filter (λ (r : MemberRow). r.mount) m (λ n. nat_lt n row.mount) rows, find_filter (λ (r : MemberRow). r.mount) m (λ n. nat_lt row.mount n) rows) (go (nat_lt m row.mount) (row.mount == m) (nat_lt row.mount m) refl refl refl (member_row rows m) refl)
  where
    go : (a b c : Bool) → nat_lt m row.mount ≡ a → (row.mount == m) ≡ b → nat_lt row.mount m ≡ c → (o : Option MemberRow) → member_row rows m ≡ o → option_or (cond a o None) (cond b (Some row) (cond c o None)) ≡ option_or o (cond b (Some row) None)
    go a true c e f g o k =
        let same : row.mount ≡ m = eqb-true row.mount m f in
        let none : o ≡ None = sym k ∙ ap (λ (x : ℕ). member_row rows x) (sym same) ∙ new in
        rw none (none_or a)
      where
        none_or : (a : Bool) → option_or (cond a None None) (Some row) ≡ Some row
        none_or true = refl
        none_or false = refl
    go true false c e f g None k = none_or c
      where
        none_or : (c : Bool) → cond {A = Option MemberRow} c None None ≡ None
        none_or true = refl
        none_or false = refl
    go true false c e f g (Some r) k = refl
    go false false true e f g None k = refl
    go false false true e f g (Some r) k = refl
    go false false false e f g o k = absurd (grind (arith, nat_tests))

-- a mount that is added so keeps the invariant and the law
module _ (s : PeerGroups) (orderly : IsOrderly s) (m : ℕ) (membership : Membership) (new : member_row s.members m ≡ None) where
  pub row_mount : (k : Membership) → (row_with k m).mount ≡ m
  row_mount (InGroup g) = refl
  row_mount (SlaveOf g) = refl
  row_mount Private = refl
  row_mount Unbindable = refl

  row_new : member_row s.members (row_with membership m).mount ≡ None
  row_new = subst (λ (x : ℕ). member_row s.members x ≡ None) (sym (row_mount membership)) new

  pub put_rows : insert s.members (length (below m s.members)) (row_with membership m) ≡ below (row_with membership m).mount s.members ++ row_with membership m ∷ above (row_with membership m).mount s.members
  put_rows = subst (λ (x : ℕ). insert s.members (length (below x s.members)) (row_with membership m) ≡ below (row_with membership m).mount s.members ++ row_with membership m ∷ above (row_with membership m).mount s.members) (row_mount membership) (put_between (row_with membership m) 0 s.members orderly.rising row_new)

  rows_or : (c : ℕ) → member_row (with_member (row_with membership m) s).members c ≡ option_or (member_row s.members c) (new_row (row_with membership m) c)
  rows_or c = between_or (row_with membership m) s.members row_new c

  groups_or : (h : ℕ) → group_row (with_member (row_with membership m) s).groups h ≡ option_or (group_row s.groups h) None
  groups_or h = none_more (group_row s.groups h)
    where
      none_more : (o : Option GroupRow) → o ≡ option_or o None
      none_more None = refl
      none_more (Some r) = refl

  is_new : (c : ℕ) (r : MemberRow) → new_row (row_with membership m) c ≡ Some r → r ≡ row_with membership m
  is_new c r e = go ((row_with membership m).mount == c) e
    where
      go : (b : Bool) → cond b (Some (row_with membership m)) None ≡ Some r → r ≡ row_with membership m
      go true e = cc
      go false e = absurd cc

  old_group : (g : ℕ) → IsGroup s g → IsGroup (with_member (row_with membership m) s) g
  old_group = old_is_group s (with_member (row_with membership m) s) (new_row (row_with membership m)) (λ h. None) rows_or groups_or

  group_there : (k : Membership) (g : ℕ) → may_have s k ≡ true → (row_with k m).group ≡ Some g → IsGroup s g
  group_there (InGroup h) g may e = subst (λ (x : ℕ). IsGroup s x) (let same : h ≡ g = cc in same) may
  group_there (SlaveOf h) g may e = absurd cc
  group_there Private g may e = absurd cc
  group_there Unbindable g may e = absurd cc

  master_there : (k : Membership) (g : ℕ) → may_have s k ≡ true → (row_with k m).master ≡ Some g → IsGroup s g
  master_there (InGroup h) g may e = absurd cc
  master_there (SlaveOf h) g may e = subst (λ (x : ℕ). IsGroup s x) (let same : h ≡ g = cc in same) may
  master_there Private g may e = absurd cc
  master_there Unbindable g may e = absurd cc

  pub member_orderly : may_have s membership ≡ true → IsOrderly (with_member (row_with membership m) s)
  member_orderly may = grown_orderly s (with_member (row_with membership m) s) (new_row (row_with membership m)) (λ h. None) rows_or groups_or orderly (record {
    rising = between_rises (row_with membership m) 0 s.members (omega arith) orderly.rising;
    groups_rising = orderly.groups_rising;
    row_group = λ c g r found e. old_group g (group_there membership g may (sym (ap (λ (x : MemberRow). x.group) (is_new c r found)) ∙ e));
    row_master = λ c g r found e. old_group g (master_there membership g may (sym (ap (λ (x : MemberRow). x.master) (is_new c r found)) ∙ e));
    group_master = λ h g r found e. absurd cc;
    group_last = λ h r found. absurd cc;
    last_rises = omega arith;
  })

  pub member_law : IsPeopled s → AddsNoReceivers s (with_member (row_with membership m) s)
  member_law peopled = grown_law s (with_member (row_with membership m) s) (new_row (row_with membership m)) (λ h. None) rows_or groups_or (record { orderly = orderly; peopled = peopled })

  pub member_peopled : IsPeopled s → has_peopled_master s (row_with membership m).master ≡ true → IsPeopled (with_member (row_with membership m) s)
  member_peopled peopled has = grown_peopled s (with_member (row_with membership m) s) (new_row (row_with membership m)) (λ h. None) rows_or groups_or peopled
      (λ c g r found e.
      old_member s (with_member (row_with membership m) s) (new_row (row_with membership m)) (λ h. None) rows_or groups_or g
      (master_member s orderly (row_with membership m).master has g (sym (ap (λ (x : MemberRow). x.master) (is_new c r found)) ∙ e)))
      (λ h g r found e. absurd cc)

-- a mount in a group that is there, or a slave of one that has members
abbrev pub names_peopled : PeerGroups → Membership → Bool
names_peopled s (InGroup g) = is_group s g
names_peopled s (SlaveOf g) = has_members s.members g
names_peopled s Private = true
names_peopled s Unbindable = true

pub member_keeps : (s : PeerGroups) → IsSound s → (m : ℕ) (membership : Membership) → member_row s.members m ≡ None → names_peopled s membership ≡ true → KeepsLaw s (with_member (row_with membership m) s)
member_keeps s sound m membership new names = record {
  sound = record {
    orderly = member_orderly s sound.orderly m membership new (may membership names);
    peopled = member_peopled s sound.orderly m membership new sound.peopled (has membership names);
  };
  law = member_law s sound.orderly m membership new sound.peopled;
}
  where
    may : (k : Membership) → names_peopled s k ≡ true → may_have s k ≡ true
    may (InGroup g) e = e
    may (SlaveOf g) e = let member = members_from_test s g sound.orderly.rising e in sound.orderly.group_named member.0 g member.1
    may Private e = refl
    may Unbindable e = refl

    has : (k : Membership) → names_peopled s k ≡ true → has_peopled_master s (row_with k m).master ≡ true
    has (InGroup g) e = refl
    has (SlaveOf g) e = e
    has Private e = refl
    has Unbindable e = refl

-- no mount and no peer group is orderly
pub none_orderly : IsOrderly no_mounts
none_orderly = record {
  rising = tt;
  groups_rising = tt;
  group_named = λ m g e. absurd cc;
  master_named = λ g e. ⊎_elim (λ m. let bad : None ≡ Some g = m.1 in absurd cc) (λ h. let bad : None ≡ Some g = h.1 in absurd cc) e;
  down = λ h g e. absurd cc;
  fresh = λ g e. absurd cc;
}
