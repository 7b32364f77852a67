-- The lists of mounts and peer groups, as rows come and go.
use Rattle.std.proofs.Common.{◌≡◌, ◌≤◌, ◌<◌, ◌+◌, ◌-◌, ℕ, Bool, true, false, cond, List, [], ◌∷◌, ◌++◌, length, take, drop, get_or, Option, Some, None, refl, sym, ap, subst, ◌∙◌, arith}
use Rattle.std.specs.Prelude.{not, filter, map, ◌==◌, ◌&&◌, ◌||◌}
use Rattle.std.specs.List.Sorted.{IsStrictlyIncreasing}
use Rattle.std.proofs.lemmas.List.{drop_more}
use Rattle.am_names.specs.{MemberRow, GroupRow, RiseBy, is_among}
use Rattle.am_names.specs.PeerGroups.{PeerGroups}
use Rattle.am_index.specs.{DropsLast, Index, ListsRise, SameLists, but, listed, moved, numbered}
use Rattle.am_index.proofs.RowLemmas.{added_more, added_less, none_less, number_found, numbered_append, numbered_changed, numbered_more, numbered_put, some_less}
use Rattle.am_group.specs.Invariant.{GroupsRise}
use Rattle.am_group.specs.declared.mount_state.Change.TheVariants.{MakeShared, MakeSlave, MakePrivate, MakeUnbindable}
use Rattle.am_group.specs.{Change, row_of, shared_from, slave_from, AllAreAdded, AllRise, AreAdded, AreIndexed, AreMoved, AreWith, AreWithout, GroupsAreAdded, HaveSameLists, IsOrderly, IsWithGroup, IsWithoutGroup, Indexes, ListGroups, ListMembers, RiseFrom, above, at_row, below, group_row, member_row, groups_where, has_master, is_below_it, is_in, is_just, mounts_where}
use Rattle.am_group.proofs.LookupLemmas.{RiseBy-filter}
use Rattle.am_group.proofs.ScanLemmas.{numbers_rise}

abbrev mount_of : MemberRow → ℕ
mount_of row = row.mount

abbrev number_of : GroupRow → ℕ
number_of row = row.group

no_more : (xs : List ℕ) → xs ++ [] ≡ xs
no_more [] = refl
no_more (x ∷ xs) = ap (λ (ys : List ℕ). x ∷ ys) (no_more xs)

pub added_none : (old new : Indexes) → AreAdded [] old new → HaveSameLists old new
added_none old new a = record {
  members = λ n. a.members n ∙ no_more (listed old.members n);
  slaves = λ n. a.slaves n ∙ no_more (listed old.slaves n);
  below = a.below;
}

pub groups_added_none : (old new : Indexes) → GroupsAreAdded [] old new → HaveSameLists old new
groups_added_none old new a = record {
  members = a.members;
  slaves = a.slaves;
  below = λ n. a.below n ∙ no_more (listed old.below n);
}

-- nothing is added yet
pub none_added : (old new : Indexes) → HaveSameLists old new → AreAdded [] old new
none_added old new a = record {
  members = λ n. a.members n ∙ sym (no_more (listed old.members n));
  slaves = λ n. a.slaves n ∙ sym (no_more (listed old.slaves n));
  below = a.below;
}

pub no_groups_added : (old new : Indexes) → HaveSameLists old new → GroupsAreAdded [] old new
no_groups_added old new a = record {
  members = a.members;
  slaves = a.slaves;
  below = λ n. a.below n ∙ sym (no_more (listed old.below n));
}

pub same_lists : (t : Indexes) → HaveSameLists t t
same_lists t = record { members = λ n. refl; slaves = λ n. refl; below = λ n. refl }

-- the same lists, one after another
pub same_then : (old mid new : Indexes) → HaveSameLists old mid → HaveSameLists mid new → HaveSameLists old new
same_then old mid new a b = record {
  members = λ n. b.members n ∙ a.members n;
  slaves = λ n. b.slaves n ∙ a.slaves n;
  below = λ n. b.below n ∙ a.below n;
}

pub added_then_same :
    (rows : List MemberRow) (old mid new : Indexes) → AreAdded rows old mid → HaveSameLists mid new →
    AreAdded rows old new
added_then_same rows old mid new a b = record {
  members = λ n. b.members n ∙ a.members n;
  slaves = λ n. b.slaves n ∙ a.slaves n;
  below = λ n. b.below n ∙ a.below n;
}

pub groups_added_then_same :
    (rows : List GroupRow) (old mid new : Indexes) → GroupsAreAdded rows old mid → HaveSameLists mid new →
    GroupsAreAdded rows old new
groups_added_then_same rows old mid new a b = record {
  members = λ n. b.members n ∙ a.members n;
  slaves = λ n. b.slaves n ∙ a.slaves n;
  below = λ n. b.below n ∙ a.below n;
}

-- one mount less, the last
pub one_back :
    (rows : List MemberRow) (left : ℕ) (row : MemberRow) → 0 < left → left ≤ length rows →
    row ≡ get_or rows (left - 1) row → (old mid new : Indexes) → AreAdded (take left rows) old mid →
    DropsLast (λ n. is_just n row.group) mid.members new.members →
    DropsLast (λ n. is_just n row.master) mid.slaves new.slaves →
    SameLists mid.below new.below → AreAdded (take (left - 1) rows) old new
one_back rows left row some within is old mid new a members slaves below = record {
  members = λ n.
      added_less mount_of (is_in n) rows (left - 1) row (omega arith) is (listed old.members n) (listed mid.members n) (listed new.members n)
      (a.members n ∙ longer (is_in n) (listed old.members n)) (members n);
  slaves = λ n.
      added_less mount_of (has_master n) rows (left - 1) row (omega arith) is (listed old.slaves n) (listed mid.slaves n) (listed new.slaves n)
      (a.slaves n ∙ longer (has_master n) (listed old.slaves n)) (slaves n);
  below = λ n. below n ∙ a.below n;
}
  where
    longer :
        (t : MemberRow → Bool) (xs : List ℕ) →
        xs ++ mounts_where t (take left rows) ≡ xs ++ mounts_where t (take ((left - 1) + 1) rows)
    longer t xs = ap (λ (k : ℕ). xs ++ mounts_where t (take k rows)) (omega arith)

pub one_group_back :
    (rows : List GroupRow) (left : ℕ) (row : GroupRow) → 0 < left → left ≤ length rows →
    row ≡ get_or rows (left - 1) row → (old mid new : Indexes) → GroupsAreAdded (take left rows) old mid →
    SameLists mid.members new.members → SameLists mid.slaves new.slaves →
    DropsLast (λ n. is_just n row.master) mid.below new.below →
    GroupsAreAdded (take (left - 1) rows) old new
one_group_back rows left row some within is old mid new a members slaves below = record {
  members = λ n. members n ∙ a.members n;
  slaves = λ n. slaves n ∙ a.slaves n;
  below = λ n.
      added_less number_of (is_below_it n) rows (left - 1) row (omega arith) is (listed old.below n) (listed mid.below n) (listed new.below n)
      (a.below n ∙ longer (is_below_it n) (listed old.below n)) (below n);
}
  where
    longer :
        (t : GroupRow → Bool) (xs : List ℕ) →
        xs ++ groups_where t (take left rows) ≡ xs ++ groups_where t (take ((left - 1) + 1) rows)
    longer t xs = ap (λ (k : ℕ). xs ++ groups_where t (take k rows)) (omega arith)

-- one more
pub one_more :
    (rows : List MemberRow) (i : ℕ) (row : MemberRow) → i < length rows → row ≡ get_or rows i row →
    (old mid new : Indexes) → AreAdded (take i rows) old mid → AreWith row mid new →
    AreAdded (take (i + 1) rows) old new
one_more rows i row within is old mid new a more = record {
  members = λ n.
      added_more mount_of (is_in n) rows i row within is (listed old.members n) (listed mid.members n) (listed new.members n)
      (a.members n) (more.members n);
  slaves = λ n.
      added_more mount_of (has_master n) rows i row within is (listed old.slaves n) (listed mid.slaves n) (listed new.slaves n)
      (a.slaves n) (more.slaves n);
  below = λ n. more.below n ∙ a.below n;
}

pub one_more_group :
    (rows : List GroupRow) (i : ℕ) (row : GroupRow) → i < length rows → row ≡ get_or rows i row →
    (old mid new : Indexes) → GroupsAreAdded (take i rows) old mid → IsWithGroup row mid new →
    GroupsAreAdded (take (i + 1) rows) old new
one_more_group rows i row within is old mid new a more = record {
  members = λ n. more.members n ∙ a.members n;
  slaves = λ n. more.slaves n ∙ a.slaves n;
  below = λ n.
      added_more number_of (is_below_it n) rows i row within is (listed old.below n) (listed mid.below n) (listed new.below n)
      (a.below n) (more.below n);
}

-- mounts, then peer groups
pub both_added :
    (rows : List MemberRow) (groups : List GroupRow) (old mid new : Indexes) →
    AreAdded rows old mid → GroupsAreAdded groups mid new → AllAreAdded rows groups old new
both_added rows groups old mid new a b = record {
  members = λ n. b.members n ∙ a.members n;
  slaves = λ n. b.slaves n ∙ a.slaves n;
  below = λ n. b.below n ∙ ap (λ (xs : List ℕ). xs ++ groups_where (is_below_it n) groups) (a.below n);
}

-- what stands in the lists, with what was added
pub indexed_same : (s : PeerGroups) (old new : Indexes) → HaveSameLists old new → AreIndexed s old → AreIndexed s new
indexed_same s old new same o = (
  record {
    members = λ n. same.members n ∙ o.0.members n;
    slaves = λ n. same.slaves n ∙ o.0.slaves n;
  },
  λ n. same.below n ∙ o.1 n,
)

pub indexed_added :
    (rows more : List MemberRow) (groups others : List GroupRow) (old new : Indexes) →
    AllAreAdded more others old new → ListMembers rows old × ListGroups groups old →
    ListMembers (rows ++ more) new × ListGroups (groups ++ others) new
indexed_added rows more groups others old new a o = (
  record {
    members = λ n.
        a.members n ∙ ap (λ (xs : List ℕ). xs ++ mounts_where (is_in n) more) (o.0.members n) ∙
        sym (numbered_append mount_of (is_in n) rows more);
    slaves = λ n.
        a.slaves n ∙ ap (λ (xs : List ℕ). xs ++ mounts_where (has_master n) more) (o.0.slaves n) ∙
        sym (numbered_append mount_of (has_master n) rows more);
  },
  λ n.
      a.below n ∙ ap (λ (xs : List ℕ). xs ++ groups_where (is_below_it n) others) (o.1 n) ∙
      sym (numbered_append number_of (is_below_it n) groups others),
)

-- one peer group more, the last
pub group_indexed :
    (rows : List GroupRow) (row : GroupRow) (old new : Indexes) → IsWithGroup row old new → ListGroups rows old →
    ListGroups (rows ++ row ∷ []) new
group_indexed rows row old new more o = λ n.
    more.below n ∙ ap (λ (xs : List ℕ). cond (is_below_it n row) (xs ++ row.group ∷ []) xs) (o n) ∙
    sym (numbered_more number_of (is_below_it n) rows row)

pub with_group_indexed :
    (rows : List MemberRow) (groups after : List GroupRow) (row : GroupRow) (old mid new : Indexes) →
    HaveSameLists old mid → IsWithGroup row mid new → ListMembers rows old × ListGroups groups old →
    after ≡ groups ++ row ∷ [] → ListMembers rows new × ListGroups after new
with_group_indexed rows groups after row old mid new same more o is = (
  record {
    members = λ n. more.members n ∙ same.members n ∙ o.0.members n;
    slaves = λ n. more.slaves n ∙ same.slaves n ∙ o.0.slaves n;
  },
  subst (λ (xs : List GroupRow). ListGroups xs new) (sym is)
      (group_indexed groups row mid new more (λ n. same.below n ∙ o.1 n)),
)

-- a mount that comes where it was not
pub put_indexed :
    (rows : List MemberRow) → RiseFrom 0 rows → (row none : MemberRow) → member_row rows row.mount ≡ None →
    none.mount ≡ row.mount → none.group ≡ None → none.master ≡ None → (old new : Indexes) →
    AreMoved none row old new → ListMembers rows old →
    ListMembers (below row.mount rows ++ row ∷ above row.mount rows) new
put_indexed rows rises added none new_one number group master old new moves o = record {
  members = λ n.
      moves.members n ∙
      ap (λ (g : Option ℕ). moved (is_just n g) (is_in n added) none.mount (listed old.members n)) group ∙
      next (is_in n) (listed old.members n) (o.members n);
  slaves = λ n.
      moves.slaves n ∙
      ap (λ (g : Option ℕ). moved (is_just n g) (has_master n added) none.mount (listed old.slaves n)) master ∙
      next (has_master n) (listed old.slaves n) (o.slaves n);
}
  where
    next :
        (t : MemberRow → Bool) (xs : List ℕ) → xs ≡ mounts_where t rows →
        moved false (t added) none.mount xs ≡ mounts_where t (below added.mount rows ++ added ∷ above added.mount rows)
    next t xs e =
        ap (λ (ys : List ℕ). moved false (t added) none.mount ys) e ∙
        ap (λ (m : ℕ). moved false (t added) m (mounts_where t rows)) number ∙
        sym (numbered_put mount_of t added 0 rows rises new_one)

-- a mount's row that becomes another
pub changed_indexed :
    (rows : List MemberRow) → RiseFrom 0 rows → (m : ℕ) (row after : MemberRow) → member_row rows m ≡ Some row →
    after.mount ≡ m → (old new : Indexes) → AreMoved row after old new → ListMembers rows old →
    ListMembers (map (at_row (λ r. after) m) rows) new
changed_indexed rows rises m row after found number old new moves o = record {
  members = λ n. moves.members n ∙ next (is_in n) (listed old.members n) (o.members n);
  slaves = λ n. moves.slaves n ∙ next (has_master n) (listed old.slaves n) (o.slaves n);
}
  where
    next :
        (t : MemberRow → Bool) (xs : List ℕ) → xs ≡ mounts_where t rows →
        moved (t row) (t after) row.mount xs ≡ mounts_where t (map (at_row (λ r. after) m) rows)
    next t xs e =
        ap (λ (ys : List ℕ). moved (t row) (t after) row.mount ys) e ∙
        ap (λ (k : ℕ). moved (t row) (t after) k (mounts_where t rows)) (number_found mount_of rows m row found) ∙
        sym (numbered_changed mount_of t after m number 0 rows rises row found)

-- the lists of rows that rise do so too
pub where_rises :
    {R : Type 0} (number : R → ℕ) (t : R → Bool) (rows : List R) → RiseBy number 0 rows →
    IsStrictlyIncreasing (numbered number t rows)
where_rises number t rows rises = numbers_rise number 0 (filter t rows) (RiseBy-filter number t 0 rows rises)

pub lists_rise : (s : PeerGroups) → IsOrderly s → (t : Indexes) → AreIndexed s t → AllRise t
lists_rise s orderly t o = record {
  members = λ n.
      subst (λ (xs : List ℕ). IsStrictlyIncreasing xs) (sym (o.0.members n)) (where_rises mount_of (is_in n) s.members orderly.rising);
  slaves = λ n.
      subst (λ (xs : List ℕ). IsStrictlyIncreasing xs) (sym (o.0.slaves n)) (where_rises mount_of (has_master n) s.members orderly.rising);
  below = λ n.
      subst (λ (xs : List ℕ). IsStrictlyIncreasing xs) (sym (o.1 n)) (where_rises number_of (is_below_it n) s.groups orderly.groups_rising);
}

-- the same of rows alone
pub members_lists_rise :
    (rows : List MemberRow) → RiseFrom 0 rows → (t : Indexes) → ListMembers rows t →
    ListsRise t.members × ListsRise t.slaves
members_lists_rise rows rises t o = (
  λ n.
      subst (λ (xs : List ℕ). IsStrictlyIncreasing xs) (sym (o.members n)) (where_rises mount_of (is_in n) rows rises),
  λ n.
      subst (λ (xs : List ℕ). IsStrictlyIncreasing xs) (sym (o.slaves n)) (where_rises mount_of (has_master n) rows rises),
)

pub groups_lists_rise : (rows : List GroupRow) → GroupsRise rows → (t : Indexes) → ListGroups rows t → ListsRise t.below
groups_lists_rise rows rises t o = λ n.
    subst (λ (xs : List ℕ). IsStrictlyIncreasing xs) (sym (o n)) (where_rises number_of (is_below_it n) rows rises)

-- they rise while rooms are made
pub kept_rise :
    (s : PeerGroups) → IsOrderly s → (old new : Indexes) → AreIndexed s old → HaveSameLists old new → AllRise new
kept_rise s orderly old new o same = lists_rise s orderly new (indexed_same s old new same o)

-- a mount that comes, for which room was made
pub come_indexed :
    (s : PeerGroups) → IsOrderly s → (row none : MemberRow) → member_row s.members row.mount ≡ None →
    none.mount ≡ row.mount → none.group ≡ None → none.master ≡ None → (old mid new : Indexes) →
    HaveSameLists old mid → AreMoved none row mid new → AreIndexed s old → (after : List MemberRow) →
    after ≡ below row.mount s.members ++ row ∷ above row.mount s.members →
    ListMembers after new × ListGroups s.groups new
come_indexed s orderly row none new_one number group master old mid new same moves o after is = (
  subst (λ (rows : List MemberRow). ListMembers rows new) (sym is)
      (put_indexed s.members orderly.rising row none new_one number group master mid new moves
      (indexed_same s old mid same o).0),
  λ n. ap (λ (t : Index). listed t n) moves.below ∙ same.below n ∙ o.1 n,
)

-- a mount's row that becomes another, for which room was made
pub turned_indexed :
    (s : PeerGroups) → IsOrderly s → (m : ℕ) (row change : MemberRow) → member_row s.members m ≡ Some row →
    change.mount ≡ row.mount → (old mid new : Indexes) → HaveSameLists old mid → AreMoved row change mid new →
    AreIndexed s old → (after : List MemberRow) → after ≡ map (at_row (λ r. change) m) s.members →
    ListMembers after new × ListGroups s.groups new
turned_indexed s orderly m row change found number old mid new same moves o after is = (
  subst (λ (rows : List MemberRow). ListMembers rows new) (sym is)
      (changed_indexed s.members orderly.rising m row change found (number ∙ number_found mount_of s.members m row found) mid new moves
      (indexed_same s old mid same o).0),
  λ n. ap (λ (t : Index). listed t n) moves.below ∙ same.below n ∙ o.1 n,
)

-- and comes into a fresh group
pub shared_indexed :
    (s : PeerGroups) → IsOrderly s → (m : ℕ) (row change : MemberRow) → member_row s.members m ≡ Some row →
    change.mount ≡ row.mount → (fresh : GroupRow) (old mid next new : Indexes) → HaveSameLists old mid →
    AreMoved row change mid next → IsWithGroup fresh next new →
    AreIndexed s old → (after : List MemberRow) → after ≡ map (at_row (λ r. change) m) s.members →
    (groups : List GroupRow) → groups ≡ s.groups ++ fresh ∷ [] →
    ListMembers after new × ListGroups groups new
shared_indexed s orderly m row change found number fresh old mid next new same moves more o after is groups grown =
    let turned = turned_indexed s orderly m row change found number old mid next same moves o after is in
    with_group_indexed after s.groups groups fresh next next new (same_lists next) more turned grown

-- mounts and peer groups that go
pub left_indexed :
    (members : List MemberRow) (groups : List GroupRow) (mid new : Indexes) →
    ListMembers members mid → SameLists mid.members new.members →
    SameLists mid.slaves new.slaves → ListGroups groups new →
    ListMembers members new × ListGroups groups new
left_indexed members groups mid new o same slaves g = (
  record {
    members = λ n. same n ∙ o.members n;
    slaves = λ n. slaves n ∙ o.slaves n;
  },
  g,
)

-- what a change makes of a row has its number
pub turned_number : (change : Change) (fresh : ℕ) (row : MemberRow) → (row_of change fresh row).mount ≡ row.mount
turned_number MakeShared fresh row = shared row.group
  where
    shared : (o : Option ℕ) → (shared_from o fresh row).mount ≡ row.mount
    shared (Some g) = refl
    shared None = refl
turned_number MakeSlave fresh row = slave row.group
  where
    slave : (o : Option ℕ) → (slave_from o row).mount ≡ row.mount
    slave (Some g) = refl
    slave None = refl
turned_number MakePrivate fresh row = refl
turned_number MakeUnbindable fresh row = refl

-- one mount less of those that are kept
module _ (x : ℕ) (k l : MemberRow → Bool) (less : (r : MemberRow) → l r ≡ (k r && not (x == r.mount))) (rows : List MemberRow) where
  pub mount_absent :
      (t : Indexes) → member_row rows x ≡ None → ListMembers (filter k rows) t → ListMembers (filter l rows) t
  mount_absent t none o = record {
    members = λ n. o.members n ∙ sym (none_less mount_of x k l (is_in n) less rows none);
    slaves = λ n. o.slaves n ∙ sym (none_less mount_of x k l (has_master n) less rows none);
  }

  pub mount_less :
      RiseFrom 0 rows → (row : MemberRow) (old new : Indexes) → member_row rows x ≡ Some row →
      AreWithout row old new → ListMembers (filter k rows) old → ListMembers (filter l rows) new
  mount_less rises row old new found w o = record {
    members = λ n. w.members n ∙ next (is_in n) (listed old.members n) (o.members n);
    slaves = λ n. w.slaves n ∙ next (has_master n) (listed old.slaves n) (o.slaves n);
  }
    where
      next :
          (t : MemberRow → Bool) (xs : List ℕ) → xs ≡ mounts_where t (filter k rows) →
          cond (t row) (but row.mount xs) xs ≡ mounts_where t (filter l rows)
      next t xs f =
          ap (λ (ys : List ℕ). cond (t row) (but row.mount ys) ys) f ∙
          ap (λ (m : ℕ). cond (t row) (but m (mounts_where t (filter k rows))) (mounts_where t (filter k rows))) (number_found mount_of rows x row found) ∙
          sym (some_less mount_of x k l t less rows rises row found)

-- one peer group less of those that are kept
module _ (x : ℕ) (k l : GroupRow → Bool) (less : (r : GroupRow) → l r ≡ (k r && not (x == r.group))) (rows : List GroupRow) where
  pub group_absent :
      (t : Indexes) → group_row rows x ≡ None → ListGroups (filter k rows) t → ListGroups (filter l rows) t
  group_absent t none o = λ n. o n ∙ sym (none_less number_of x k l (is_below_it n) less rows none)

  pub group_less :
      GroupsRise rows → (row : GroupRow) (old new : Indexes) → group_row rows x ≡ Some row →
      IsWithoutGroup row old new → ListGroups (filter k rows) old → ListGroups (filter l rows) new
  group_less rises row old new found w o = λ n. w.below n ∙ next (is_below_it n) (listed old.below n) (o n)
    where
      next :
          (t : GroupRow → Bool) (xs : List ℕ) → xs ≡ groups_where t (filter k rows) →
          cond (t row) (but row.group xs) xs ≡ groups_where t (filter l rows)
      next t xs f =
          ap (λ (ys : List ℕ). cond (t row) (but row.group ys) ys) f ∙
          ap (λ (m : ℕ). cond (t row) (but m (groups_where t (filter k rows))) (groups_where t (filter k rows))) (number_found number_of rows x row found) ∙
          sym (some_less number_of x k l t less rows rises row found)

-- one more of those that go, from the last on
pub gone_earlier :
    (gone : List ℕ) (left x : ℕ) → 0 < left → left ≤ length gone → x ≡ get_or gone (left - 1) x → (n : ℕ) →
    not (is_among (drop (left - 1) gone) n) ≡ (not (is_among (drop left gone) n) && not (x == n))
gone_earlier gone left x some bound is n =
    let next : (left - 1) + 1 ≡ left = omega arith in
    ap (λ (ys : List ℕ). not (is_among ys n))
    (drop_more gone (left - 1) x (omega arith) ∙ ap (λ (y : ℕ). y ∷ drop ((left - 1) + 1) gone) (sym is)) ∙
    ap (λ (k : ℕ). not ((x == n) || is_among (drop k gone) n)) next ∙
    go (x == n) (is_among (drop left gone) n)
  where
    go : (a b : Bool) → not (a || b) ≡ (not b && not a)
    go true true = refl
    go true false = refl
    go false true = refl
    go false false = refl

none_left : (gone : List ℕ) → drop (length gone) gone ≡ []
none_left [] = refl
none_left (x ∷ gone) = none_left gone

-- none goes yet
pub none_gone :
    {R : Type 0} (number : R → ℕ) (gone : List ℕ) (rows : List R) →
    filter (λ r. not (is_among (drop (length gone) gone) (number r))) rows ≡ rows
none_gone {R} number gone rows =
    ap (λ (ys : List ℕ). filter (λ (r : R). not (is_among ys (number r))) rows) (none_left gone) ∙ all rows
  where
    all : (xs : List R) → filter (λ r. true) xs ≡ xs
    all [] = refl
    all (r ∷ xs) = ap (λ (ys : List R). r ∷ ys) (all xs)
