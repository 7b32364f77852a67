-- The masters that the followers of lost peer groups get, and what of that stands in the indexes:
-- own choice (docs/DECISIONS.md, "A group without members is gone").
use Rattle.std.specs.Prelude.{◌≡◌, ◌<◌, ◌||◌, ◌&&◌, ◌==◌, ℕ, Bool, true, false, not, List, [], ◌∷◌, length, slice_index_or, Option, None, Some, if◌then◌else◌}
use Rattle.std.specs.List.{list_all, list_any}
use Rattle.am_names.specs.{MemberRow, GroupRow, is_among}
use Rattle.am_names.specs.PeerGroups.{PeerGroups}
use Rattle.am_index.specs.{HasRoom, Index, ListsRise, has, listed}
use Rattle.am_group.specs.Changes.{is_just, lifted}
use Rattle.am_group.specs.Receivers.{group_numbers}
use Rattle.am_group.specs.Scan.{is_one_of}

-- the peer group isn't one of these
abbrev pub is_other_than : List ℕ → ℕ → Bool
is_other_than lost g = not (is_among lost g)

-- a lost peer group, with the first group up its chain of masters that isn't lost
abbrev pub lift_of : List ℕ → PeerGroups → ℕ → GroupRow
lift_of lost s g = record { group = g; master = lifted (is_other_than lost) s (Some g) }

-- in place of a master that is one of these peer groups the one that is given for it
abbrev pub lift_in : List GroupRow → Option ℕ → Option ℕ
lift_in [] master = master
lift_in (lift ∷ lifts) master =
    if is_just lift.group master then lift.master else lift_in lifts master

-- the same of a mount's master
abbrev pub lift_member : List GroupRow → MemberRow → MemberRow
lift_member lifts row = record row { master = lift_in lifts row.master }

-- and of a peer group's
abbrev pub lift_group : List GroupRow → GroupRow → GroupRow
lift_group lifts row = record row { master = lift_in lifts row.master }

-- a slave with this master; what has none stays as it is
abbrev pub under_from : Option ℕ → Option ℕ → MemberRow → MemberRow
under_from (Some own) master row = record row { master = master }
under_from None master row = row

-- the slave with this master; any other mount stays as it is
abbrev pub under_master : Option ℕ → MemberRow → MemberRow
under_master master row = under_from row.master master row

-- the peer group with this master
abbrev pub group_under : Option ℕ → GroupRow → GroupRow
group_under master row = record row { master = master }

-- the row of this peer group changes so, and any other stays
abbrev pub at_group : (GroupRow → GroupRow) → ℕ → GroupRow → GroupRow
at_group change g row = if row.group == g then change row else row

-- the rows of these mounts change so
abbrev pub at_rows : (MemberRow → MemberRow) → List ℕ → MemberRow → MemberRow
at_rows change mounts row = if is_among mounts row.mount then change row else row

-- the rows of these peer groups change so
abbrev pub at_groups : (GroupRow → GroupRow) → List ℕ → GroupRow → GroupRow
at_groups change groups row = if is_among groups row.group then change row else row

-- of these peer groups none is given for another, and for the same the same is given
pub record AreLifts (lifts : List GroupRow) : Type 0 where
  pub clear : list_all (λ lift. not (is_one_of (group_numbers lifts) lift.master)) lifts ≡ true
  pub same :
      (i : ℕ) (d : GroupRow) → i < length lifts →
      (slice_index_or lifts i d).master ≡ lift_in lifts (Some (slice_index_or lifts i d).group)

-- it is a follower of the peer group, which gets this one as its master
abbrev pub gets_master : Index → GroupRow → ℕ → ℕ → Bool
gets_master index lift n x = is_just n lift.master && has index lift.group x

-- it is a follower of one of these, which gets this one as its master
abbrev pub gets_one : Index → List GroupRow → ℕ → ℕ → Bool
gets_one index lifts n x = list_any (λ lift. gets_master index lift n x) lifts

-- the followers of the peer group stand in the list of the master that they get
pub record LinksOne (lift : GroupRow) (old new : Index) : Type 0 where
  pub rising : ListsRise new
  pub has : (n x : ℕ) → has new n x ≡ (has old n x || gets_master old lift n x)

-- and are out of it
pub record UnlinksOne (lift : GroupRow) (old new : Index) : Type 0 where
  pub rising : ListsRise new
  pub has : (n x : ℕ) → has new n x ≡ (has old n x && not (gets_master old lift n x))

-- the followers of these peer groups stand in the lists of the masters that they get
pub record Links (lifts : List GroupRow) (old new : Index) : Type 0 where
  pub rising : ListsRise new
  pub has : (n x : ℕ) → has new n x ≡ (has old n x || gets_one old lifts n x)

-- and are out of them
pub record Unlinks (lifts : List GroupRow) (old new : Index) : Type 0 where
  pub rising : ListsRise new
  pub has : (n x : ℕ) → has new n x ≡ (has old n x && not (gets_one old lifts n x))

-- none of the followers stands there already
abbrev pub AreApart : List GroupRow → Index → Type 0
AreApart lifts index = (n x : ℕ) → (has index n x && gets_one index lifts n x) ≡ false

-- the lists of these peer groups are empty
abbrev pub DropsAll : List GroupRow → Index → Index → Type 0
DropsAll lifts old new =
    (n : ℕ) → listed new n ≡ (if is_among (group_numbers lifts) n then [] else listed old n)

-- there is still room for one more in the others
abbrev pub KeepsRooms : List GroupRow → Index → Index → Type 0
KeepsRooms lifts old new =
    (n : ℕ) → is_among (group_numbers lifts) n ≡ false → HasRoom old n → HasRoom new n
