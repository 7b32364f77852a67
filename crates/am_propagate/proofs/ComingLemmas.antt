-- A mount and its copies, which come one after another.
use Rattle.std.proofs.Common.{◌≡◌, ◌≤◌, ◌<◌, ◌+◌, ◌-◌, ℕ, true, List, [], ◌∷◌, ◌++◌, length, take, get_or, Option, Some, ⊎_elim, refl, sym, ap, subst, ◌∙◌, append_assoc, arith, eqb}
use Rattle.std.proofs.lemmas.Bool.{eqb-true, or_cases}
use Rattle.std.proofs.lemmas.List.{length-append}
use Rattle.am_names.specs.{GroupRow, MemberRow, Membership, MountRow, Position}
use Rattle.am_names.specs.PeerGroups.{PeerGroups}
use Rattle.am_group.specs.{all_added, group_of, receivers_of}
use Rattle.am_group.proofs.ScanLemmas.{has}
use Rattle.am_group.proofs.ReceiverLemmas.{has_from_Contains}
use Rattle.am_mount.specs.{mount_row}
use Rattle.am_propagate.specs.{is_mount, IsWhole, mounted, new_groups, new_members, ns_in, opening, row_at, rows_at}
use Rattle.am_propagate.specs.Coming.{AddsMounts}
use Rattle.am_propagate.specs.Copying.{AreBelow, AreThere}
use Rattle.am_propagate.specs.MountTable.{MountTable}
use Rattle.am_propagate.proofs.AdditionLemmas.{length_rows, receiver_there}
use Rattle.am_propagate.proofs.CopyingLemmas.{still_there, taken_back, below_next}
use Rattle.am_propagate.proofs.LoopLemmas.{rows_more}
use Rattle.am_propagate.proofs.RemovalLemmas.{same_there, some_of}

-- a table of these rows
abbrev pub table_with : List MountRow → MountTable
table_with rows = record (opening 0) { rows = rows }

module _ (place : List (List ℕ)) (fs origin : ℕ) where
  -- as many rows come as there are parents
  pub adds_many :
      (n : ℕ) (parents : List ℕ) (old new : List MountRow) → AddsMounts place fs origin n parents old new →
      length new ≡ length old + length parents
  adds_many n parents old new adds =
      ap (λ (xs : List MountRow). length xs) (adds (table_with old) refl) ∙
      length-append old (rows_at (table_with old) place fs origin n parents) ∙
      ap (λ (k : ℕ). length old + k) (length_rows (table_with old) place fs origin n parents)

  -- they are taken back
  pub adds_back :
      (n k : ℕ) (parents : List ℕ) (old new : List MountRow) → AddsMounts place fs origin n parents old new →
      length parents ≡ k → take (length new - k) new ≡ old
  adds_back n k parents old new adds many =
      ap (λ (xs : List MountRow). take (length xs - k) xs) (adds (table_with old) refl) ∙
      taken_back old (rows_at (table_with old) place fs origin n parents) k
      (length_rows (table_with old) place fs origin n parents ∙ many)

  -- one that comes behind those below its number is below the next
  pub adds_below :
      (n d : ℕ) (old new : List MountRow) → AreBelow n old → AddsMounts place fs origin n (d ∷ []) old new →
      AreBelow (n + 1) new
  adds_below n d old new below adds =
      subst (λ (xs : List MountRow). AreBelow (n + 1) xs) (sym (adds (table_with old) refl))
      (below_next old (row_at (table_with old) place fs origin n d) n below refl)

  -- one more comes, on a parent that was there from the beginning
  pub adds_more :
      (n number p : ℕ) (parents : List ℕ) (i d : ℕ) → i < length parents → d ≡ get_or parents i d → number ≡ n + 1 + i →
      (old before new : List MountRow) (row : MountRow) → mount_row old d ≡ Some row →
      AddsMounts place fs origin n (p ∷ take i parents) old before →
      AddsMounts place fs origin number (d ∷ []) before new →
      AddsMounts place fs origin n (p ∷ take (i + 1) parents) old new
  adds_more n number p parents i d within is at old before new row there first more = λ t same.
      let was : before ≡ old ++ rows_at t place fs origin n (p ∷ take i parents) = first t same in
      let found : mount_row before d ≡ mount_row t.rows d =
      ap (λ (xs : List MountRow). mount_row xs d) was ∙
      still_there old (rows_at t place fs origin n (p ∷ take i parents)) d row there ∙
      sym there ∙ ap (λ (xs : List MountRow). mount_row xs d) (sym same) in
      let row_is : row_at (table_with before) place fs origin number d ≡ row_at t place fs origin number d =
      ap (λ (o : Option MountRow). record {
        mount = number;
        ns = ns_in o;
        mountpoint = Some (record { mount = d; place = place });
        fs = fs;
        origin = origin;
      }) found in
      let behind : rows_at t place fs origin n (p ∷ take (i + 1) parents) ≡
      rows_at t place fs origin n (p ∷ take i parents) ++ row_at t place fs origin number d ∷ [] =
      ap (λ (xs : List MountRow). row_at t place fs origin n p ∷ xs)
      (rows_more t place fs origin (n + 1) number parents i d within is at) in
      more (table_with before) refl ∙
      ap (λ (r : MountRow). before ++ r ∷ []) row_is ∙
      ap (λ (xs : List MountRow). xs ++ row_at t place fs origin number d ∷ []) was ∙
      append_assoc old (rows_at t place fs origin n (p ∷ take i parents)) (row_at t place fs origin number d ∷ []) ∙
      ap (λ (xs : List MountRow). old ++ xs) (sym behind)

module _ (t : MountTable) (whole : IsWhole t) where
  -- all numbers are below the next
  pub below_all : AreBelow (t.last_mount + 1) t.rows
  below_all m row e = let le : m ≤ t.last_mount = (whole.numbered m row e).0 in omega arith

  -- a mount and those that receive from it are there
  pub parents_there : (at : ℕ) → is_mount t at ≡ true → AreThere (at ∷ receivers_of t.groups at) t.rows
  parents_there at there m among =
      some_of (mount_row t.rows m)
      (⊎_elim
      (λ same. ap (is_mount t) (eqb-true m at same) ∙ there)
      (λ receives. same_there t whole m ∙ receiver_there t.groups whole.sound at m receives)
      (or_cases (eqb m at) (has m (receivers_of t.groups at)) (has_from_Contains m (at ∷ receivers_of t.groups at) among)))

-- the peer groups, as they are written
pub joined_is :
    (t : MountTable) (at : Position) (fs : ℕ) (membership : Membership) (rs : List ℕ) (n : ℕ)
    (members : List MemberRow) (fresh : List GroupRow) →
    rs ≡ receivers_of t.groups at.mount → n ≡ t.last_mount + 1 →
    members ≡ new_members membership (group_of t.groups at.mount) rs n t.groups →
    fresh ≡ new_groups membership (group_of t.groups at.mount) rs t.groups →
    all_added members fresh t.groups ≡ (mounted at fs membership t).groups
joined_is t at fs membership rs n members fresh rs_is n_is members_are fresh_are =
    rw (members_are, fresh_are, n_is, rs_is) refl

-- all mounts, as they are written
pub made_is :
    (t : MountTable) (at : Position) (fs : ℕ) (membership : Membership) (rs : List ℕ) (n last : ℕ)
    (rows : List MountRow) (groups : PeerGroups) →
    rs ≡ receivers_of t.groups at.mount → n ≡ t.last_mount + 1 → last ≡ n + length rs →
    rows ≡ t.rows ++ rows_at t at.place fs n n (at.mount ∷ rs) →
    groups ≡ (mounted at fs membership t).groups →
    record t { rows = rows; groups = groups; last_mount = last } ≡ mounted at fs membership t
made_is t at fs membership rs n last rows groups rs_is n_is last_is rows_are groups_are =
    subst (λ (k : ℕ). last ≡ k + length rs → rows ≡ t.rows ++ rows_at t at.place fs k k (at.mount ∷ rs) → record t { rows = rows; groups = groups; last_mount = last } ≡ mounted at fs membership t) (sym n_is)
    (λ l r. rw (l, r, groups_are, rs_is) refl) last_is rows_are
