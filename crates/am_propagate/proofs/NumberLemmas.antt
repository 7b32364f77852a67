-- The numbers of the peer groups that are made have 64 bits, where the count of them leaves room.
use Rattle.std.proofs.Common.{◌≡◌, ◌≤◌, ◌<◌, ◌+◌, ◌⊎◌, ◌↔◌, ℕ, Bool, true, false, cond, eqb, List, [], ◌∷◌, ◌++◌, length, Option, Some, None, refl, sym, ap, subst, inl, inr, ◌∙◌, arith}
use Rattle.std.specs.Prelude.{nat_lt, is_some, option_map, ◌==◌}
use Rattle.std.proofs.lemmas.Bool.{eq-eqb}
use Rattle.std.proofs.lemmas.Bool.Decides.{nat_tests}
use Rattle.am_names.proofs.Basics.{or_left, or_right}
use Rattle.am_names.specs.{GroupRow, MemberRow, Membership, row_with}
use Rattle.am_names.specs.PeerGroups.{PeerGroups}
use Rattle.am_group.specs.{member_row, slave_in, group_of, master_of_group, Receives, receiving_groups, rank, copy_row, copies_from, group_copies, receivers_of}
use Rattle.am_names.specs.declared.membership.Membership.TheVariants.{InGroup, SlaveOf, Private, Unbindable}
use Rattle.am_group.proofs.ScanLemmas.{has}
use Rattle.am_group.proofs.CopyLemmas.{rank_bound, stands_of_receiver, stands_of_slave, stands_above}
use Rattle.am_mount.specs.{mount_row}
use Rattle.am_propagate.specs.{StandIns, IsWhole, new_group, last_fresh, fresh_groups, stands, fresh_count, groups_made, new_members, new_groups, in_64_bits, stand_of}
use Rattle.am_propagate.specs.MountTable.{MountTable}
use Rattle.am_propagate.proofs.RemovalLemmas.{some_of, same_there}
use Rattle.am_propagate.proofs.AdditionLemmas.{receiver_exact}

has_64_bits : (n : ℕ) → n < 18446744073709551616 → in_64_bits n ≡ n
has_64_bits n lt =
    let no : nat_lt 18446744073709551615 n ≡ false = grind (arith, nat_tests) in
    rw no refl

-- copies are the same where the groups that are named have the same stand-ins
row_same : (f g : ℕ → ℕ) (n : ℕ) (group master : Option ℕ) → ((k : ℕ) → group ≡ Some k → f k ≡ g k) → ((k : ℕ) → group ≡ None → master ≡ Some k → f k ≡ g k) → copy_row f n group master ≡ copy_row g n group master
row_same f g n (Some k) master grouped mastered = rw (grouped k refl) refl
row_same f g n None (Some k) grouped mastered = rw (mastered k refl refl) refl
row_same f g n None None grouped mastered = refl

copies_same : (f g : ℕ → ℕ) (s : PeerGroups) (n : ℕ) (rs : List ℕ) → ((r k : ℕ) → has r rs ≡ true → group_of s r ≡ Some k → f k ≡ g k) → ((r k : ℕ) → has r rs ≡ true → group_of s r ≡ None → slave_in (member_row s.members r) ≡ Some k → f k ≡ g k) → copies_from f s n rs ≡ copies_from g s n rs
copies_same f g s n [] grouped mastered = refl
copies_same f g s n (r ∷ rs) grouped mastered =
    let here : has r (r ∷ rs) ≡ true = or_left (eqb r r) (has r rs) (eq-eqb r r refl) in
    ap (λ (x : MemberRow). x ∷ copies_from f s (n + 1) rs) (row_same f g n (group_of s r) (slave_in (member_row s.members r)) (λ k. grouped r k here) (λ k. mastered r k here)) ∙
    ap (λ (xs : List MemberRow). copy_row g n (group_of s r) (slave_in (member_row s.members r)) ∷ xs) (copies_same f g s (n + 1) rs (λ x k h. grouped x k (or_right (eqb x r) (has x rs) h)) (λ x k h. mastered x k (or_right (eqb x r) (has x rs) h)))

map_same : (f g : ℕ → ℕ) (o : Option ℕ) → ((k : ℕ) → o ≡ Some k → f k ≡ g k) → option_map f o ≡ option_map g o
map_same f g None same = refl
map_same f g (Some k) same = ap Some (same k refl)

abbrev copy_by : (ℕ → ℕ) → PeerGroups → ℕ → GroupRow
copy_by f s g = record { group = f g; master = option_map f (master_of_group s g) }

groups_same : (f g : ℕ → ℕ) (s : PeerGroups) (groups : List ℕ) → ((h : ℕ) → has h groups ≡ true → f h ≡ g h) → ((h k : ℕ) → has h groups ≡ true → master_of_group s h ≡ Some k → f k ≡ g k) → group_copies f s groups ≡ group_copies g s groups
groups_same f g s [] same mastered = refl
groups_same f g s (h ∷ groups) same mastered =
    let here : has h (h ∷ groups) ≡ true = or_left (eqb h h) (has h groups) (eq-eqb h h refl) in
    rw (same h here, map_same f g (master_of_group s h) (λ k. mastered h k here)) (ap (λ (xs : List GroupRow). copy_by' ∷ xs) (groups_same f g s groups (λ x e. same x (or_right (eqb x h) (has x groups) e)) (λ x k e. mastered x k (or_right (eqb x h) (has x groups) e))))
  where
    copy_by' : GroupRow
    copy_by' = record { group = g h; master = option_map g (master_of_group s h) }

count_is : (k : Membership) (last : ℕ) → last_fresh k last ≡ last + fresh_count k
count_is (InGroup g) last = omega arith
count_is (SlaveOf g) last = refl
count_is Private last = refl
count_is Unbindable last = refl

module _ (t : MountTable) (whole : IsWhole t) (b own : ℕ) (in_own : group_of t.groups b ≡ Some own) (membership : Membership) (rs : List ℕ) (rs_is : rs ≡ receivers_of t.groups b) (fits : t.groups.last_group + groups_made membership (Some own) rs t.groups < 18446744073709551616) (stands' : StandIns) (own_is : stands'.own ≡ own) (new_is : stands'.new ≡ new_group membership t.groups.last_group) (last_is : stands'.last ≡ last_fresh membership t.groups.last_group) (groups_are : stands'.groups.items ≡ receiving_groups t.groups rs own) where
  above : (m : ℕ) → is_some (member_row t.groups.members m) ≡ true → m < t.last_mount + 1
  above m e =
      let row = some_of (mount_row t.rows m) (same_there t whole m ∙ e) in
      let le : m ≤ t.last_mount = (whole.numbered m row.0 row.1).0 in
      omega arith

  exact : (r : ℕ) → (has r rs ≡ true) ↔ Receives t.groups b r
  exact = subst (λ (xs : List ℕ). (r : ℕ) → (has r xs ≡ true) ↔ Receives t.groups b r) (sym rs_is) (receiver_exact t.groups whole.sound b)

  same_stand : (g : ℕ) → (g ≡ own) ⊎ (has g (receiving_groups t.groups rs own) ≡ true) → stand_of stands' g ≡ stands membership own rs t.groups g
  same_stand g among = rw (own_is, new_is, last_is, groups_are) (go (g == own) refl among)
    where
      go : (e : Bool) → (g == own) ≡ e → (g ≡ own) ⊎ (has g (receiving_groups t.groups rs own) ≡ true) →
          cond e (new_group membership t.groups.last_group) (in_64_bits (last_fresh membership t.groups.last_group + 1 + rank g (receiving_groups t.groups rs own))) ≡
          cond e (new_group membership t.groups.last_group) (last_fresh membership t.groups.last_group + 1 + rank g (receiving_groups t.groups rs own))
      go true f among = refl
      go false f (inl same) = absurd (let yes : true ≡ false = sym (eq-eqb g own same) ∙ f in cc)
      go false f (inr h) =
          let low : rank g (receiving_groups t.groups rs own) < length (receiving_groups t.groups rs own) = rank_bound g (receiving_groups t.groups rs own) h in
          let last : last_fresh membership t.groups.last_group ≡ t.groups.last_group + fresh_count membership = count_is membership t.groups.last_group in
          let room : t.groups.last_group + (length (receiving_groups t.groups rs own) + fresh_count membership) < 18446744073709551616 = fits in
          has_64_bits _ (omega arith)

  pub same_members : (n : ℕ) → copies_from (stand_of stands') t.groups n rs ≡ copies_from (stands membership own rs t.groups) t.groups n rs
  same_members n = copies_same (stand_of stands') (stands membership own rs t.groups) t.groups n rs
      (λ r k h e. same_stand k (stands_of_receiver t.groups whole.sound b own in_own rs exact own (t.last_mount + 1) (whole.sound.orderly.group_named b own in_own) above r k h e))
      (λ r k h none e. same_stand k (stands_of_slave t.groups whole.sound b own in_own rs exact own (t.last_mount + 1) (whole.sound.orderly.group_named b own in_own) above r k h none e))

  pub same_groups : group_copies (stand_of stands') t.groups (receiving_groups t.groups rs own) ≡ group_copies (stands membership own rs t.groups) t.groups (receiving_groups t.groups rs own)
  same_groups = groups_same (stand_of stands') (stands membership own rs t.groups) t.groups (receiving_groups t.groups rs own)
      (λ h e. same_stand h (inr e))
      (λ h k e up. same_stand k (stands_above t.groups whole.sound b own in_own rs exact own (t.last_mount + 1) (whole.sound.orderly.group_named b own in_own) above h k e up))

-- the fresh group of a new mount has the next number
pub fresh_same : (k : Membership) (last : ℕ) → fresh_groups k (new_group k last) ≡ fresh_groups k (last + 1)
fresh_same (InGroup g) last = refl
fresh_same (SlaveOf g) last = refl
fresh_same Private last = refl
fresh_same Unbindable last = refl

module _ (t : MountTable) (whole : IsWhole t) (b own : ℕ) (in_own : group_of t.groups b ≡ Some own) (membership : Membership) (rs : List ℕ) (rs_is : rs ≡ receivers_of t.groups b) (fits : t.groups.last_group + groups_made membership (Some own) rs t.groups < 18446744073709551616) (stands' : StandIns) (own_is : stands'.own ≡ own) (new_is : stands'.new ≡ new_group membership t.groups.last_group) (last_is : stands'.last ≡ last_fresh membership t.groups.last_group) (groups_are : stands'.groups.items ≡ receiving_groups t.groups rs own) where
  pub members_are : (n : ℕ) (members : List MemberRow) → members ≡ row_with (InGroup stands'.new) n ∷ copies_from (stand_of stands') t.groups (n + 1) rs → members ≡ new_members membership (Some own) rs n t.groups
  members_are n members e =
      e ∙ ap (λ (g : ℕ). row_with (InGroup g) n ∷ copies_from (stand_of stands') t.groups (n + 1) rs) new_is ∙
      ap (λ (xs : List MemberRow). row_with (InGroup (new_group membership t.groups.last_group)) n ∷ xs) (same_members t whole b own in_own membership rs rs_is fits stands' own_is new_is last_is groups_are (n + 1))

  pub rows_are : (fresh groups : List GroupRow) → fresh ≡ fresh_groups membership stands'.new → groups ≡ fresh ++ group_copies (stand_of stands') t.groups stands'.groups.items → groups ≡ new_groups membership (Some own) rs t.groups
  rows_are fresh groups f e =
      let first : fresh ≡ fresh_groups membership (t.groups.last_group + 1) = f ∙ ap (fresh_groups membership) new_is ∙ fresh_same membership t.groups.last_group in
      e ∙ ap (λ (xs : List GroupRow). xs ++ group_copies (stand_of stands') t.groups stands'.groups.items) first ∙
      ap (λ (xs : List ℕ). fresh_groups membership (t.groups.last_group + 1) ++ group_copies (stand_of stands') t.groups xs) groups_are ∙
      ap (λ (xs : List GroupRow). fresh_groups membership (t.groups.last_group + 1) ++ xs) (same_groups t whole b own in_own membership rs rs_is fits stands' own_is new_is last_is groups_are)
