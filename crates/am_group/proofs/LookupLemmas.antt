-- Look-ups by number after rows are mapped, filtered or pushed.
use Rattle.std.proofs.Common.{◌≡◌, ◌≤◌, ◌<◌, ◌+◌, ℕ, Bool, true, false, ◌||◌, cond, List, [], ◌∷◌, ◌++◌, Option, Some, None, refl, subst, arith}
use Rattle.std.specs.Prelude.{find, filter, map, option_map, is_some, ◌==◌}
use Rattle.std.proofs.lemmas.Bool.{eqb-true, eq-eqb}
use Rattle.am_group.proofs.ScanLemmas.{just_same}
use Rattle.am_names.specs.{MemberRow, GroupRow, RiseBy}
use Rattle.am_names.specs.PeerGroups.{PeerGroups}
use Rattle.am_group.specs.{member_row, group_row, group_in, is_just, has_members, RiseFrom, HasMembers}

-- rows mapped by what keeps their number
pub find_map_same : {R : Type 0} (key : R → ℕ) (k : ℕ) (f : R → R) → ((r : R) → key (f r) ≡ key r) → (rows : List R) → find (λ r. key r == k) (map f rows) ≡ option_map f (find (λ r. key r == k) rows)
find_map_same key k f same [] = refl
find_map_same {R} key k f same (r ∷ rows) = rw (same r) (go (key r == k) (find_map_same key k f same rows))
  where
    go : (b : Bool) → find (λ x. key x == k) (map f rows) ≡ option_map f (find (λ x. key x == k) rows) → cond b (Some (f r)) (find (λ x. key x == k) (map f rows)) ≡ option_map f (cond b (Some r) (find (λ x. key x == k) rows))
    go true ih = refl
    go false ih = ih

-- what is found passes
pub found_passes : {R : Type 0} (test : R → Bool) (rows : List R) (r : R) → find test rows ≡ Some r → test r ≡ true
found_passes test [] r e = absurd cc
found_passes {R} test (x ∷ rows) r e = go (test x) refl e (found_passes test rows r)
  where
    go : (b : Bool) → test x ≡ b → cond b (Some x) (find test rows) ≡ Some r → (find test rows ≡ Some r → test r ≡ true) → test r ≡ true
    go true t e ih = let same : x ≡ r = cc in subst (λ (y : R). test y ≡ true) same t
    go false t e ih = ih e

-- rows kept by a test of their number
pub find_filter : {R : Type 0} (key : R → ℕ) (k : ℕ) (keeps : ℕ → Bool) (rows : List R) → find (λ r. key r == k) (filter (λ r. keeps (key r)) rows) ≡ cond (keeps k) (find (λ r. key r == k) rows) None
find_filter {R} key k keeps [] = go (keeps k)
  where
    go : (b : Bool) → None ≡ cond {A = Option R} b None None
    go true = refl
    go false = refl
find_filter {R} key k keeps (r ∷ rows) = go (keeps (key r)) (key r == k) refl refl (find_filter key k keeps rows)
  where
    go : (b t : Bool) → keeps (key r) ≡ b → (key r == k) ≡ t → find (λ x. key x == k) (filter (λ x. keeps (key x)) rows) ≡ cond (keeps k) (find (λ x. key x == k) rows) None → find (λ x. key x == k) (cond b (r ∷ filter (λ x. keeps (key x)) rows) (filter (λ x. keeps (key x)) rows)) ≡ cond (keeps k) (cond t (Some r) (find (λ x. key x == k) rows)) None
    go true true e f ih = let same : key r ≡ k = eqb-true (key r) k f in let kept : keeps k ≡ true = cc in rw (f, kept) refl
    go true false e f ih = rw f ih
    go false true e f ih = let same : key r ≡ k = eqb-true (key r) k f in let kept : keeps k ≡ false = cc in rw (ih, kept) refl
    go false false e f ih = ih

-- below the first number nothing is found
pub none_below : (low : ℕ) (rows : List MemberRow) → RiseFrom low rows → (m : ℕ) → m < low → member_row rows m ≡ None
none_below low [] rises m below = refl
none_below low (row ∷ rows) rises m below = let first : low ≤ row.mount = rises.0 in go (row.mount == m) refl (none_below (row.mount + 1) rows rises.1 m (omega arith))
  where
    go : (b : Bool) → (row.mount == m) ≡ b → member_row rows m ≡ None → cond b (Some row) (member_row rows m) ≡ None
    go true e ih = let same : row.mount ≡ m = eqb-true row.mount m e in let first : low ≤ row.mount = rises.0 in absurd (omega arith)
    go false e ih = ih

pub RiseFrom-map : (f : MemberRow → MemberRow) → ((r : MemberRow) → (f r).mount ≡ r.mount) → (low : ℕ) (rows : List MemberRow) → RiseFrom low rows → RiseFrom low (map f rows)
RiseFrom-map f same low [] rises = tt
RiseFrom-map f same low (row ∷ rows) rises = (rw (same row) rises.0, rw (same row) (RiseFrom-map f same (row.mount + 1) rows rises.1))

pub RiseFrom-lower : (low high : ℕ) (rows : List MemberRow) → low ≤ high → RiseFrom high rows → RiseFrom low rows
RiseFrom-lower low high [] le rises = tt
RiseFrom-lower low high (row ∷ rows) le rises = let first : high ≤ row.mount = rises.0 in (omega arith, rises.1)

pub RiseFrom-filter : (keeps : MemberRow → Bool) (low : ℕ) (rows : List MemberRow) → RiseFrom low rows → RiseFrom low (filter keeps rows)
RiseFrom-filter keeps low [] rises = tt
RiseFrom-filter keeps low (row ∷ rows) rises = go (keeps row) (RiseFrom-filter keeps (row.mount + 1) rows rises.1)
  where
    go : (b : Bool) → RiseFrom (row.mount + 1) (filter keeps rows) → RiseFrom low (cond b (row ∷ filter keeps rows) (filter keeps rows))
    go true ih = (rises.0, ih)
    go false ih = let first : low ≤ row.mount = rises.0 in RiseFrom-lower low (row.mount + 1) (filter keeps rows) (omega arith) ih

-- the same of any rows and their numbers
pub RiseBy-map :
    {R : Type 0} (number : R → ℕ) (f : R → R) → ((r : R) → number (f r) ≡ number r) →
    (low : ℕ) (rows : List R) → RiseBy number low rows → RiseBy number low (map f rows)
RiseBy-map number f same low [] rises = tt
RiseBy-map number f same low (row ∷ rows) rises =
    (rw (same row) rises.0, rw (same row) (RiseBy-map number f same (number row + 1) rows rises.1))

pub RiseBy-lower :
    {R : Type 0} (number : R → ℕ) (low high : ℕ) (rows : List R) →
    low ≤ high → RiseBy number high rows → RiseBy number low rows
RiseBy-lower number low high [] le rises = tt
RiseBy-lower number low high (row ∷ rows) le rises =
    let first : high ≤ number row = rises.0 in
    (omega arith, rises.1)

pub RiseBy-filter :
    {R : Type 0} (number : R → ℕ) (keeps : R → Bool) (low : ℕ) (rows : List R) →
    RiseBy number low rows → RiseBy number low (filter keeps rows)
RiseBy-filter number keeps low [] rises = tt
RiseBy-filter {R} number keeps low (row ∷ rows) rises =
    go (keeps row) (RiseBy-filter number keeps (number row + 1) rows rises.1)
  where
    go :
        (b : Bool) → RiseBy number (number row + 1) (filter keeps rows) →
        RiseBy number low (cond b (row ∷ filter keeps rows) (filter keeps rows))
    go true ih = (rises.0, ih)
    go false ih =
        let first : low ≤ number row = rises.0 in
        RiseBy-lower number low (number row + 1) (filter keeps rows) (omega arith) ih

-- rows that follow rise too
pub groups_follow :
    (low c : ℕ) (xs ys : List GroupRow) → RiseBy (λ (r : GroupRow). r.group) low xs → low ≤ c →
    ((h : ℕ) → is_some (group_row xs h) ≡ true → h < c) →
    RiseBy (λ (r : GroupRow). r.group) c ys → RiseBy (λ (r : GroupRow). r.group) low (xs ++ ys)
groups_follow low c [] ys rises le below more =
    RiseBy-lower (λ (r : GroupRow). r.group) low c ys le more
groups_follow low c (x ∷ xs) ys rises le below more =
    let here : x.group < c = below x.group (rw (eq-eqb x.group x.group refl) refl) in (
      rises.0,
      groups_follow (x.group + 1) c xs ys rises.1 (omega arith)
          (λ h e. below h (later h (x.group == h) e)) more,
    )
  where
    later :
        (h : ℕ) (b : Bool) → is_some (group_row xs h) ≡ true →
        is_some (cond b (Some x) (group_row xs h)) ≡ true
    later h true e = refl
    later h false e = e

pub member_from_row : (low : ℕ) (rows : List MemberRow) → RiseFrom low rows → (g : ℕ) → has_members rows g ≡ true → (m : ℕ) × (low ≤ m) × (group_in (member_row rows m) ≡ Some g)
member_from_row low [] rises g e = absurd cc
member_from_row low (row ∷ rows) rises g e = go (is_just g row.group) refl e (member_from_row (row.mount + 1) rows rises.1 g)
  where
    first : low ≤ row.mount
    first = rises.0

    self : (n : ℕ) → (n == n) ≡ true
    self n = grind arith

    later : (m : ℕ) → row.mount + 1 ≤ m → (row.mount == m) ≡ false
    later m le = grind arith

    go : (b : Bool) → is_just g row.group ≡ b → (b || has_members rows g) ≡ true → (has_members rows g ≡ true → (m : ℕ) × (row.mount + 1 ≤ m) × (group_in (member_row rows m) ≡ Some g)) → (m : ℕ) × (low ≤ m) × (group_in (member_row (row ∷ rows) m) ≡ Some g)
    go true f e ih = (row.mount, first, rw (self row.mount) (just_same g row.group f))
    go false f e ih =
        let rest = ih e in
        let le : row.mount + 1 ≤ rest.0 = rest.1 in
        let lower : low ≤ row.mount = first in
        (rest.0, omega arith, rw (later rest.0 le) rest.2)

-- a group that has members has a member
pub members_from_test : (s : PeerGroups) (g : ℕ) → RiseFrom 0 s.members → has_members s.members g ≡ true → HasMembers s g
members_from_test s g rises e = let found = member_from_row 0 s.members rises g e in (found.0, found.2)
