-- A copied namespace keeps the invariant.
use Rattle.std.proofs.Common.{◌≡◌, ◌≢◌, ◌≤◌, ◌<◌, ◌+◌, ◌⊎◌, ℕ, Bool, true, false, cond, eqb, ◌||◌, List, [], ◌∷◌, ◌++◌, length, Option, Some, None, refl, sym, ap, subst, inl, inr, ⊎_elim, ◌∙◌, arith}
use Rattle.std.specs.Prelude.{filter, filter_map, find, map, nat_lt, nat_le, option_map, is_some, ◌==◌}
use Rattle.std.proofs.lemmas.List.{length-map}
use Rattle.std.proofs.lemmas.List.Folds.{find-append}
use Rattle.std.proofs.lemmas.Bool.{eqb-true, eq-eqb, ne_eqb, or_cases, cases_eq, ltb-true, ltb-false}
use Rattle.std.proofs.lemmas.Bool.Decides.{nat_tests}
use Rattle.am_names.proofs.Basics.{or_left, or_right, same_test}
use Rattle.am_names.specs.{MountRow, MemberRow, GroupRow, Position, is_among}
use Rattle.am_group.specs.{member_row, group_in, slave_in, group_of, slave_from, added, all_added, numbers, RiseFrom, IsSound, AddsNoReceivers}
use Rattle.am_group.proofs.ReceiveLemmas.{home_where}
use Rattle.am_group.proofs.ScanLemmas.{has}
use Rattle.am_group.proofs.ReceiverLemmas.{has_from_Contains, Contains_from_has}
use Rattle.am_group.proofs.AddLemmas.{added_law}
use Rattle.am_group.proofs.LookupLemmas.{found_passes}
use Rattle.am_group.proofs.JoinLemmas.{joined_keeps}
use Rattle.am_mount.specs.Rows.{RiseFrom as RowsRise}
use Rattle.am_mount.specs.{mount_row, is_in}
use Rattle.am_mount.proofs.RowLemmas.{RiseFrom-filter, RiseOn, in_every}
use Rattle.am_propagate.specs.MountTable.{MountTable}
use Rattle.am_propagate.specs.{IsWhole, mounts_in, grown, CopyForm, count_up_to, copy_number, position_in, row_in, in_form, member_in, with_copy}
use Rattle.am_propagate.specs.declared.subtree.namespace.CopyForm.TheVariants.{Full, Reduced}
use Rattle.am_propagate.proofs.RemovalLemmas.{keys-filter, some_of, same_there, among_has}
use Rattle.am_propagate.proofs.GrowthLemmas.{ComesWell, grown_whole}

-- the count up to a number rises with the numbers that are counted
count_at_most : (a b : ℕ) → a ≤ b → (xs : List ℕ) → count_up_to a xs ≤ count_up_to b xs
count_at_most a b le [] = omega arith
count_at_most a b le (x ∷ xs) = go (nat_le x a) (nat_le x b) refl refl (count_at_most a b le xs)
  where
    go : (p q : Bool) → nat_le x a ≡ p → nat_le x b ≡ q → count_up_to a xs ≤ count_up_to b xs → length (cond p (x ∷ filter (λ y. nat_le y a) xs) (filter (λ y. nat_le y a) xs)) ≤ length (cond q (x ∷ filter (λ y. nat_le y b) xs) (filter (λ y. nat_le y b) xs))
    go true true e f ih = omega arith
    go true false e f ih = absurd (grind (arith, nat_tests))
    go false true e f ih = omega arith
    go false false e f ih = ih

pub count_less : (a b : ℕ) → a < b → (xs : List ℕ) → has b xs ≡ true → count_up_to a xs < count_up_to b xs
count_less a b lt [] h = absurd cc
count_less a b lt (x ∷ xs) h = go (nat_le x a) (nat_le x b) refl refl (eqb b x) refl h (count_at_most a b (omega arith) xs) (count_less a b lt xs)
  where
    go : (p q : Bool) → nat_le x a ≡ p → nat_le x b ≡ q → (s : Bool) → eqb b x ≡ s → (s || has b xs) ≡ true → count_up_to a xs ≤ count_up_to b xs → (has b xs ≡ true → count_up_to a xs < count_up_to b xs) → length (cond p (x ∷ filter (λ y. nat_le y a) xs) (filter (λ y. nat_le y a) xs)) < length (cond q (x ∷ filter (λ y. nat_le y b) xs) (filter (λ y. nat_le y b) xs))
    go true false e f s g h most ih = absurd (grind (arith, nat_tests))
    go true true e f true g h most ih = let same : b ≡ x = eqb-true b x g in absurd (grind (arith, nat_tests))
    go true true e f false g h most ih = let rest : count_up_to a xs < count_up_to b xs = ih h in omega arith
    go false true e f s g h most ih = omega arith
    go false false e f true g h most ih = let same : b ≡ x = eqb-true b x g in absurd (grind (arith, nat_tests))
    go false false e f false g h most ih = ih h

count_within : (a : ℕ) (xs : List ℕ) → count_up_to a xs ≤ length xs
count_within a [] = omega arith
count_within a (x ∷ xs) = go (nat_le x a) (count_within a xs)
  where
    go : (p : Bool) → count_up_to a xs ≤ length xs → length (cond p (x ∷ filter (λ y. nat_le y a) xs) (filter (λ y. nat_le y a) xs)) ≤ length (x ∷ xs)
    go true ih = omega arith
    go false ih = omega arith

pub count_some : (a : ℕ) (xs : List ℕ) → has a xs ≡ true → 1 ≤ count_up_to a xs
count_some a [] h = absurd cc
count_some a (x ∷ xs) h = go (nat_le x a) refl (eqb a x) refl h (count_some a xs)
  where
    go : (p : Bool) → nat_le x a ≡ p → (s : Bool) → eqb a x ≡ s → (s || has a xs) ≡ true → (has a xs ≡ true → 1 ≤ count_up_to a xs) → 1 ≤ length (cond p (x ∷ filter (λ y. nat_le y a) xs) (filter (λ y. nat_le y a) xs))
    go true e s g h ih = omega arith
    go false e true g h ih = let same : a ≡ x = eqb-true a x g in absurd (grind (arith, nat_tests))
    go false e false g h ih = ih h

-- rows of any sort that rise by their number
abbrev look : {R : Type 0} → (R → ℕ) → List R → ℕ → Option R
look key rows m = find (λ r. key r == m) rows

rises_rows : (low : ℕ) (rows : List MountRow) → RowsRise low rows → RiseOn low (map (λ r. r.mount) rows)
rises_rows low [] rises = tt
rises_rows low (r ∷ rows) rises = (rises.0, rises_rows (r.mount + 1) rows rises.1)

pub rises_members : (low : ℕ) (rows : List MemberRow) → RiseFrom low rows → RiseOn low (map (λ r. r.mount) rows)
rises_members low [] rises = tt
rises_members low (r ∷ rows) rises = (rises.0, rises_members (r.mount + 1) rows rises.1)

rows_from : (low : ℕ) (rows : List MountRow) → RiseOn low (map (λ r. r.mount) rows) → RowsRise low rows
rows_from low [] rises = tt
rows_from low (r ∷ rows) rises = (rises.0, rows_from (r.mount + 1) rows rises.1)

members_from : (low : ℕ) (rows : List MemberRow) → RiseOn low (map (λ r. r.mount) rows) → RiseFrom low rows
members_from low [] rises = tt
members_from low (r ∷ rows) rises = (rises.0, members_from (r.mount + 1) rows rises.1)

-- what a row that is kept and mapped comes from
module _ {R : Type 0} (key : R → ℕ) (f : R → R) (keep : R → Bool) where
  mapped_from : (low : ℕ) (rows : List R) → RiseOn low (map key rows) → (m : ℕ) (r : R) → look key (map f (filter keep rows)) m ≡ Some r → (x : R) × (low ≤ key x) × (look key rows (key x) ≡ Some x) × (keep x ≡ true) × (r ≡ f x)
  mapped_from low [] rises m r e = absurd cc
  mapped_from low (x ∷ rows) rises m r e = go (keep x) refl e (mapped_from (key x + 1) rows rises.1 m r)
    where
      later : ((y : R) × (key x + 1 ≤ key y) × (look key rows (key y) ≡ Some y) × (keep y ≡ true) × (r ≡ f y)) → (y : R) × (low ≤ key y) × (look key (x ∷ rows) (key y) ≡ Some y) × (keep y ≡ true) × (r ≡ f y)
      later found =
          let up : key x + 1 ≤ key found.0 = found.1 in
          let first : low ≤ key x = rises.0 in
          (found.0, omega arith, rw (ne_eqb (key x) (key found.0) (λ same. omega arith)) (found.2), found.3, found.4)

      at : (b : Bool) → keep x ≡ true → cond b (Some (f x)) (look key (map f (filter keep rows)) m) ≡ Some r → (look key (map f (filter keep rows)) m ≡ Some r → (y : R) × (key x + 1 ≤ key y) × (look key rows (key y) ≡ Some y) × (keep y ≡ true) × (r ≡ f y)) → (y : R) × (low ≤ key y) × (look key (x ∷ rows) (key y) ≡ Some y) × (keep y ≡ true) × (r ≡ f y)
      at true k e ih = (x, rises.0, rw (eq-eqb (key x) (key x) refl) refl, k, cc)
      at false k e ih = later (ih e)

      go : (b : Bool) → keep x ≡ b → look key (map f (cond b (x ∷ filter keep rows) (filter keep rows))) m ≡ Some r → (look key (map f (filter keep rows)) m ≡ Some r → (y : R) × (key x + 1 ≤ key y) × (look key rows (key y) ≡ Some y) × (keep y ≡ true) × (r ≡ f y)) → (y : R) × (low ≤ key y) × (look key (x ∷ rows) (key y) ≡ Some y) × (keep y ≡ true) × (r ≡ f y)
      go true k e ih = at (key (f x) == m) k e ih
      go false k e ih = later (ih e)

  -- and it is found by its new number
  pub mapped_there : (number : ℕ → ℕ) → ((x : R) → key (f x) ≡ number (key x)) → (low : ℕ) (rows : List R) → RiseOn low (map key rows) → (p : ℕ) (x : R) → look key rows p ≡ Some x → keep x ≡ true → ((y : R) → keep y ≡ true → look key rows (key y) ≡ Some y → key y ≢ p → number (key y) ≢ number p) → look key (map f (filter keep rows)) (number p) ≡ Some (f x)
  mapped_there number named low [] rises p x e k apart = absurd cc
  mapped_there number named low (y ∷ rows) rises p x e k apart =
      go (key y == p) refl e (mapped_there number named (key y + 1) rows rises.1 p x) (λ z kz ez. apart z kz (later z ez))
    where
      above : (lo : ℕ) (ys : List R) → RiseOn lo (map key ys) → (m : ℕ) (z : R) → look key ys m ≡ Some z → lo ≤ m
      above lo [] rise m z e = absurd cc
      above lo (w ∷ ys) rise m z e = step (key w == m) refl e (above (key w + 1) ys rise.1 m z)
        where
          step : (b : Bool) → (key w == m) ≡ b → cond b (Some w) (look key ys m) ≡ Some z → (look key ys m ≡ Some z → key w + 1 ≤ m) → lo ≤ m
          step true f e ih = let first : lo ≤ key w = rise.0 in let same : key w ≡ m = eqb-true (key w) m f in omega arith
          step false f e ih = let first : lo ≤ key w = rise.0 in let rest : key w + 1 ≤ m = ih e in omega arith

      later : (z : R) → look key rows (key z) ≡ Some z → look key (y ∷ rows) (key z) ≡ Some z
      later z ez = let up : key y + 1 ≤ key z = above (key y + 1) rows rises.1 (key z) z ez in rw (ne_eqb (key y) (key z) (λ same. omega arith)) ez

      behind : (b : Bool) → keep y ≡ b → key y ≢ p → look key (map f (filter keep rows)) (number p) ≡ Some (f x) → look key (map f (cond b (y ∷ filter keep rows) (filter keep rows))) (number p) ≡ Some (f x)
      behind true ky other rest = rw (named y, ne_eqb (number (key y)) (number p) (apart y ky (rw (eq-eqb (key y) (key y) refl) refl) other)) rest
      behind false ky other rest = rest

      go : (b : Bool) → (key y == p) ≡ b → cond b (Some y) (look key rows p) ≡ Some x → (look key rows p ≡ Some x → keep x ≡ true → ((z : R) → keep z ≡ true → look key rows (key z) ≡ Some z → key z ≢ p → number (key z) ≢ number p) → look key (map f (filter keep rows)) (number p) ≡ Some (f x)) → ((z : R) → keep z ≡ true → look key rows (key z) ≡ Some z → key z ≢ p → number (key z) ≢ number p) → look key (map f (cond (keep y) (y ∷ filter keep rows) (filter keep rows))) (number p) ≡ Some (f x)
      go true q e ih rest =
          let same : y ≡ x = cc in
          let kept : keep y ≡ true = subst (λ (z : R). keep z ≡ true) (sym same) k in
          let at : key (f y) ≡ number p = named y ∙ ap number (eqb-true (key y) p q) in
          rw (kept) (rw (eq-eqb (key (f y)) (number p) at) (ap (λ (z : R). Some (f z)) same))
      go false q e ih rest =
          let other : key y ≢ p = λ same. let bad : true ≡ false = sym (eq-eqb (key y) p same) ∙ q in cc in
          behind (keep y) refl other (ih e k rest)

-- rows that pass one test where they pass another
same_rows : {R : Type 0} (key : R → ℕ) (p q : R → Bool) (low : ℕ) (rows : List R) → RiseOn low (map key rows) → ((x : R) → look key rows (key x) ≡ Some x → p x ≡ q x) → filter p rows ≡ filter q rows
same_rows key p q low [] rises same = refl
same_rows {R} key p q low (x ∷ rows) rises same =
    rw (same x (rw (eq-eqb (key x) (key x) refl) refl)) (go (q x) (same_rows key p q (key x + 1) rows rises.1 (λ z e. same z (later z e))))
  where
    above : (lo : ℕ) (ys : List R) → RiseOn lo (map key ys) → (m : ℕ) (z : R) → look key ys m ≡ Some z → lo ≤ m
    above lo [] rise m z e = absurd cc
    above lo (w ∷ ys) rise m z e = step (key w == m) refl e (above (key w + 1) ys rise.1 m z)
      where
        step : (b : Bool) → (key w == m) ≡ b → cond b (Some w) (look key ys m) ≡ Some z → (look key ys m ≡ Some z → key w + 1 ≤ m) → lo ≤ m
        step true f e ih = let first : lo ≤ key w = rise.0 in let same : key w ≡ m = eqb-true (key w) m f in omega arith
        step false f e ih = let first : lo ≤ key w = rise.0 in let rest : key w + 1 ≤ m = ih e in omega arith

    later : (z : R) → look key rows (key z) ≡ Some z → look key (x ∷ rows) (key z) ≡ Some z
    later z ez = let up : key x + 1 ≤ key z = above (key x + 1) rows rises.1 (key z) z ez in rw (ne_eqb (key x) (key z) (λ e. omega arith)) ez

    go : (b : Bool) → filter p rows ≡ filter q rows → cond b (x ∷ filter p rows) (filter p rows) ≡ cond b (x ∷ filter q rows) (filter q rows)
    go true ih = ap (λ (xs : List R). x ∷ xs) ih
    go false ih = ih

-- the new numbers rise as the old ones
numbers_rise : (number : ℕ → ℕ) (mounts : List ℕ) → ((a b : ℕ) → a < b → has b mounts ≡ true → number a < number b) → (xs : List ℕ) → ((m : ℕ) → has m xs ≡ true → has m mounts ≡ true) → (low : ℕ) → RiseOn low xs → (c : ℕ) → ((m : ℕ) → has m xs ≡ true → c ≤ number m) → RiseOn c (map number xs)
numbers_rise number mounts strict [] sub low rises c least = tt
numbers_rise number mounts strict (x ∷ xs) sub low rises c least = (
  least x (or_left (eqb x x) (has x xs) (eq-eqb x x refl)),
  numbers_rise number mounts strict xs (λ m h. sub m (or_right (eqb m x) (has m xs) h)) (x + 1) rises.1 (number x + 1) (λ m h.
      let up : x + 1 ≤ m = bound (x + 1) xs rises.1 m h in
      let lt : number x < number m = strict x m (omega arith) (sub m (or_right (eqb m x) (has m xs) h)) in
      omega arith),
)
  where
    bound : (lo : ℕ) (ys : List ℕ) → RiseOn lo ys → (m : ℕ) → has m ys ≡ true → lo ≤ m
    bound lo [] rise m h = absurd cc
    bound lo (y ∷ ys) rise m h = ⊎_elim
        (λ same. let first : lo ≤ y = rise.0 in let e : m ≡ y = eqb-true m y same in omega arith)
        (λ rest. let first : lo ≤ y = rise.0 in let up : y + 1 ≤ m = bound (y + 1) ys rise.1 m rest in omega arith)
        (or_cases (eqb m y) (has m ys) h)

-- what is looked up for each that is kept is that one
looked_up : {R : Type 0} (key : R → ℕ) (f : R → R) (keep : R → Bool) (h : ℕ → Option R) (low : ℕ) (rows : List R) → RiseOn low (map key rows) → ((m : ℕ) → low ≤ m → h m ≡ look key rows m) → filter_map (λ m. option_map f (h m)) (map key (filter keep rows)) ≡ map f (filter keep rows)
looked_up key f keep h low [] rises at = refl
looked_up {R} key f keep h low (x ∷ rows) rises at = go (keep x) (looked_up key f keep h (key x + 1) rows rises.1 later)
  where
    here : h (key x) ≡ Some x
    here = at (key x) rises.0 ∙ rw (eq-eqb (key x) (key x) refl) refl

    later : (m : ℕ) → key x + 1 ≤ m → h m ≡ look key rows m
    later m le =
        let first : low ≤ key x = rises.0 in
        at m (omega arith) ∙ rw (ne_eqb (key x) m (λ same. omega arith)) refl

    go : (b : Bool) → filter_map (λ m. option_map f (h m)) (map key (filter keep rows)) ≡ map f (filter keep rows) → filter_map (λ m. option_map f (h m)) (map key (cond b (x ∷ filter keep rows) (filter keep rows))) ≡ map f (cond b (x ∷ filter keep rows) (filter keep rows))
    go true ih = rw here (ap (λ (rs : List R). f x ∷ rs) ih)
    go false ih = ih

map_keys : {R : Type 0} (key : R → ℕ) (f : R → R) (number : ℕ → ℕ) → ((x : R) → key (f x) ≡ number (key x)) → (xs : List R) → map key (map f xs) ≡ map number (map key xs)
map_keys key f number named [] = refl
map_keys key f number named (x ∷ xs) = rw (named x) (ap (λ (ys : List ℕ). number (key x) ∷ ys) (map_keys key f number named xs))

row_same : {x y : MountRow} → Some x ≡ Some y → x ≡ y
row_same e = cc

abbrev pub with_mount : ℕ → MemberRow → MemberRow
with_mount n row = record row { mount = n }

-- a copy of a row that was looked up has the number of that mount's copy
pub member_numbered : (form : CopyForm) (number : ℕ → ℕ) (members : List MemberRow) (m n : ℕ) (row : MemberRow) → member_row members m ≡ Some row → n ≡ number m → with_mount n (in_form form row) ≡ member_in form number row
member_numbered form number members m n row found is =
    ap (λ (k : ℕ). with_mount k (in_form form row)) (is ∙ ap number (sym (eqb-true row.mount m (found_passes (λ (r : MemberRow). r.mount == m) members row found))))

-- a copy is in no peer group that its source isn't in
form_group : (form : CopyForm) (x : MemberRow) (g : ℕ) → (in_form form x).group ≡ Some g → x.group ≡ Some g
form_group Full x g e = e
form_group Reduced x g e = go x.group refl e
  where
    go : (o : Option ℕ) → x.group ≡ o → (slave_from o x).group ≡ Some g → x.group ≡ Some g
    go None f e = e
    go (Some h) f e = absurd cc

-- the master of a copy is that of its source, or the peer group that its source is in
form_master : (form : CopyForm) (x : MemberRow) (g : ℕ) → (in_form form x).master ≡ Some g → (x.group ≡ Some g) ⊎ (x.master ≡ Some g)
form_master Full x g e = inr e
form_master Reduced x g e = go x.group refl e
  where
    go : (o : Option ℕ) → x.group ≡ o → (slave_from o x).master ≡ Some g → (x.group ≡ Some g) ⊎ (x.master ≡ Some g)
    go None f e = inr e
    go (Some h) f e = inl (f ∙ e)

-- the home of a copy is that of its source
form_home : (form : CopyForm) (x : MemberRow) → home_where (in_form form x).group (in_form form x).master ≡ home_where x.group x.master
form_home Full x = refl
form_home Reduced x = go x.group refl
  where
    go : (o : Option ℕ) → x.group ≡ o → home_where (slave_from o x).group (slave_from o x).master ≡ home_where x.group x.master
    go None f = refl
    go (Some h) f = ap (λ (o : Option ℕ). home_where o x.master) (sym f)

module _ (t : MountTable) (whole : IsWhole t) (ns : ℕ) (form : CopyForm) where
  abbrev mounts : List ℕ
  mounts = mounts_in t ns

  abbrev number : ℕ → ℕ
  number = copy_number t.last_mount (mounts_in t ns)

  abbrev rows : List MountRow
  rows = map (row_in (copy_number t.last_mount (mounts_in t ns)) (t.last_ns + 1)) (filter (is_in ns) t.rows)

  abbrev kept : List MemberRow
  kept = filter (λ row. is_among (mounts_in t ns) row.mount) t.groups.members

  abbrev members : List MemberRow
  members = map (member_in form (copy_number t.last_mount (mounts_in t ns))) (filter (λ row. is_among (mounts_in t ns) row.mount) t.groups.members)

  among_is : (x : MountRow) → mount_row t.rows x.mount ≡ Some x → is_among (mounts_in t ns) x.mount ≡ is_in ns x
  among_is x e = same_test (is_among (mounts_in t ns) x.mount) (is_in ns x)
      (λ h.
      let inside = (in_every ns t.rows whole.rising x.mount).0 (Contains_from_has x.mount (mounts_in t ns) (among_has x.mount (mounts_in t ns) ∙ h)) in
      eq-eqb x.ns ns (ap (λ (y : MountRow). y.ns) (row_same (sym e ∙ inside.1)) ∙ inside.2))
      (λ h. sym (among_has x.mount (mounts_in t ns)) ∙ has_from_Contains x.mount (mounts_in t ns) ((in_every ns t.rows whole.rising x.mount).1 (x, e, eqb-true x.ns ns h)))

  in_mounts : (x : MountRow) → mount_row t.rows x.mount ≡ Some x → is_in ns x ≡ true → has x.mount (mounts_in t ns) ≡ true
  in_mounts x e h = among_has x.mount (mounts_in t ns) ∙ among_is x e ∙ h

  pub strict : (a b : ℕ) → a < b → has b (mounts_in t ns) ≡ true → copy_number t.last_mount (mounts_in t ns) a < copy_number t.last_mount (mounts_in t ns) b
  strict a b lt h = let less : count_up_to a (mounts_in t ns) < count_up_to b (mounts_in t ns) = count_less a b lt (mounts_in t ns) h in omega arith

  pub apart : (a b : ℕ) → has a (mounts_in t ns) ≡ true → has b (mounts_in t ns) ≡ true → a ≢ b → copy_number t.last_mount (mounts_in t ns) a ≢ copy_number t.last_mount (mounts_in t ns) b
  apart a b ha hb other same = go (nat_lt a b) refl
    where
      go : (c : Bool) → nat_lt a b ≡ c → ⊥
      go true e = let lt : a < b = ltb-true a b e in let less : copy_number t.last_mount (mounts_in t ns) a < copy_number t.last_mount (mounts_in t ns) b = strict a b lt hb in absurd (omega arith)
      go false e =
          let le : b ≤ a = ltb-false a b e in
          let lt : b < a = ne_lt a b le other in
          let less : copy_number t.last_mount (mounts_in t ns) b < copy_number t.last_mount (mounts_in t ns) a = strict b a lt ha in
          absurd (omega arith)
        where
          ne_lt : (a b : ℕ) → b ≤ a → a ≢ b → b < a
          ne_lt a b le other = split (nat_lt b a) refl
            where
              split : (d : Bool) → nat_lt b a ≡ d → b < a
              split true e = ltb-true b a e
              split false e = absurd (other (let up : a ≤ b = ltb-false b a e in omega arith))

  pub mounts_rise : RiseOn 0 (mounts_in t ns)
  mounts_rise = rises_rows 0 (filter (is_in ns) t.rows) (RiseFrom-filter (is_in ns) 0 t.rows whole.rising)

  new_rise : RiseOn (t.last_mount + 1) (map (copy_number t.last_mount (mounts_in t ns)) (mounts_in t ns))
  new_rise = numbers_rise (copy_number t.last_mount (mounts_in t ns)) (mounts_in t ns) strict (mounts_in t ns) (λ m h. h) 0 mounts_rise (t.last_mount + 1) (λ m h. let some : 1 ≤ count_up_to m (mounts_in t ns) = count_some m (mounts_in t ns) h in omega arith)

  pub row_keys : map (λ row. row.mount) rows ≡ map (copy_number t.last_mount (mounts_in t ns)) (mounts_in t ns)
  row_keys = map_keys (λ (r : MountRow). r.mount) (row_in (copy_number t.last_mount (mounts_in t ns)) (t.last_ns + 1)) (copy_number t.last_mount (mounts_in t ns)) (λ x. refl) (filter (is_in ns) t.rows)

  kept_keys : numbers kept ≡ mounts_in t ns
  kept_keys =
      keys-filter (λ (r : MemberRow). r.mount) (is_among (mounts_in t ns)) t.groups.members ∙
      ap (filter (is_among (mounts_in t ns))) (sym whole.same_mounts) ∙
      sym (keys-filter (λ (r : MountRow). r.mount) (is_among (mounts_in t ns)) t.rows) ∙
      ap (map (λ (r : MountRow). r.mount)) (same_rows (λ (r : MountRow). r.mount) (λ r. is_among (mounts_in t ns) r.mount) (is_in ns) 0 t.rows (rises_rows 0 t.rows whole.rising) among_is)

  member_keys : numbers members ≡ map (copy_number t.last_mount (mounts_in t ns)) (mounts_in t ns)
  member_keys = map_keys (λ (r : MemberRow). r.mount) (member_in form (copy_number t.last_mount (mounts_in t ns))) (copy_number t.last_mount (mounts_in t ns)) (λ x. refl) kept ∙ ap (map (copy_number t.last_mount (mounts_in t ns))) kept_keys

  member_from : (m : ℕ) (r : MemberRow) → member_row members m ≡ Some r → (x : MemberRow) × (0 ≤ x.mount) × (member_row t.groups.members x.mount ≡ Some x) × (is_among (mounts_in t ns) x.mount ≡ true) × (r ≡ member_in form (copy_number t.last_mount (mounts_in t ns)) x)
  member_from m r e = mapped_from (λ (x : MemberRow). x.mount) (member_in form (copy_number t.last_mount (mounts_in t ns))) (λ x. is_among (mounts_in t ns) x.mount) 0 t.groups.members (rises_members 0 t.groups.members whole.sound.orderly.rising) m r e

  pub row_from : (m : ℕ) (r : MountRow) → mount_row rows m ≡ Some r → (x : MountRow) × (0 ≤ x.mount) × (mount_row t.rows x.mount ≡ Some x) × (is_in ns x ≡ true) × (r ≡ row_in (copy_number t.last_mount (mounts_in t ns)) (t.last_ns + 1) x)
  row_from m r e = mapped_from (λ (x : MountRow). x.mount) (row_in (copy_number t.last_mount (mounts_in t ns)) (t.last_ns + 1)) (is_in ns) 0 t.rows (rises_rows 0 t.rows whole.rising) m r e

  above : (m : ℕ) → is_some (member_row t.groups.members m) ≡ true → m < t.last_mount + 1
  above m e =
      let row = some_of (mount_row t.rows m) (same_there t whole m ∙ e) in
      let le : m ≤ t.last_mount = (whole.numbered m row.0 row.1).0 in
      omega arith

  copy_sound : IsSound (all_added members [] t.groups)
  copy_sound = subst (λ (l : ℕ). IsSound (added members [] l t.groups)) (no_more t.groups.last_group)
      (joined_keeps t.groups whole.sound members (t.last_mount + 1) (members_from (t.last_mount + 1) members (subst (λ (xs : List ℕ). RiseOn (t.last_mount + 1) xs) (sym member_keys) new_rise)) above
      (λ m g r found e.
      let x = member_from m r found in
      (x.0.mount, ap group_in x.2 ∙ form_group form x.0 g (sym (ap (λ (y : MemberRow). y.group) x.4) ∙ e)))
      (λ m g r found e.
      let x = member_from m r found in
      ⊎_elim
      (λ own. inl (x.0.mount, ap group_in x.2 ∙ own))
      (λ up. inr (inl (x.0.mount, ap slave_in x.2 ∙ up)))
      (form_master form x.0 g (sym (ap (λ (y : MemberRow). y.master) x.4) ∙ e)))).sound
    where
      no_more : (n : ℕ) → n ≡ n + 0
      no_more n = omega arith

  -- the copy of a parent is there
  pub copy_there : (p : ℕ) (x : MountRow) → mount_row t.rows p ≡ Some x → x.mount ≡ p → is_in ns x ≡ true → mount_row (t.rows ++ rows) (copy_number t.last_mount (mounts_in t ns) p) ≡ Some (row_in (copy_number t.last_mount (mounts_in t ns)) (t.last_ns + 1) x)
  copy_there p x e at h =
      find-append (λ (r : MountRow). r.mount == copy_number t.last_mount (mounts_in t ns) p) t.rows rows ∙
      rw (none_old (mount_row t.rows (copy_number t.last_mount (mounts_in t ns) p)) refl) (mapped_there (λ (r : MountRow). r.mount) (row_in (copy_number t.last_mount (mounts_in t ns)) (t.last_ns + 1)) (is_in ns) (copy_number t.last_mount (mounts_in t ns)) (λ y. refl) 0 t.rows (rises_rows 0 t.rows whole.rising) p x e h (λ y k ey other. apart y.mount p (in_mounts y ey k) has_p other))
    where
      has_p : has p (mounts_in t ns) ≡ true
      has_p = subst (λ (n : ℕ). has n (mounts_in t ns) ≡ true) at (in_mounts x (subst (λ (n : ℕ). mount_row t.rows n ≡ Some x) (sym at) e) h)

      none_old : (o : Option MountRow) → mount_row t.rows (copy_number t.last_mount (mounts_in t ns) p) ≡ o → o ≡ None
      none_old None q = refl
      none_old (Some y) q =
          let le : copy_number t.last_mount (mounts_in t ns) p ≤ t.last_mount = (whole.numbered (copy_number t.last_mount (mounts_in t ns) p) y q).0 in
          let some : 1 ≤ count_up_to p (mounts_in t ns) = count_some p (mounts_in t ns) has_p in
          absurd (omega arith)

  abbrev mount_at : Option Position → ℕ
  mount_at None = 0
  mount_at (Some x) = x.mount

  abbrev place_of : Option Position → List (List ℕ)
  place_of None = []
  place_of (Some x) = x.place

  abbrev at_place : ℕ → List (List ℕ) → Position
  at_place m names = record { mount = m; place = names }

  mounted_on : (number : ℕ → ℕ) (o : Option Position) (q : ℕ) (place : List (List ℕ)) → option_map (position_in number) o ≡ Some (record { mount = q; place = place }) → (p : ℕ) × (number p ≡ q) × (o ≡ Some (record { mount = p; place = place }))
  mounted_on number None q place e = absurd cc
  mounted_on number (Some p) q place e = (p.mount, ap mount_at e, ap (λ (names : List (List ℕ)). Some (at_place p.mount names)) (ap place_of e))

  pub found_mount : (m : ℕ) (x : MountRow) → mount_row t.rows m ≡ Some x → x.mount ≡ m
  found_mount m x e = eqb-true x.mount m (found_passes (λ (r : MountRow). r.mount == m) t.rows x e)

  copy_well : ComesWell t rows members [] (t.last_ns + 1) 0
  copy_well = record {
    rising = rows_from (t.last_mount + 1) rows (subst (λ (xs : List ℕ). RiseOn (t.last_mount + 1) xs) (sym row_keys) new_rise);
    sound = copy_sound;
    same_mounts = row_keys ∙ sym member_keys;
    numbered = λ m row e.
        let x = row_from m row e in
        let at : row.mount ≡ m = eqb-true row.mount m (found_passes (λ (r : MountRow). r.mount == m) rows row e) in
        let is : row.mount ≡ copy_number t.last_mount (mounts_in t ns) x.0.mount = ap (λ (y : MountRow). y.mount) x.4 in
        let within : count_up_to x.0.mount (mounts_in t ns) ≤ length (mounts_in t ns) = count_within x.0.mount (mounts_in t ns) in
        let long : length rows ≡ length (mounts_in t ns) = length-map (filter (is_in ns) t.rows) (row_in (copy_number t.last_mount (mounts_in t ns)) (t.last_ns + 1)) ∙ sym (length-map (filter (is_in ns) t.rows) (λ (r : MountRow). r.mount)) in
        let in_ns : row.ns ≡ t.last_ns + 1 = ap (λ (y : MountRow). y.ns) x.4 in
        (omega arith, omega arith);
    last_ns = omega arith;
    parents = λ m q row e on.
        let x = row_from m row e in
        let from = mounted_on (copy_number t.last_mount (mounts_in t ns)) x.0.mountpoint q on.0 (sym (ap (λ (y : MountRow). y.mountpoint) x.4) ∙ on.1) in
        let parent = whole.parents x.0.mount from.0 x.0 x.2 (on.0, from.2) in
        let inside : is_in ns parent.0 ≡ true = eq-eqb parent.0.ns ns (parent.2 ∙ eqb-true x.0.ns ns x.3) in (
          row_in (copy_number t.last_mount (mounts_in t ns)) (t.last_ns + 1) parent.0,
          subst (λ (n : ℕ). mount_row (t.rows ++ rows) n ≡ Some (row_in (copy_number t.last_mount (mounts_in t ns)) (t.last_ns + 1) parent.0)) from.1 (copy_there from.0 parent.0 parent.1 (found_mount from.0 parent.0 parent.1) inside),
          sym (ap (λ (y : MountRow). y.ns) x.4),
        );
    older = λ m q row e on.
        let x = row_from m row e in
        let from = mounted_on (copy_number t.last_mount (mounts_in t ns)) x.0.mountpoint q on.0 (sym (ap (λ (y : MountRow). y.mountpoint) x.4) ∙ on.1) in
        let at : row.mount ≡ m = eqb-true row.mount m (found_passes (λ (r : MountRow). r.mount == m) rows row e) in
        let is : m ≡ copy_number t.last_mount (mounts_in t ns) x.0.mount = sym at ∙ ap (λ (y : MountRow). y.mount) x.4 in
        let less : from.0 < x.0.mount = whole.older x.0.mount from.0 x.0 x.2 (on.0, from.2) in
        rw (is, sym from.1) (strict from.0 x.0.mount less (in_mounts x.0 x.2 x.3));
    row_kin = λ m h member row fm fr home.
        let x = row_from m row fr in
        let y = member_from m member fm in
        let same : y.0.mount ≡ x.0.mount = same_old m member row fm fr in
        inl (
          x.0.mount,
          x.0,
          x.2,
          sym (ap (λ (z : MountRow). z.fs) x.4),
          record {
            home = h;
            is_home = subst (λ (n : ℕ). home_where (group_of t.groups n) (slave_in (member_row t.groups.members n)) ≡ Some h) same (ap (λ (o : Option MemberRow). home_where (group_in o) (slave_in o)) y.2 ∙ sym (form_home form y.0) ∙ subst (λ (z : MemberRow). home_where z.group z.master ≡ Some h) y.4 home);
            way = [];
            leads = refl;
          },
        );
    group_kin = λ h n group e up. absurd cc;
  }
    where
      same_old : (m : ℕ) (member : MemberRow) (row : MountRow) (fm : member_row members m ≡ Some member) (fr : mount_row rows m ≡ Some row) → (member_from m member fm).0.mount ≡ (row_from m row fr).0.mount
      same_old m member row fm fr =
          let x = row_from m row fr in
          let y = member_from m member fm in
          let at_row : row.mount ≡ m = eqb-true row.mount m (found_passes (λ (r : MountRow). r.mount == m) rows row fr) in
          let at_member : member.mount ≡ m = eqb-true member.mount m (found_passes (λ (r : MemberRow). r.mount == m) members member fm) in
          let equal : copy_number t.last_mount (mounts_in t ns) y.0.mount ≡ copy_number t.last_mount (mounts_in t ns) x.0.mount = sym (ap (λ (z : MemberRow). z.mount) y.4) ∙ at_member ∙ sym at_row ∙ ap (λ (z : MountRow). z.mount) x.4 in
          ⊎_elim
          (λ same. same)
          (λ other. absurd (apart y.0.mount x.0.mount (among_has y.0.mount (mounts_in t ns) ∙ y.3) (in_mounts x.0 x.2 x.3) other equal))
          (cases_eq y.0.mount x.0.mount)

  pub copy_whole : IsWhole (grown rows members [] (t.last_ns + 1) t)
  copy_whole = grown_whole t whole rows members [] (t.last_ns + 1) 0 copy_well

  abbrev with_number : MountTable → ℕ → MountTable
  with_number x n = record x { last_mount = n }

  pub copy_is : grown rows members [] (t.last_ns + 1) t ≡ with_copy form ns t
  copy_is =
      let long : length rows ≡ length (mounts_in t ns) = length-map (filter (is_in ns) t.rows) (row_in (copy_number t.last_mount (mounts_in t ns)) (t.last_ns + 1)) ∙ sym (length-map (filter (is_in ns) t.rows) (λ (r : MountRow). r.mount)) in
      ap (λ (n : ℕ). with_number (with_copy form ns t) (t.last_mount + n)) long

  pub with_copy_whole : IsWhole (with_copy form ns t)
  with_copy_whole = subst (λ (x : MountTable). IsWhole x) copy_is copy_whole

  pub with_copy_law : AddsNoReceivers t.groups (with_copy form ns t).groups
  with_copy_law = added_law t.groups members [] (t.groups.last_group + length {A = GroupRow} []) whole.sound

  rows_looked_up : (f : MountRow → MountRow) → filter_map (λ m. option_map f (mount_row t.rows m)) (mounts_in t ns) ≡ map f (filter (is_in ns) t.rows)
  rows_looked_up f = looked_up (λ (r : MountRow). r.mount) f (is_in ns) (mount_row t.rows) 0 t.rows (rises_rows 0 t.rows whole.rising) (λ m le. refl)

  members_looked_up : (f : MemberRow → MemberRow) → filter_map (λ m. option_map f (member_row t.groups.members m)) (mounts_in t ns) ≡ map f kept
  members_looked_up f =
      ap (filter_map (λ m. option_map f (member_row t.groups.members m))) (sym kept_keys) ∙
      looked_up (λ (r : MemberRow). r.mount) f (λ r. is_among (mounts_in t ns) r.mount) (member_row t.groups.members) 0 t.groups.members (rises_members 0 t.groups.members whole.sound.orderly.rising) (λ m le. refl)

  -- rows that are just those that are looked up, whatever they are called
  pub copy_grown : (xs : List ℕ) (to : ℕ) (new_rows : List MountRow) (new_members : List MemberRow) (groups : List GroupRow) → xs ≡ mounts_in t ns → to ≡ t.last_ns + 1 → new_rows ≡ filter_map (λ m. option_map (row_in (copy_number t.last_mount xs) to) (mount_row t.rows m)) xs → new_members ≡ filter_map (λ m. option_map (member_in form (copy_number t.last_mount xs)) (member_row t.groups.members m)) xs → groups ≡ [] → grown new_rows new_members groups to t ≡ with_copy form ns t
  copy_grown xs to new_rows new_members groups xs_is to_is rows_are members_are groups_are =
      rw (rows_are, members_are, groups_are, xs_is, to_is)
      (rw (rows_looked_up (row_in (copy_number t.last_mount (mounts_in t ns)) (t.last_ns + 1)), members_looked_up (member_in form (copy_number t.last_mount (mounts_in t ns)))) copy_is)
