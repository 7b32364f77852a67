-- The mounts that come stand behind those that were there.
use Rattle.std.proofs.Common.{◌≡◌, ◌≤◌, ◌<◌, ◌+◌, ℕ, suc, true, false, List, [], ◌∷◌, ◌++◌, length, add-one, refl, ap, ◌∙◌, arith}
use Rattle.std.specs.Prelude.{filter, map, nat_le}
use Rattle.std.proofs.lemmas.Bool.Decides.{nat_tests}
use Rattle.std.proofs.lemmas.List.{map-append}
use Rattle.am_names.specs.{Membership, MountRow, Position}
use Rattle.am_group.specs.{receivers_of}
use Rattle.am_mount.specs.{is_in}
use Rattle.am_mount.proofs.RowLemmas.{RiseOn}
use Rattle.am_propagate.specs.MountTable.{MountTable}
use Rattle.am_propagate.specs.{all_mounts, IsWhole, rows_at, numbers_after, new_mounts, mounts_made, mounted, mounts_in, CopyForm, count_up_to, copy_number, row_in, with_copy}
use Rattle.am_propagate.proofs.NamespaceLemmas.{row_keys, mounts_rise}

row_numbers : (t : MountTable) (place : List (List ℕ)) (fs origin last : ℕ) (parents : List ℕ) → map (λ (r : MountRow). r.mount) (rows_at t place fs origin (last + 1) parents) ≡ numbers_after last (length parents)
row_numbers t place fs origin last [] = refl
row_numbers t place fs origin last (p ∷ parents) = ap (λ (xs : List ℕ). (last + 1) ∷ xs) (row_numbers t place fs origin (last + 1) parents)

pub mounted_came : (t : MountTable) (at : Position) (fs : ℕ) (membership : Membership) → all_mounts (mounted at fs membership t) ≡ all_mounts t ++ new_mounts t (mounts_made at.mount t)
mounted_came t at fs membership =
    map-append (λ (r : MountRow). r.mount) t.rows (rows_at t at.place fs (t.last_mount + 1) (t.last_mount + 1) (at.mount ∷ receivers_of t.groups at.mount)) ∙
    ap (λ (xs : List ℕ). all_mounts t ++ xs) (row_numbers t at.place fs (t.last_mount + 1) t.last_mount (at.mount ∷ receivers_of t.groups at.mount))

-- so many numbers are those of the mounts that come
pub come_made : (t : MountTable) (at last : ℕ) (receivers comes : List ℕ) → last ≡ t.last_mount → receivers ≡ receivers_of t.groups at → comes ≡ numbers_after last (length receivers + 1) → comes ≡ new_mounts t (mounts_made at t)
come_made t at last receivers comes last_is receivers_are comes_are =
    comes_are ∙ ap (numbers_after last) (add-one (length receivers)) ∙
    ap (λ (n : ℕ). numbers_after n (suc (length receivers))) last_is ∙
    ap (λ (xs : List ℕ). numbers_after t.last_mount (suc (length xs))) receivers_are

-- of rising numbers that are above this one, none counts up to it
pub none_up_to : (a low : ℕ) (xs : List ℕ) → a < low → RiseOn low xs → count_up_to a xs ≡ 0
none_up_to a low [] above rises = refl
none_up_to a low (x ∷ xs) above rises =
    let first : low ≤ x = rises.0 in
    let not_counted : nat_le x a ≡ false = grind (arith, nat_tests) in
    rw not_counted (none_up_to a (x + 1) xs (omega arith) rises.1)

-- with one more number below them all, each has the next number
one_more : (last x : ℕ) (ys zs : List ℕ) (low : ℕ) → x < low → RiseOn low zs → map (copy_number last (x ∷ ys)) zs ≡ map (copy_number (last + 1) ys) zs
one_more last x ys [] low above rises = refl
one_more last x ys (z ∷ zs) low above rises =
    let first : low ≤ z = rises.0 in
    let counted : nat_le x z ≡ true = grind (arith, nat_tests) in
    let longer : count_up_to z (x ∷ ys) ≡ length (x ∷ filter (λ y. nat_le y z) ys) = rw counted refl in
    let here : copy_number last (x ∷ ys) z ≡ copy_number (last + 1) ys z = omega arith in
    ap (λ (n : ℕ). n ∷ map (copy_number last (x ∷ ys)) zs) here ∙
    ap (λ (ns : List ℕ). copy_number (last + 1) ys z ∷ ns) (one_more last x ys zs (z + 1) (omega arith) rises.1)

-- the copies of rising numbers have just the next ones
copies_are : (last low : ℕ) (xs : List ℕ) → RiseOn low xs → map (copy_number last xs) xs ≡ numbers_after last (length xs)
copies_are last low [] rises = refl
copies_are last low (x ∷ xs) rises =
    let counted : nat_le x x ≡ true = grind (arith, nat_tests) in
    let longer : count_up_to x (x ∷ xs) ≡ length (x ∷ filter (λ y. nat_le y x) xs) = rw counted refl in
    let none : count_up_to x xs ≡ 0 = none_up_to x (x + 1) xs (omega arith) rises.1 in
    let here : copy_number last (x ∷ xs) x ≡ last + 1 = omega arith in
    ap (λ (n : ℕ). n ∷ map (copy_number last (x ∷ xs)) xs) here ∙
    ap (λ (ns : List ℕ). (last + 1) ∷ ns) (one_more last x xs xs (x + 1) (omega arith) rises.1 ∙ copies_are (last + 1) (x + 1) xs rises.1)

pub copied_came : (t : MountTable) → IsWhole t → (ns : ℕ) (form : CopyForm) → all_mounts (with_copy form ns t) ≡ all_mounts t ++ new_mounts t (length (mounts_in t ns))
copied_came t whole ns form =
    map-append (λ (r : MountRow). r.mount) t.rows (map (row_in (copy_number t.last_mount (mounts_in t ns)) (t.last_ns + 1)) (filter (is_in ns) t.rows)) ∙
    ap (λ (xs : List ℕ). all_mounts t ++ xs) (row_keys t whole ns form ∙ copies_are t.last_mount 0 (mounts_in t ns) (mounts_rise t whole ns form))
