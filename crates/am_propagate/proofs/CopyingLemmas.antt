-- Copies that come one after another: what is below them, and how many they are.
use Rattle.std.proofs.Common.{◌≡◌, ◌<◌, ◌+◌, ◌-◌, ℕ, suc, Bool, true, false, cond, List, [], ◌∷◌, ◌++◌, length, take, Option, Some, None, refl, sym, ap, ◌∙◌, arith}
use Rattle.std.specs.Prelude.{filter_map, option_map, ◌==◌}
use Rattle.std.specs.List.{Contains, cons_option}
use Rattle.std.specs.Option.{option_or}
use Rattle.std.proofs.lemmas.Bool.{eqb-true}
use Rattle.std.proofs.lemmas.List.Folds.{find-append}
use Rattle.std.proofs.lemmas.List.{length-append}
use Rattle.std.proofs.Math.Seq.{take-append_seam}
use Rattle.am_names.specs.{MountRow}
use Rattle.am_names.specs.PeerGroups.{PeerGroups}
use Rattle.am_group.specs.{all_added}
use Rattle.am_mount.specs.{IsRising, mount_row}
use Rattle.am_propagate.specs.Copying.{AreBelow, AreThere, rows_in, members_in, with_copies}
use Rattle.am_propagate.specs.Namespaces.{copy_number, row_in}
use Rattle.am_propagate.specs.MountTable.{MountTable}
use Rattle.am_propagate.specs.declared.subtree.namespace.CopyForm.{CopyForm}
use Rattle.am_propagate.proofs.GrowthLemmas.{rows_follow}

-- a row that was there is there still
pub still_there : (xs ys : List MountRow) (m : ℕ) (row : MountRow) → mount_row xs m ≡ Some row → mount_row (xs ++ ys) m ≡ Some row
still_there xs ys m row e =
    find-append (λ (r : MountRow). r.mount == m) xs ys ∙ ap (λ (o : Option MountRow). option_or o (mount_row ys m)) e

-- the rows below a number, and one that has it, are below the next
pub below_next : (xs : List MountRow) (x : MountRow) (n : ℕ) → AreBelow n xs → x.mount ≡ n → AreBelow (n + 1) (xs ++ x ∷ [])
below_next xs x n below is m row e =
    go (mount_row xs m) refl (sym (find-append (λ (r : MountRow). r.mount == m) xs (x ∷ [])) ∙ e)
  where
    last : (b : Bool) → (x.mount == m) ≡ b → cond b (Some x) None ≡ Some row → m < n + 1
    last true t f = let same : x.mount ≡ m = eqb-true x.mount m t in omega arith
    last false t f = absurd cc

    go : (o : Option MountRow) → mount_row xs m ≡ o → option_or o (mount_row (x ∷ []) m) ≡ Some row → m < n + 1
    go (Some r) f g = let less : m < n = below m r f in omega arith
    go None f g = last (x.mount == m) refl g

-- a row behind those that are below its number
pub rises_behind : (xs : List MountRow) (x : MountRow) (n : ℕ) → IsRising xs → AreBelow n xs → x.mount ≡ n → IsRising (xs ++ x ∷ [])
rises_behind xs x n rises below is =
    rows_follow 0 n xs (x ∷ []) rises (omega arith) below (omega (arith, is), tt)

-- where each gives something, there are as many
pub all_give : {B : Type 0} (h : ℕ → Option B) (xs : List ℕ) → ((m : ℕ) → Contains xs m → (y : B) × (h m ≡ Some y)) → length (filter_map h xs) ≡ length xs
all_give h [] each = refl
all_give {B} h (x ∷ xs) each =
    let here = each x (0, omega arith, refl) in
    let rest = all_give h xs (λ m among. each m (suc among.0, omega (arith, among.1), among.2)) in
    ap (λ (o : Option B). length (cons_option o (filter_map h xs))) here.1 ∙ ap suc rest

-- those that came last are taken back
pub taken_back : {X : Type 0} (xs ys : List X) (n : ℕ) → length ys ≡ n → take (length (xs ++ ys) - n) (xs ++ ys) ≡ xs
taken_back {X} xs ys n long =
    let all : length (xs ++ ys) ≡ length xs + length ys = length-append xs ys in
    let left : length (xs ++ ys) - n ≡ length xs = omega (arith, all, long) in
    ap (λ (k : ℕ). take k (xs ++ ys)) left ∙ take-append_seam xs ys

module _ (t : MountTable) (mounts : List ℕ) (to : ℕ) (there : AreThere mounts t.rows) where
  -- there are as many copies as mounts
  pub copies_long : length (rows_in t.last_mount mounts to t.rows) ≡ length mounts
  copies_long =
      all_give (λ m. option_map (row_in (copy_number t.last_mount mounts) to) (mount_row t.rows m)) mounts
      (λ m among. let here = there m among in (row_in (copy_number t.last_mount mounts) to here.0, ap (option_map (row_in (copy_number t.last_mount mounts) to)) here.1))

  -- all mounts, as they are written
  pub copies_made : (form : CopyForm) (rows : List MountRow) (groups : PeerGroups) (ns : ℕ) →
      rows ≡ t.rows ++ rows_in t.last_mount mounts to t.rows →
      groups ≡ all_added (members_in form t.last_mount mounts t.groups.members) [] t.groups →
      ns ≡ to →
      record t { rows = rows; groups = groups; last_mount = t.last_mount + length mounts; last_ns = ns } ≡ with_copies form mounts to t
  copies_made form rows groups ns rows_are groups_are ns_is =
      rw (rows_are, groups_are, ns_is)
      (ap (λ (n : ℕ). record t {
        rows = t.rows ++ rows_in t.last_mount mounts to t.rows;
        groups = all_added (members_in form t.last_mount mounts t.groups.members) [] t.groups;
        last_mount = t.last_mount + n;
        last_ns = to;
      }) (sym copies_long))
