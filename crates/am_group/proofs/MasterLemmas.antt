-- Slaves that get another master.
use Rattle.std.proofs.Common.{◌≡◌, ℕ, Bool, List, [], ◌∷◌, Option, Some, None, refl, sym, ap, ◌∙◌}
use Rattle.std.specs.Prelude.{map}
use Rattle.am_names.specs.{MemberRow, GroupRow}
use Rattle.am_group.specs.{lift_in, lift_member, under_master}

abbrev row_of : ℕ → Option ℕ → Option ℕ → Bool → MemberRow
row_of m g o u = record { mount = m; group = g; master = o; unbindable = u }

-- the number stays
pub under_mount : (master : Option ℕ) (r : MemberRow) → (under_master master r).mount ≡ r.mount
under_mount master r = go r.mount r.group r.master r.unbindable
  where
    go : (m : ℕ) (g o : Option ℕ) (u : Bool) → (under_master master (row_of m g o u)).mount ≡ m
    go m g None u = refl
    go m g (Some own) u = refl

-- the second time changes nothing
pub under_twice : (master : Option ℕ) (r : MemberRow) → under_master master (under_master master r) ≡ under_master master r
under_twice master r = go master r.mount r.group r.master r.unbindable
  where
    go :
        (to : Option ℕ) (m : ℕ) (g o : Option ℕ) (u : Bool) →
        under_master to (under_master to (row_of m g o u)) ≡ under_master to (row_of m g o u)
    go None m g None u = refl
    go (Some n) m g None u = refl
    go None m g (Some own) u = refl
    go (Some n) m g (Some own) u = refl

-- its own master changes nothing
pub under_own : (r : MemberRow) → under_master r.master r ≡ r
under_own r = go r.mount r.group r.master r.unbindable
  where
    go : (m : ℕ) (g o : Option ℕ) (u : Bool) → under_master o (row_of m g o u) ≡ row_of m g o u
    go m g None u = refl
    go m g (Some own) u = refl

-- what has no master gets none
lift_none : (lifts : List GroupRow) → lift_in lifts None ≡ None
lift_none [] = refl
lift_none (l ∷ lifts) = lift_none lifts

-- in place of a peer group as a master another: of a slave alone
pub under_where :
    (f : Option ℕ → Option ℕ) → f None ≡ None → (r : MemberRow) → under_master (f r.master) r ≡ (record r { master = f r.master })
under_where f none r = go r.mount r.group r.master r.unbindable
  where
    go : (m : ℕ) (g o : Option ℕ) (u : Bool) → under_master (f o) (row_of m g o u) ≡ row_of m g (f o) u
    go m g None u = ap (λ (x : Option ℕ). row_of m g x u) (sym none)
    go m g (Some own) u = refl

-- the slaves with the masters that they get
pub lifted_alike :
    (lifts : List GroupRow) (rows : List MemberRow) →
    map (λ r. under_master (lift_in lifts r.master) r) rows ≡ map (lift_member lifts) rows
lifted_alike lifts [] = refl
lifted_alike lifts (r ∷ rows) =
    ap (λ (x : MemberRow). x ∷ map (λ r. under_master (lift_in lifts r.master) r) rows) (under_where (lift_in lifts) (lift_none lifts) r) ∙
    ap (λ (xs : List MemberRow). lift_member lifts r ∷ xs) (lifted_alike lifts rows)
