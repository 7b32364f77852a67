-- The peer groups above a mount, one after another.
use Rattle.std.proofs.Common.{◌≡◌, ◌-◌, ◌==◌, ℕ, zero, suc, Bool, true, false, cond, [], ◌∷◌, find, Option, Some, None, refl, ap, ◌∙◌, arith}
use Rattle.am_names.specs.PeerGroups.{PeerGroups}
use Rattle.am_group.specs.{master_of_group}
use Rattle.am_propagate.specs.MountTable.{MountTable}
use Rattle.am_mountinfo.specs.{has_peer, masters_from}

pub masters_none : (most : ℕ) (s : PeerGroups) → masters_from most s None ≡ []
masters_none zero s = refl
masters_none (suc most) s = refl

masters_some : (most : ℕ) (s : PeerGroups) (group : ℕ) → (most == 0) ≡ false → masters_from most s (Some group) ≡ group ∷ masters_from (most - 1) s (master_of_group s group)
masters_some zero s group e = absurd cc
masters_some (suc most) s group e =
    let less : most ≡ suc most - 1 = omega arith in
    ap (λ (n : ℕ). group ∷ masters_from n s (master_of_group s group)) less

-- there is none above
pub found_none : (t : MountTable) (ns most : ℕ) (above : Option ℕ) → above ≡ None → find (has_peer t ns) (masters_from most t.groups above) ≡ None
found_none t ns most above e =
    ap (λ (o : Option ℕ). find (has_peer t ns) (masters_from most t.groups o)) e
    ∙ ap (find (has_peer t ns)) (masters_none most t.groups)

-- no more are looked at
pub found_no_more : (t : MountTable) (ns most : ℕ) (above : Option ℕ) → most ≡ 0 → find (has_peer t ns) (masters_from most t.groups above) ≡ None
found_no_more t ns most above e = ap (λ (n : ℕ). find (has_peer t ns) (masters_from n t.groups above)) e

step : (t : MountTable) (ns most : ℕ) (above : Option ℕ) (group : ℕ) → above ≡ Some group → (most == 0) ≡ false → find (has_peer t ns) (masters_from most t.groups above) ≡ cond (has_peer t ns group) (Some group) (find (has_peer t ns) (masters_from (most - 1) t.groups (master_of_group t.groups group)))
step t ns most above group e more =
    ap (λ (o : Option ℕ). find (has_peer t ns) (masters_from most t.groups o)) e
    ∙ ap (find (has_peer t ns)) (masters_some most t.groups group more)

-- the next one has a mount in the namespace
pub found_here : (t : MountTable) (ns most : ℕ) (above : Option ℕ) (group : ℕ) → above ≡ Some group → (most == 0) ≡ false → has_peer t ns group ≡ true → find (has_peer t ns) (masters_from most t.groups above) ≡ Some group
found_here t ns most above group e more has =
    step t ns most above group e more
    ∙ ap (λ (b : Bool). cond b (Some group) (find (has_peer t ns) (masters_from (most - 1) t.groups (master_of_group t.groups group)))) has

-- or it has none
pub found_above : (t : MountTable) (ns most : ℕ) (above : Option ℕ) (group : ℕ) → above ≡ Some group → (most == 0) ≡ false → has_peer t ns group ≡ false → find (has_peer t ns) (masters_from most t.groups above) ≡ find (has_peer t ns) (masters_from (most - 1) t.groups (master_of_group t.groups group))
found_above t ns most above group e more has =
    step t ns most above group e more
    ∙ ap (λ (b : Bool). cond b (Some group) (find (has_peer t ns) (masters_from (most - 1) t.groups (master_of_group t.groups group)))) has
