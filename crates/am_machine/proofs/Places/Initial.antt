-- Kernel and triggers agree on places in the initial world.
use Rattle.std.proofs.Common.{◌≡◌, ℕ, ◌==◌, Bool, true, false, cond, [], ◌∷◌, Some, None, refl, sym, ◌∙◌, ap, inl, inr, arith}
use Rattle.std.proofs.lemmas.Bool.{eqb-true}
use Rattle.am_names.specs.{MountRow, row_with}
use Rattle.am_names.specs.PeerGroups.{PeerGroups}
use Rattle.am_names.specs.declared.membership.Membership.TheVariants.{Private}
use Rattle.am_group.specs.{IsGroup, IsMaster, IsSound, no_mounts, with_member}
use Rattle.am_group.proofs.MemberLemmas.{member_keeps}
use Rattle.am_mount.specs.{mount_row, IsOn}
use Rattle.am_propagate.specs.{opening, IsWhole}
use Rattle.am_machine.specs.{Setup, initial_state_of, PlacesAgree}

no_mounts_sound : IsSound no_mounts
no_mounts_sound = record {
  orderly = record {
    rising = tt;
    groups_rising = tt;
    group_named = λ m g e. absurd cc;
    master_named = λ g named. none_named g named;
    down = λ h g e. absurd cc;
    fresh = λ g e. absurd cc;
  };
  peopled = λ g named. absurd (no_master g named);
}
  where
    no_master : (g : ℕ) → IsMaster no_mounts g → ⊥
    no_master g (inl named) = let none : None ≡ Some g = named.1 in cc
    no_master g (inr named) = let none : None ≡ Some g = named.1 in cc

    none_named : (g : ℕ) → IsMaster no_mounts g → IsGroup no_mounts g
    none_named g named = absurd (no_master g named)

abbrev root : MountRow
root = record { mount = 1; ns = 0; mountpoint = None; fs = 1; origin = 1 }

abbrev alone : PeerGroups
alone = with_member (row_with Private 1) no_mounts

alone_sound : IsSound alone
alone_sound = (member_keeps no_mounts no_mounts_sound 1 Private refl refl).sound

-- the only mount is the root
only_root : (m : ℕ) (row : MountRow) → mount_row (root ∷ []) m ≡ Some row → (row ≡ root) × (1 ≡ m)
only_root m row e = go (1 == m) refl e
  where
    go : (b : Bool) → (1 == m) ≡ b → cond b (Some root) None ≡ Some row → (row ≡ root) × (1 ≡ m)
    go true f e = (let same : row ≡ root = cc in same, eqb-true 1 m f)
    go false f e = absurd cc

-- it is mounted nowhere
root_nowhere : (m p : ℕ) (row : MountRow) → mount_row (root ∷ []) m ≡ Some row → IsOn p row → ⊥
root_nowhere m p row e on =
    let only = only_root m row e in
    let none : row.mountpoint ≡ None = ap (λ (r : MountRow). r.mountpoint) only.0 in
    let some = on.1 in
    cc

opening_whole : (limit : ℕ) → IsWhole (opening limit)
opening_whole limit = record {
  rising = (omega arith, tt);
  sound = alone_sound;
  same_mounts = refl;
  numbered = λ m row e.
      let only = only_root m row e in
      let number : 1 ≡ m = only.1 in
      let ns : row.ns ≡ 0 = ap (λ (r : MountRow). r.ns) only.0 in
      (omega arith, omega arith);
  parents = λ m p row e on. absurd (root_nowhere m p row e on);
  older = λ m p row e on. absurd (root_nowhere m p row e on);
  one_fs = λ b c p x y ex ey. ap (λ (r : MountRow). r.fs) ((only_root b x ex).0 ∙ sym (only_root c y ey).0);
}

pub initial_places : (opening : Setup) → PlacesAgree (initial_state_of opening).kernel
initial_places opening = record {
  whole = opening_whole opening.limits.mounts;
  given_fs = λ m row e. let fs : row.fs ≡ 1 = ap (λ (r : MountRow). r.fs) (only_root m row e).0 in omega arith;
  given_autofs = λ fs row e. absurd cc;
  locations = λ fs row e. absurd cc;
  one = λ fs row e. absurd cc;
  copied = λ fs row e. absurd cc;
}
