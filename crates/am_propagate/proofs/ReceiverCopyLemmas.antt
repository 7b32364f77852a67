-- A mount comes with one copy on each mount that receives it, and no other.
use Rattle.std.proofs.Common.{◌≡◌, ◌≤◌, ◌<◌, ◌+◌, ◌⊎◌, ℕ, Bool, true, false, cond, List, [], ◌∷◌, Option, Some, None, refl, sym, ap, inl, inr, ⊎_elim, ◌∙◌, arith}
use Rattle.std.specs.Prelude.{is_some, ◌==◌}
use Rattle.std.proofs.lemmas.List.Folds.{find-append}
use Rattle.std.proofs.lemmas.Bool.{eqb-true, eq-eqb, ne_eqb}
use Rattle.am_names.specs.{Membership, MountRow, Position}
use Rattle.am_group.specs.{Receives, receivers_of}
use Rattle.am_group.proofs.ScanLemmas.{has}
use Rattle.am_group.proofs.UnderLemmas.{receivers_rise}
use Rattle.am_mount.specs.{mount_row, IsOn}
use Rattle.am_mount.proofs.RowLemmas.{RiseOn}
use Rattle.am_propagate.specs.MountTable.{MountTable}
use Rattle.am_propagate.specs.{is_mount, IsWhole, ns_in, row_at, rows_at, mounted, count_up_to, IsNewMount, IsMountedAt, ComesAs, ComesWithCopies}
use Rattle.am_propagate.proofs.RemovalLemmas.{some_of, same_there}
use Rattle.am_propagate.proofs.NamespaceLemmas.{count_some, count_less}
use Rattle.am_propagate.proofs.SearchLemmas.{rise_all}
use Rattle.am_propagate.proofs.AdditionLemmas.{receiver_exact, receiver_there}
use Rattle.am_propagate.proofs.NewMountLemmas.{takes_second, keeps_mounts, none_above, one_each, each_found, each_there}

rows_each : (t : MountTable) (place : List (List ℕ)) (fs origin number : ℕ) (parents : List ℕ) →
    rows_at t place fs origin number parents ≡
    one_each (λ n p. row_at t place fs origin n p) number parents
rows_each t place fs origin number [] = refl
rows_each t place fs origin number (p ∷ parents) =
    ap (λ (xs : List MountRow). row_at t place fs origin number p ∷ xs)
    (rows_each t place fs origin (number + 1) parents)

abbrev mount_in : Option Position → ℕ
mount_in None = 0
mount_in (Some p) = p.mount

module _
    (t : MountTable) (whole : IsWhole t) (at : Position) (fs : ℕ) (membership : Membership)
    (there : is_mount t at.mount ≡ true) where
  abbrev first : ℕ
  first = t.last_mount + 1

  abbrev rs : List ℕ
  rs = receivers_of t.groups at.mount

  abbrev number_on : ℕ → ℕ
  number_on r = t.last_mount + 1 + count_up_to r (receivers_of t.groups at.mount)

  abbrev row_on : ℕ → ℕ → MountRow
  row_on n p = row_at t at.place fs (t.last_mount + 1) n p

  abbrev copies : List MountRow
  copies =
      rows_at t at.place fs (t.last_mount + 1) (t.last_mount + 1 + 1)
      (receivers_of t.groups at.mount)

  abbrev after : MountTable
  after = mounted at fs membership t

  rise : RiseOn 0 rs
  rise = rise_all rs (receivers_rise t.groups whole.sound.orderly at.mount)

  exact_has : (r : ℕ) → Receives t.groups at.mount r → has r rs ≡ true
  exact_has r receives = (receiver_exact t.groups whole.sound at.mount r).1 receives

  -- what is found of the mounts that come
  came_row : (m : ℕ) (row : MountRow) → is_mount t m ≡ false → mount_row after.rows m ≡ Some row →
      ((m ≡ first) × (row ≡ row_on m at.mount)) ⊎
      ((r : ℕ) × (has r rs ≡ true) × (m ≡ number_on r) × (row ≡ row_on m r))
  came_row m row none e =
      go (first == m) refl
      (sym (find-append (λ (r : MountRow). r.mount == m) t.rows _ ∙
      takes_second (mount_row t.rows m) _ none) ∙ e)
    where
      go : (b : Bool) → (first == m) ≡ b →
          cond b (Some (row_on first at.mount)) (mount_row copies m) ≡ Some row →
          ((m ≡ first) × (row ≡ row_on m at.mount)) ⊎
          ((r : ℕ) × (has r rs ≡ true) × (m ≡ number_on r) × (row ≡ row_on m r))
      go true f e =
          let same : first ≡ m = eqb-true first m f in
          let is : row_on first at.mount ≡ row = cc in
          inl (sym same, sym is ∙ ap (λ (n : ℕ). row_on n at.mount) same)
      go false f e =
          inr (each_found (λ (r : MountRow). r.mount) row_on (λ n p. refl) first 0 rs rise m row
          (ap (λ (xs : List MountRow). mount_row xs m)
          (sym (rows_each t at.place fs first (first + 1) rs)) ∙ e))

  -- the mount itself, and the copy on each receiver, are found
  itself_there : mount_row after.rows first ≡ Some (row_on first at.mount)
  itself_there =
      find-append (λ (r : MountRow). r.mount == first) t.rows _ ∙
      takes_second (mount_row t.rows first) _ (none_above t whole first (omega arith)) ∙
      rw (eq-eqb first first refl) refl

  above : (r : ℕ) → has r rs ≡ true → first < number_on r
  above r h = let some : 1 ≤ count_up_to r rs = count_some r rs h in omega arith

  copy_there : (r : ℕ) → has r rs ≡ true →
      mount_row after.rows (number_on r) ≡ Some (row_on (number_on r) r)
  copy_there r h =
      let up : first < number_on r = above r h in
      find-append (λ (x : MountRow). x.mount == number_on r) t.rows _ ∙
      takes_second (mount_row t.rows (number_on r)) _ (none_above t whole (number_on r) (omega arith)) ∙
      rw (ne_eqb first (number_on r) (λ same. omega arith))
      (ap (λ (xs : List MountRow). mount_row xs (number_on r))
      (rows_each t at.place fs first (first + 1) rs) ∙
      each_there (λ (x : MountRow). x.mount) row_on (λ n p. refl) first 0 rs rise r h)

  -- each stands at the place of its parent, in the parent's namespace
  mounted_at : (p n : ℕ) → is_mount t p ≡ true →
      IsMountedAt t (record at { mount = p }) fs first (row_on n p)
  mounted_at p n is =
      let parent = some_of (mount_row t.rows p) is in
      record {
        at_place = refl;
        same_ns = (parent.0, parent.1, sym (ap ns_in parent.1));
        has_fs = refl;
        has_origin = refl;
      }

  receiver_mount : (r : ℕ) → has r rs ≡ true → is_mount t r ≡ true
  receiver_mount r h = same_there t whole r ∙ receiver_there t.groups whole.sound at.mount r h

  same_parent : (o : Option Position) (p q : ℕ) (place place' : List (List ℕ)) →
      o ≡ Some (record { mount = p; place = place }) →
      o ≡ Some (record { mount = q; place = place' }) → p ≡ q
  same_parent o p q place place' e f = ap mount_in (sym e ∙ f)

  -- the copy on a receiver has its number
  pub copy_number_is : (r m : ℕ) → Receives t.groups at.mount r → ComesAs (IsOn r) t after m →
      m ≡ number_on r
  copy_number_is r m receives comes = ⊎_elim
      (λ itself.
      let same : at.mount ≡ r =
      same_parent comes.1.0.mountpoint at.mount r at.place comes.1.2.0
      (ap (λ (x : MountRow). x.mountpoint) itself.1) comes.1.2.1
      in
      absurd (receives.is_other (sym same)))
      (λ copy.
      let same : copy.0 ≡ r =
      same_parent comes.1.0.mountpoint copy.0 r at.place comes.1.2.0
      (ap (λ (x : MountRow). x.mountpoint) copy.3) comes.1.2.1
      in
      copy.2 ∙ ap number_on same)
      (came_row m comes.1.0 comes.0.0 comes.1.1)

  came_from : (m : ℕ) → IsNewMount t after m →
      (m ≡ first) ⊎ ((r : ℕ) × Receives t.groups at.mount r × ComesAs (IsOn r) t after m)
  came_from m new =
      let row = some_of (mount_row after.rows m) new.1 in
      ⊎_elim
      (λ itself. inl itself.0)
      (λ copy.
      let on : IsOn copy.0 row.0 = (at.place, ap (λ (x : MountRow). x.mountpoint) copy.3) in
      inr (copy.0, (receiver_exact t.groups whole.sound at.mount copy.0).0 copy.1, (new, (row.0, row.1, on))))
      (came_row m row.0 new.0 row.1)

  pub with_copies : ComesWithCopies at fs first t after
  with_copies = record {
    itself = (
      (none_above t whole first (omega arith), ap is_some itself_there),
      (row_on first at.mount, itself_there, mounted_at at.mount first there),
    );
    each = λ r receives.
        let h = exact_has r receives in
        let m = number_on r in
        let up : first < number_on r = above r h in (
          m,
          (
            (none_above t whole m (omega arith), ap is_some (copy_there r h)),
            (row_on m r, copy_there r h, mounted_at r m (receiver_mount r h)),
          ),
        );
    one =
        λ r m n receives on_m on_n. copy_number_is r m receives on_m ∙
        sym (copy_number_is r n receives on_n);
    no_other = came_from;
    rising = λ r q m n receives_r receives_q less on_m on_n.
        let m_is : m ≡ number_on r = copy_number_is r m receives_r on_m in
        let n_is : n ≡ number_on q = copy_number_is q n receives_q on_n in
        let counts : count_up_to r rs < count_up_to q rs = count_less r q less rs (exact_has q receives_q) in
        omega arith;
    first = λ m new. ⊎_elim
        (λ itself. omega arith)
        (λ copy.
        let is : m ≡ number_on copy.0 = copy_number_is copy.0 m copy.1 copy.2 in
        omega arith)
        (came_from m new);
    stay = keeps_mounts t after _ _ _ refl refl refl;
  }
