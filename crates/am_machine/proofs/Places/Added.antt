-- What a mount with its copies adds to a mount table.
use Rattle.std.proofs.Common.{◌≡◌, ◌≤◌, ◌<◌, ◌⊎◌, ◌+◌, ℕ, Bool, true, false, cond, eqb, ◌||◌, List, [], ◌∷◌, ◌++◌, Option, Some, None, refl, sym, ◌∙◌, ap, inl, inr, ⊎_elim, arith}
use Rattle.std.specs.Prelude.{◌==◌}
use Rattle.std.specs.Option.{option_or}
use Rattle.std.proofs.lemmas.List.Folds.{find-append}
use Rattle.std.proofs.lemmas.Bool.{eqb-true, eq-eqb, or_cases}
use Rattle.am_names.specs.{Membership, MountRow, Position}
use Rattle.am_names.proofs.Basics.{some_injective}
use Rattle.am_group.specs.{Receives, receivers_of}
use Rattle.am_group.proofs.ScanLemmas.{has}
use Rattle.am_mount.specs.{mount_row}
use Rattle.am_propagate.specs.MountTable.{MountTable}
use Rattle.am_propagate.specs.{IsWhole, row_at, rows_at, mounted}
use Rattle.am_propagate.proofs.AdditionLemmas.{receiver_exact, mounted_law}
use Rattle.am_machine.proofs.Places.Rows.{Grows}

-- a row that is found in what is joined is one of the first, or else one of the others
pub joined_row : (first others : List MountRow) (m : ℕ) (row : MountRow) → mount_row (first ++ others) m ≡ Some row → (mount_row first m ≡ Some row) ⊎ (mount_row others m ≡ Some row)
joined_row first others m row e = go (mount_row first m) refl (sym (find-append (λ (r : MountRow). r.mount == m) first others) ∙ e)
  where
    go : (o : Option MountRow) → mount_row first m ≡ o → option_or o (mount_row others m) ≡ Some row → (mount_row first m ≡ Some row) ⊎ (mount_row others m ≡ Some row)
    go (Some r) f e = inl (f ∙ e)
    go None f e = inr e

pub first_stays : (first others : List MountRow) (m : ℕ) (row : MountRow) → mount_row first m ≡ Some row → mount_row (first ++ others) m ≡ Some row
first_stays first others m row e = find-append (λ (r : MountRow). r.mount == m) first others ∙ rw e refl

-- what isn't among the first is found among the others
pub others_stay : (first others : List MountRow) (m : ℕ) (row : MountRow) → mount_row first m ≡ None → mount_row others m ≡ Some row → mount_row (first ++ others) m ≡ Some row
others_stay first others m row none e = find-append (λ (r : MountRow). r.mount == m) first others ∙ rw none e

-- ---- rows at one place of several parents

module _ (t : MountTable) (place : List (List ℕ)) (fs origin : ℕ) where
  -- a row that is found is at the place of one of them
  pub record IsAdded (number : ℕ) (parents : List ℕ) (m : ℕ) (row : MountRow) : Type 0 where
    pub parent : ℕ
    pub among : has parent parents ≡ true
    pub above : number ≤ m
    pub is_row : row ≡ row_at t place fs origin m parent

  pub added_row : (number : ℕ) (parents : List ℕ) (m : ℕ) (row : MountRow) → mount_row (rows_at t place fs origin number parents) m ≡ Some row → IsAdded number parents m row
  added_row number [] m row e = absurd cc
  added_row number (p ∷ parents) m row e = go (number == m) refl e (added_row (number + 1) parents m row)
    where
      right : (a b : Bool) → b ≡ true → (a || b) ≡ true
      right true b h = refl
      right false b h = h

      go : (b : Bool) → (number == m) ≡ b → cond b (Some (row_at t place fs origin number p)) (mount_row (rows_at t place fs origin (number + 1) parents) m) ≡ Some row →
          (mount_row (rows_at t place fs origin (number + 1) parents) m ≡ Some row → IsAdded (number + 1) parents m row) → IsAdded number (p ∷ parents) m row
      go true f e ih =
          let same : number ≡ m = eqb-true number m f in
          record {
            parent = p;
            among = rw (eq-eqb p p refl) refl;
            above = omega arith;
            is_row = sym (some_injective e) ∙ ap (λ (n : ℕ). row_at t place fs origin n p) same;
          }
      go false f e ih =
          let rest = ih e in
          let le : number + 1 ≤ m = rest.above in
          record { parent = rest.parent; among = right (eqb rest.parent p) (has rest.parent parents) rest.among; above = omega arith; is_row = rest.is_row }

  -- and each of them has one
  pub record HasAdded (number : ℕ) (parents : List ℕ) (parent : ℕ) : Type 0 where
    pub mount : ℕ
    pub above : number ≤ mount
    pub is_row : mount_row (rows_at t place fs origin number parents) mount ≡ Some (row_at t place fs origin mount parent)

  pub has_added : (number : ℕ) (parents : List ℕ) (parent : ℕ) → has parent parents ≡ true → HasAdded number parents parent
  has_added number [] parent h = absurd cc
  has_added number (p ∷ parents) parent h = ⊎_elim
      (λ here.
      let same : parent ≡ p = eqb-true parent p here in
      record { mount = number; above = omega arith; is_row = rw (eq-eqb number number refl) (ap (λ (q : ℕ). Some (row_at t place fs origin number q)) (sym same)) })
      (λ later.
      let rest = has_added (number + 1) parents parent later in
      let le : number + 1 ≤ rest.mount = rest.above in
      record { mount = rest.mount; above = omega arith; is_row = behind rest.mount rest.above rest.is_row })
      (or_cases (eqb parent p) (has parent parents) h)
    where
      behind : (m : ℕ) → number + 1 ≤ m → mount_row (rows_at t place fs origin (number + 1) parents) m ≡ Some (row_at t place fs origin m parent) →
          mount_row (rows_at t place fs origin number (p ∷ parents)) m ≡ Some (row_at t place fs origin m parent)
      behind m le is = at (number == m) refl
        where
          at : (b : Bool) → (number == m) ≡ b → cond b (Some (row_at t place fs origin number p)) (mount_row (rows_at t place fs origin (number + 1) parents) m) ≡ Some (row_at t place fs origin m parent)
          at true f = let same : number ≡ m = eqb-true number m f in absurd (omega arith)
          at false f = is

-- ---- a mount and its copies

module _ (t : MountTable) (whole : IsWhole t) (at : Position) (fs : ℕ) (membership : Membership) where
  abbrev number : ℕ
  number = t.last_mount + 1

  -- a copy, on a mount that receives the mount
  pub record IsCopyRow (m : ℕ) (row : MountRow) : Type 0 where
    pub parent : ℕ
    pub receives : Receives t.groups at.mount parent
    pub above : t.last_mount < m
    pub is_row : row ≡ row_at t at.place fs (t.last_mount + 1) m parent

  -- the mount itself
  pub record IsFirst (m : ℕ) (row : MountRow) : Type 0 where
    pub is_next : m ≡ t.last_mount + 1
    pub is_row : row ≡ row_at t at.place fs (t.last_mount + 1) (t.last_mount + 1) at.mount

  -- what is found was there, or is one of these
  pub came_row : (m : ℕ) (row : MountRow) → mount_row (mounted at fs membership t).rows m ≡ Some row → (mount_row t.rows m ≡ Some row) ⊎ (IsFirst m row ⊎ IsCopyRow m row)
  came_row m row e = ⊎_elim
      (λ old. inl old)
      (λ new. inr (first_or (number == m) refl new))
      (joined_row t.rows (rows_at t at.place fs number number (at.mount ∷ receivers_of t.groups at.mount)) m row e)
    where
      first_or : (b : Bool) → (number == m) ≡ b → cond b (Some (row_at t at.place fs number number at.mount)) (mount_row (rows_at t at.place fs number (number + 1) (receivers_of t.groups at.mount)) m) ≡ Some row → IsFirst m row ⊎ IsCopyRow m row
      first_or true f e = inl (record { is_next = sym (eqb-true number m f); is_row = sym (some_injective e) })
      first_or false f e =
          let added = added_row t at.place fs number (number + 1) (receivers_of t.groups at.mount) m row e in
          let le : number + 1 ≤ m = added.above in
          inr (record {
            parent = added.parent;
            receives = (receiver_exact t.groups whole.sound at.mount added.parent).0 added.among;
            above = omega arith;
            is_row = added.is_row;
          })

  pub mounted_grows : Grows t (mounted at fs membership t)
  mounted_grows = record {
    stays = first_stays t.rows (rows_at t at.place fs number number (at.mount ∷ receivers_of t.groups at.mount));
    came = λ m row e. ⊎_elim
        (λ old. inl old)
        (λ new. inr (⊎_elim (λ first. let next : m ≡ t.last_mount + 1 = first.is_next in omega arith) (λ copy. copy.above) new))
        (came_row m row e);
    law = mounted_law t whole at fs membership;
  }

  -- what comes has numbers that nobody had
  none_above : (m : ℕ) → t.last_mount < m → mount_row t.rows m ≡ None
  none_above m above = go (mount_row t.rows m) refl
    where
      go : (o : Option MountRow) → mount_row t.rows m ≡ o → o ≡ None
      go None e = refl
      go (Some row) e = let le : m ≤ t.last_mount = (whole.numbered m row e).0 in absurd (omega arith)

  pub first_row : mount_row (mounted at fs membership t).rows (t.last_mount + 1) ≡ Some (row_at t at.place fs (t.last_mount + 1) (t.last_mount + 1) at.mount)
  first_row =
      others_stay t.rows (rows_at t at.place fs number number (at.mount ∷ receivers_of t.groups at.mount)) number _ (none_above number (omega arith))
      (rw (eq-eqb number number refl) refl)

  -- each mount that receives has a copy
  pub copy_row : (y : ℕ) → Receives t.groups at.mount y → (m : ℕ) × (mount_row (mounted at fs membership t).rows m ≡ Some (row_at t at.place fs (t.last_mount + 1) m y))
  copy_row y r =
      let has_y = (receiver_exact t.groups whole.sound at.mount y).1 r in
      let added = has_added t at.place fs number (number + 1) (receivers_of t.groups at.mount) y has_y in
      let le : number + 1 ≤ added.mount = added.above in
      (added.mount, others_stay t.rows (rows_at t at.place fs number number (at.mount ∷ receivers_of t.groups at.mount)) added.mount _ (none_above added.mount (omega arith)) (behind added.mount y le added.is_row))
    where
      behind : (m y : ℕ) → number + 1 ≤ m → mount_row (rows_at t at.place fs number (number + 1) (receivers_of t.groups at.mount)) m ≡ Some (row_at t at.place fs number m y) →
          mount_row (rows_at t at.place fs number number (at.mount ∷ receivers_of t.groups at.mount)) m ≡ Some (row_at t at.place fs number m y)
      behind m y le is = go (number == m) refl
        where
          go : (b : Bool) → (number == m) ≡ b → cond b (Some (row_at t at.place fs number number at.mount)) (mount_row (rows_at t at.place fs number (number + 1) (receivers_of t.groups at.mount)) m) ≡ Some (row_at t at.place fs number m y)
          go true f = let same : number ≡ m = eqb-true number m f in absurd (omega arith)
          go false f = is
