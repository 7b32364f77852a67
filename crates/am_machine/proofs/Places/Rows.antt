-- Mounts that come and mounts that go: what stays mounted at a place, and its copies.
use Rattle.std.proofs.Common.{◌≡◌, ◌≤◌, ◌<◌, ◌⊎◌, ℕ, Bool, false, List, [], ◌∷◌, Some, sym, ◌∙◌, ap, ⊎_elim, arith}
use Rattle.std.specs.Prelude.{is_some}
use Rattle.am_names.specs.{MountRow}
use Rattle.am_group.specs.{PropagatesBy, Receives, AddsNoReceivers}
use Rattle.am_mount.specs.{mount_row, HasRow, IsIn, IsAt}
use Rattle.am_propagate.specs.MountTable.{MountTable}
use Rattle.am_propagate.specs.{ShareFs, IsWhole}
use Rattle.am_propagate.proofs.RemovalLemmas.{same_there, reached_row, same_along}
use Rattle.am_machine.specs.{HoldsOne, HasCopy, IsCopied}

-- a mount that receives is there
reached_by_a_way : (t : MountTable) → IsWhole t → (way : List ℕ) (b c : ℕ) → PropagatesBy t.groups way b c → (row : MountRow) × (mount_row t.rows c ≡ Some row)
reached_by_a_way t whole [] b c p = reached_row t whole b c p
reached_by_a_way t whole (n ∷ way) b c p = reached_by_a_way t whole way n c p.1

pub receiver_row : (t : MountTable) → IsWhole t → (b c : ℕ) → Receives t.groups b c → (row : MountRow) × (mount_row t.rows c ≡ Some row)
receiver_row t whole b c r = reached_by_a_way t whole r.way b c r.arrives

-- and of the same file system
pub receiver_fs : (t : MountTable) → IsWhole t → (b c : ℕ) → Receives t.groups b c → ShareFs t.rows b c
receiver_fs t whole b c r = same_along t whole r.way b c r.arrives

-- of two mounts that were there, one receives only if it did before
pub received : (old : MountTable) → IsWhole old → (new : MountTable) → AddsNoReceivers old.groups new.groups → (b c : ℕ) (x y : MountRow) → mount_row old.rows b ≡ Some x → mount_row old.rows c ≡ Some y → Receives new.groups b c → Receives old.groups b c
received old whole new law b c x y ex ey r =
    law b c (sym (same_there old whole b) ∙ ap is_some ex) (sym (same_there old whole c) ∙ ap is_some ey) r

-- a mount is mounted on one that is there
pub parent_row : (t : MountTable) → IsWhole t → (m p : ℕ) (row : MountRow) (place : List (List ℕ)) → mount_row t.rows m ≡ Some row → IsAt p place row → HasRow (IsIn row.ns) t.rows p
parent_row t whole m p row place e at = whole.parents m p row e (place, at)

-- ---- mounts that come

-- all that was there stays, what comes has a higher number, and no mount receives more
pub record Grows (old new : MountTable) : Type 0 where
  pub stays : (m : ℕ) (row : MountRow) → mount_row old.rows m ≡ Some row → mount_row new.rows m ≡ Some row
  pub came : (m : ℕ) (row : MountRow) → mount_row new.rows m ≡ Some row → (mount_row old.rows m ≡ Some row) ⊎ (old.last_mount < m)
  pub law : AddsNoReceivers old.groups new.groups

-- of what comes nothing is mounted on this mount but where it is alone and has its copies
pub record ComesAlone (old new : MountTable) (x : ℕ) : Type 0 where
  pub alone : (m n : ℕ) (a b : MountRow) (place : List (List ℕ)) → old.last_mount < m → mount_row new.rows m ≡ Some a → mount_row new.rows n ≡ Some b → IsAt x place a → IsAt x place b → m ≡ n
  pub copied : (m y : ℕ) (row : MountRow) (place : List (List ℕ)) → old.last_mount < m → mount_row new.rows m ≡ Some row → IsAt x place row → Receives new.groups x y → y < m → HasCopy new.rows y place m

-- nothing at all is mounted on it
pub record StaysFree (old new : MountTable) (x : ℕ) : Type 0 where
  pub free : (m : ℕ) (row : MountRow) (place : List (List ℕ)) → old.last_mount < m → mount_row new.rows m ≡ Some row → IsAt x place row → ⊥

pub free_alone : (old new : MountTable) (x : ℕ) → StaysFree old new x → ComesAlone old new x
free_alone old new x h = record {
  alone = λ m n a b place above ea eb at_a at_b. absurd (h.free m a place above ea at_a);
  copied = λ m y row place above e at r less. absurd (h.free m row place above e at);
}

module _ (old : MountTable) (whole : IsWhole old) (new : MountTable) (grows : Grows old new) (x : ℕ) (comes : ComesAlone old new x) where
  pub grown_one : HoldsOne old.rows x → HoldsOne new.rows x
  grown_one h m n a b place ea eb at_a at_b = ⊎_elim
      (λ old_m. ⊎_elim
      (λ old_n. h m n a b place old_m old_n at_a at_b)
      (λ above. sym (comes.alone n m b a place above eb ea at_b at_a))
      (grows.came n b eb))
      (λ above. comes.alone m n a b place above ea eb at_a at_b)
      (grows.came m a ea)

  stays_copied : (y : ℕ) (place : List (List ℕ)) (m : ℕ) → HasCopy old.rows y place m → HasCopy new.rows y place m
  stays_copied y place m h = record { number = h.number; row = h.row; is_row = grows.stays h.number h.row h.is_row; at = h.at; from = h.from }

  pub grown_copied : IsWhole new → IsCopied old x → IsCopied new x
  grown_copied whole_new h m y row place e at r less = ⊎_elim
      (λ old_m.
      let parent = parent_row old whole m x row place old_m at in
      let other = receiver_row new whole_new x y r in
      let le : m ≤ old.last_mount = (whole.numbered m row old_m).0 in
      ⊎_elim
      (λ old_y. stays_copied y place m (h m y row place old_m at (received old whole new grows.law x y parent.0 other.0 parent.1 old_y r) less))
      (λ above. absurd (omega arith))
      (grows.came y other.0 other.1))
      (λ above. comes.copied m y row place above e at r less)
      (grows.came m row e)

-- ---- mounts that go

-- what is left is what doesn't go, and no mount receives more
pub record Shrinks (old new : MountTable) (goes : ℕ → Bool) : Type 0 where
  pub was : (m : ℕ) (row : MountRow) → mount_row new.rows m ≡ Some row → (goes m ≡ false) × (mount_row old.rows m ≡ Some row)
  pub stays : (m : ℕ) (row : MountRow) → goes m ≡ false → mount_row old.rows m ≡ Some row → mount_row new.rows m ≡ Some row
  pub law : AddsNoReceivers old.groups new.groups

-- a copy of what stays doesn't go, where its parent stays
pub record LeavesCopies (old : MountTable) (goes : ℕ → Bool) (x : ℕ) : Type 0 where
  pub leaves : (m y n : ℕ) (a b : MountRow) (place : List (List ℕ)) → goes m ≡ false → goes y ≡ false → mount_row old.rows m ≡ Some a → IsAt x place a → Receives old.groups x y → mount_row old.rows n ≡ Some b → IsAt y place b → goes n ≡ false

module _ (old : MountTable) (whole : IsWhole old) (new : MountTable) (goes : ℕ → Bool) (shrinks : Shrinks old new goes) (x : ℕ) where
  pub left_one : HoldsOne old.rows x → HoldsOne new.rows x
  left_one h m n a b place ea eb at_a at_b = h m n a b place (shrinks.was m a ea).1 (shrinks.was n b eb).1 at_a at_b

  pub left_copied : IsWhole new → LeavesCopies old goes x → IsCopied old x → IsCopied new x
  left_copied whole_new leaves h m y row place e at r less =
      let was_m = shrinks.was m row e in
      let parent = parent_row old whole m x row place was_m.1 at in
      let other = receiver_row new whole_new x y r in
      let was_y = shrinks.was y other.0 other.1 in
      let before : Receives old.groups x y = received old whole new shrinks.law x y parent.0 other.0 parent.1 was_y.1 r in
      let copy = h m y row place was_m.1 at before less in
      let stays : goes copy.number ≡ false = leaves.leaves m y copy.number row copy.row place was_m.0 was_y.0 was_m.1 at before copy.is_row copy.at in
      record { number = copy.number; row = copy.row; is_row = shrinks.stays copy.number copy.row stays copy.is_row; at = copy.at; from = copy.from }
