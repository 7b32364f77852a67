-- The lift, a step at a time.
use Rattle.std.proofs.Common.{◌≡◌, ◌<◌, ℕ, zero, suc, Bool, true, false, List, [], ◌∷◌, ◌++◌, Option, Some, None, refl, sym, ap, ◌∙◌, arith}
use Rattle.std.specs.Prelude.{find}
use Rattle.am_names.specs.{MemberRow, GroupRow}
use Rattle.am_names.specs.PeerGroups.{PeerGroups}
use Rattle.am_group.specs.{master_of_group, up_within, up, lifted, IsOrderly}

abbrev pub height : Option ℕ → ℕ
height None = 0
height (Some g) = suc g

up_none : (k : ℕ) (s : PeerGroups) → up_within k s None ≡ []
up_none zero s = refl
up_none (suc k) s = refl

up_same : (s : PeerGroups) → IsOrderly s → (j k : ℕ) (m : ℕ) → m < j → m < k → up_within j s (Some m) ≡ up_within k s (Some m)
up_same s orderly zero k m a b = absurd (omega arith)
up_same s orderly (suc j) zero m a b = absurd (omega arith)
up_same s orderly (suc j) (suc k) m a b = ap (λ (xs : List ℕ). m ∷ xs) (go (master_of_group s m) refl (λ n lj lk. up_same s orderly j k n lj lk))
  where
    go : (o : Option ℕ) → master_of_group s m ≡ o → ((n : ℕ) → n < j → n < k → up_within j s (Some n) ≡ up_within k s (Some n)) → up_within j s o ≡ up_within k s o
    go None e ih = up_none j s ∙ sym (up_none k s)
    go (Some n) e ih = let lower : n < m = orderly.down m n e in ih n (omega arith) (omega arith)

pub up_master : (s : PeerGroups) → IsOrderly s → (g : ℕ) → up_within g s (master_of_group s g) ≡ up s (master_of_group s g)
up_master s orderly g = go (master_of_group s g) refl
  where
    go : (o : Option ℕ) → master_of_group s g ≡ o → up_within g s o ≡ up s o
    go None e = up_none g s
    go (Some n) e = let lower : n < g = orderly.down g n e in up_same s orderly g (suc n) n lower (omega arith)

pub lifted_here : (stays : ℕ → Bool) (s : PeerGroups) (g : ℕ) → stays g ≡ true → lifted stays s (Some g) ≡ Some g
lifted_here stays s g here = rw here refl

pub lifted_step : (stays : ℕ → Bool) (s : PeerGroups) → IsOrderly s → (g : ℕ) → stays g ≡ false → lifted stays s (Some g) ≡ lifted stays s (master_of_group s g)
lifted_step stays s orderly g gone = rw gone (ap (find stays) (up_master s orderly g))

pub height_falls : (s : PeerGroups) → IsOrderly s → (g : ℕ) → height (master_of_group s g) < suc g
height_falls s orderly g = go (master_of_group s g) refl
  where
    go : (o : Option ℕ) → master_of_group s g ≡ o → height o < suc g
    go None e = omega arith
    go (Some n) e = let lower : n < g = orderly.down g n e in omega arith

-- rows that are those of a state
pub same_state : (s : PeerGroups) (members : List MemberRow) (groups : List GroupRow) (last : ℕ) → members ≡ s.members → groups ≡ s.groups → last ≡ s.last_group → (record { members = members; groups = groups; last_group = last }) ≡ s
same_state s members groups last a b d = rw (a, b, d) refl

-- a row behind those that a reserve left as they were
pub pushed : (xs ys zs : List GroupRow) (row : GroupRow) → zs ≡ ys ++ row ∷ [] → ys ≡ xs → zs ≡ xs ++ row ∷ []
pushed xs ys zs row more same = more ∙ ap (λ (rows : List GroupRow). rows ++ row ∷ []) same
