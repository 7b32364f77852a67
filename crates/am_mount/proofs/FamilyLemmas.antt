-- What a family of one, and the table of the families, is left with.
use Rattle.std.proofs.Common.{◌≡◌, ◌⊎◌, inl, inr, ℕ, Bool, true, false, cond, not, ◌&&◌, nat_eq, List, [], ◌∷◌, ◌++◌, Contains, Option, Some, None, slice_get, BuildHasherDefault, FoldHasher, refl, sym, ap, subst, ◌∙◌, arith, eq-eqb, true≢false}
use Rattle.std.specs.Prelude.{◌==◌, if◌then◌else◌, IfSome}
use Rattle.std.specs.List.Sorted.{IsStrictlyIncreasing}
use Rattle.std.specs.Option.{option_map}
use Rattle.std.proofs.lemmas.Bool.{eqb-true}
use Rattle.std.proofs.lemmas.List.Elements.{Contains-get_or}
use Rattle.am_ordered.specs.RowTable.{RowTable}
use Rattle.indexmap.specs.IndexMap.{IndexMap, get, keys, values, with_value_at, IsUnique, Updates}
use Rattle.am_mount.specs.declared.families.Families.{Families}
use Rattle.am_mount.specs.declared.siblings.Child.{Child}
use Rattle.am_mount.specs.declared.family.Family.{Family}
use Rattle.am_mount.specs.declared.family.Family.TheVariants.{One, Siblings}
use Rattle.am_mount.specs.Families.{children_found, children_of, placed_at, placed_found, AddsUnder, MayLeave, SameFamilies, TakesUnder}
use Rattle.am_mount.specs.Family.{children_in, one_placed, placed_in, AddsChild, MayGo, SameChildren, TakesChild}
use Rattle.am_mount.specs.Few.{but}
use Rattle.am_mount.specs.Siblings.{but_child, mounts_of, placed_of}
use Rattle.am_mount.proofs.SiblingLemmas.{mounts_but, placed_but_one}
use Rattle.am_index.proofs.EntryLemmas.{same_views, stood, changed, kept, tidied}

-- the child's mount
abbrev mount_of : Option Child → Option ℕ
mount_of child = option_map (λ (c : Child). c.mount) child

-- both answers are one
either : {X : Type 0} (b : Bool) (x y : X) → x ≡ y → x ≡ cond b y x
either true x y e = e
either false x y e = refl

-- the mount is taken out where it is the child's
module _ (b m : ℕ) (child : Child) (may : MayGo b m (One (Some child))) where
  -- it is at no place of a bucket, once it is gone
  gone_placed :
      (c : ℕ) → child.mount ≡ m →
      [] ≡ cond (nat_eq b c) (but m (one_placed (Some child) c)) (one_placed (Some child) c)
  gone_placed c same = go (child.bucket == c) refl
    where
      but_own : but m (child.mount ∷ []) ≡ []
      but_own =
          ap (λ (t : Bool). cond (not t) (child.mount ∷ []) []) (eq-eqb child.mount m same)

      go :
          (t : Bool) → (child.bucket == c) ≡ t →
          [] ≡ cond (nat_eq b c) (but m (cond t (child.mount ∷ []) [])) (cond t (child.mount ∷ []) [])
      go true at =
          let own : Contains (child.mount ∷ []) m =
          subst (Contains (child.mount ∷ [])) same
          (Contains-get_or (child.mount ∷ []) 0 child.mount (omega arith)) in
          let there : Contains (one_placed (Some child) c) m =
          subst (λ (t : Bool). Contains (cond t (child.mount ∷ []) []) m) (sym at) own in
          let here : nat_eq b c ≡ true = eq-eqb b c (sym (may.nowhere_else c there)) in
          sym
          (ap (λ (t : Bool). cond t (but m (child.mount ∷ [])) (child.mount ∷ [])) here ∙ but_own)
      go false at = either (nat_eq b c) [] [] refl

  -- another is left where it is
  left_placed :
      (c : ℕ) → (child.mount == m) ≡ false →
      one_placed (Some child) c ≡
      cond (nat_eq b c) (but m (one_placed (Some child) c)) (one_placed (Some child) c)
  left_placed c other = go (child.bucket == c)
    where
      but_own : child.mount ∷ [] ≡ but m (child.mount ∷ [])
      but_own = sym (ap (λ (t : Bool). cond (not t) (child.mount ∷ []) []) other)

      go :
          (t : Bool) →
          cond t (child.mount ∷ []) [] ≡
          cond (nat_eq b c) (but m (cond t (child.mount ∷ []) [])) (cond t (child.mount ∷ []) [])
      go true = either (nat_eq b c) (child.mount ∷ []) (but m (child.mount ∷ [])) but_own
      go false = either (nat_eq b c) [] [] refl

  some_left :
      (new : Option Child) → (child.mount ≡ m → new ≡ None) →
      (mount_of (Some child) ≡ Some m ⊎ (new ≡ Some child)) →
      TakesChild b m (One (Some child)) (One new)
  some_left new gone same = go (child.mount == m) refl
    where
      Taken : Option Child → Type 0
      Taken o = TakesChild b m (One (Some child)) (One o)

      go : (t : Bool) → (child.mount == m) ≡ t → Taken new
      go true e =
          let own : child.mount ≡ m = eqb-true child.mount m e in
          subst Taken (sym (gone own))
          record {
            children = sym (ap (λ (t : Bool). cond (not t) (child.mount ∷ []) []) e);
            placed = λ c. gone_placed c own;
          }
      go false e =
          let kept : new ≡ Some child = stays same in
          subst Taken (sym kept)
          record {
            children = sym (ap (λ (t : Bool). cond (not t) (child.mount ∷ []) []) e);
            placed = λ c. left_placed c e;
          }
        where
          stays : (mount_of (Some child) ≡ Some m ⊎ (new ≡ Some child)) → new ≡ Some child
          stays (inl own) =
              let mine : child.mount ≡ m = cc in
              absurd (true≢false (sym (eq-eqb child.mount m mine) ∙ e))
          stays (inr kept) = kept

-- what is left of the one, where it goes if it is this mount
pub one_left :
    (b m : ℕ) (old new : Option Child) → MayGo b m (One old) →
    (mount_of old ≡ Some m → new ≡ None) → (mount_of old ≡ Some m ⊎ (new ≡ old)) →
    TakesChild b m (One old) (One new)
one_left b m None new may gone same =
    subst (λ (o : Option Child). TakesChild b m (One None) (One o)) (sym (none same))
    record { children = refl; placed = λ c. either (nat_eq b c) [] [] refl }
  where
    none : (mount_of None ≡ Some m ⊎ (new ≡ None)) → new ≡ None
    none (inl own) = absurd cc
    none (inr kept) = kept
one_left b m (Some child) new may gone same =
    some_left b m child may new (λ own. gone (ap Some own)) same

-- what is left of those side by side, where this mount goes
pub siblings_left :
    (b m : ℕ) (old new : RowTable Child) → MayGo b m (Siblings old) →
    new.rows ≡ but_child m old.rows → TakesChild b m (Siblings old) (Siblings new)
siblings_left b m old new may taken =
    record {
      children = ap mounts_of taken ∙ mounts_but m old.rows;
      placed = λ c.
          ap (λ (cs : List Child). placed_of cs c) taken ∙
          placed_but_one b m old.rows may.nowhere_else c;
    }

-- two tests are one, where what fails either is left as it is
both_tests :
    {X : Type 0} (p q : Bool) (x y : X) → cond p (cond q x y) y ≡ cond (p && q) x y
both_tests true q x y = refl
both_tests false q x y = refl

-- the table of the families
abbrev Table : Type 0
Table = IndexMap ℕ Family (BuildHasherDefault FoldHasher)

-- the mounts at places of this bucket
abbrev placed_here : ℕ → Option Family → List ℕ
placed_here b family = placed_found family b

-- the family of the parent stands at the place
module _ (old : Families) (m : Table) (same : m ≡ old.families)
    (unique : IsUnique nat_eq m) (i n : ℕ) (v : Family) (key : slice_get (keys m) i ≡ Some n)
    (value : slice_get (values m) i ≡ Some v) where
  -- a mount that may leave the parent may go from the family
  pub may_go : (b mount : ℕ) → MayLeave n b mount old → MayGo b mount v
  may_go b mount may =
      record {
        rising =
            subst IsStrictlyIncreasing
            (sym (same_views children_found same n) ∙
            stood children_found m unique i n v key value)
            may.rising;
        placed_rising = subst IsStrictlyIncreasing (here b) may.placed_rising;
        nowhere_else = λ c has.
            may.nowhere_else c (subst (λ (xs : List ℕ). Contains xs mount) (sym (here c)) has);
      }
    where
      here : (c : ℕ) → placed_at old n c ≡ placed_in v c
      here c =
          sym (same_views (placed_here c) same n) ∙
          stood (placed_here c) m unique i n v key value

  -- this family is written at the place
  module _ (w : Family) where
    abbrev written : Table
    written = with_value_at m i w

    -- what is done to the children of the family is done to those of the parent
    children_changed :
        (f : List ℕ → List ℕ) → children_in w ≡ f (children_in v) → (k : ℕ) →
        children_found (get nat_eq written k) ≡
        (if nat_eq n k then f (children_of old k) else children_of old k)
    children_changed f e k =
        changed children_found m unique i n v key value f w e k ∙
        ap (λ (xs : List ℕ). cond (nat_eq n k) (f xs) xs) (same_views children_found same k)

    -- and what is done to those at places of one bucket
    placed_changed :
        (f : List ℕ → List ℕ) (b : ℕ) →
        ((c : ℕ) → placed_in w c ≡ (if nat_eq b c then f (placed_in v c) else placed_in v c)) →
        (k c : ℕ) →
        placed_found (get nat_eq written k) c ≡
        (if nat_eq n k && nat_eq b c then f (placed_at old k c) else placed_at old k c)
    placed_changed f b e k c =
        changed (placed_here c) m unique i n v key value
        (λ (xs : List ℕ). cond (nat_eq b c) (f xs) xs) w (e c) k ∙
        ap (λ (xs : List ℕ). cond (nat_eq n k) (cond (nat_eq b c) (f xs) xs) xs)
        (same_views (placed_here c) same k) ∙
        both_tests (nat_eq n k) (nat_eq b c) (f (placed_at old k c)) (placed_at old k c)

    module _ (new : Families) (is : new.families ≡ written) where
      -- with the same children it changes nothing
      pub same_families : SameChildren v w → SameFamilies old new
      same_families alike =
          record {
            children = λ k.
                same_views children_found is k ∙
                kept children_found m unique i n v key value w alike.children k ∙
                same_views children_found same k;
            placed = λ k b.
                same_views (placed_here b) is k ∙
                kept (placed_here b) m unique i n v key value w (alike.placed b) k ∙
                same_views (placed_here b) same k;
          }

      -- a child that it has gained is one of the parent
      pub added_under : (b mount : ℕ) → AddsChild b mount v w → AddsUnder n b mount old new
      added_under b mount adds =
          record {
            children = λ k.
                same_views children_found is k ∙
                children_changed (λ (xs : List ℕ). xs ++ mount ∷ []) adds.children k;
            placed = λ k c.
                same_views (placed_here c) is k ∙
                placed_changed (λ (xs : List ℕ). xs ++ mount ∷ []) b adds.placed k c;
          }

      -- a child that it has lost is none of the parent
      pub taken_under : (b mount : ℕ) → TakesChild b mount v w → TakesUnder n b mount old new
      taken_under b mount takes =
          record {
            children = λ k.
                same_views children_found is k ∙
                children_changed (but mount) takes.children k;
            placed = λ k c.
                same_views (placed_here c) is k ∙ placed_changed (but mount) b takes.placed k c;
          }

    -- nor is it, once the family that is left empty is gone
    pub gone_under :
        (b mount : ℕ) → TakesChild b mount v w → children_in w ≡ [] →
        ((c : ℕ) → placed_in w c ≡ []) → (new : Families) (gone : Option (ℕ × Family)) →
        gone ≡ slice_get written.entries i →
        IfSome gone (λ e. Updates nat_eq written new.families e.0 None) →
        TakesUnder n b mount old new
    gone_under b mount takes childless placeless new gone e updates =
        record {
          children = λ k.
              tidied children_found m unique i n v key value w childless gone new.families e
              updates k ∙
              children_changed (but mount) takes.children k;
          placed = λ k c.
              tidied (placed_here c) m unique i n v key value w (placeless c) gone new.families e
              updates k ∙
              placed_changed (but mount) b takes.placed k c;
        }
