-- What a write at the place of a watched file system's list changes.
use Rattle.std.proofs.Common.{◌≡◌, ◌≤◌, ℕ, inl, inr, Bool, true, false, cond, nat_eq, List, slice_get, Option, Some, None, refl, sym, ap, subst, ◌∙◌}
use Rattle.std.specs.Prelude.{option_map, if◌then◌else◌}
use Rattle.std.proofs.lemmas.Bool.{eqb-true}
use Rattle.std.proofs.lemmas.Cmp.{nat_eq_equiv}
use Rattle.std.proofs.lemmas.Map.Entries.{hash_map_get_place}
use Rattle.indexmap.specs.IndexMap.{IndexMap, get, keys, values, with_value_at, IsUnique}
use Rattle.indexmap.proofs.CallerLemmas.{updates-with_value_at}
use Rattle.am_ordered.specs.RowTable.{RowTable}
use Rattle.am_mount.specs.Watched.{BeginsToWatch, Watches}
use Rattle.am_mount.specs.declared.watched.Watched.{Watched}
use Rattle.am_index.proofs.EntryLemmas.{entry_of}

-- the mounts of a list that was looked up
abbrev listed_of : Option (RowTable ℕ) → Option (List ℕ)
listed_of o = option_map (λ mounts. mounts.rows) o

-- a list that stays as it is
same_option : (o : Option (List ℕ)) → o ≡ option_map (λ mounts. mounts) o
same_option None = refl
same_option (Some mounts) = refl

-- the list of the file system stands at the place
module _ {S : Type 0} (m : IndexMap ℕ (RowTable ℕ) S) (unique : IsUnique nat_eq m) (i n : ℕ)
    (list : RowTable ℕ) (key : slice_get (keys m) i ≡ Some n)
    (value : slice_get (values m) i ≡ Some list) where
  here : slice_get m.entries i ≡ Some (n, list)
  here = entry_of m.entries i n list key value

  -- the lists as they are
  abbrev before : ℕ → Option (List ℕ)
  before k = listed_of (get nat_eq m k)

  -- the file system has the list at the place
  stood : listed_of (get nat_eq m n) ≡ Some list.rows
  stood = ap listed_of (hash_map_get_place nat_eq_equiv m i n list unique here)

  -- what is done to the list at the place is done to that of the file system
  pub changed :
      (f : List ℕ → List ℕ) (w : RowTable ℕ) → w.rows ≡ f list.rows → (k : ℕ) →
      listed_of (get nat_eq (with_value_at m i w) k) ≡
      option_map (λ mounts. if nat_eq n k then f mounts else mounts) (before k)
  changed f w e k =
      let written = updates-with_value_at m i w nat_eq_equiv unique n list here in
      ap listed_of (written.0 k) ∙ go (nat_eq n k) refl
    where
      go :
          (b : Bool) → nat_eq n k ≡ b →
          listed_of (cond b (Some w) (get nat_eq m k)) ≡
          option_map (λ mounts. cond b (f mounts) mounts) (before k)
      go true same =
          ap Some e ∙
          ap (option_map f)
          (sym (subst (λ (x : ℕ). before x ≡ Some list.rows) (eqb-true n k same) stood))
      go false other = same_option (before k)

  -- a list that keeps its mounts changes no list
  pub kept :
      (w : RowTable ℕ) → w.rows ≡ list.rows → (k : ℕ) →
      listed_of (get nat_eq (with_value_at m i w) k) ≡ listed_of (get nat_eq m k)
  kept w e k = changed (λ (xs : List ℕ). xs) w e k ∙ go (nat_eq n k) (before k)
    where
      go :
          (b : Bool) (o : Option (List ℕ)) →
          option_map (λ (xs : List ℕ). cond b xs xs) o ≡ o
      go true None = refl
      go true (Some mounts) = refl
      go false None = refl
      go false (Some mounts) = refl

-- what is watched stays so
pub watched_yet : (w : Watched) → Watches w w
watched_yet w = record { lists = λ fs. inl refl; next = refl }

-- where what is watched stays so, and then once more, it stays so
pub watched_too : (a b c : Watched) → Watches a b → Watches b c → Watches a c
watched_too a b c first then_ = record {
  lists = λ fs. by fs (then_.lists fs) (first.lists fs);
  next = then_.next ∙ first.next;
}
  where
    by : (fs : ℕ) → BeginsToWatch b c fs → BeginsToWatch a b fs → BeginsToWatch a c fs
    by fs (inl same) (inl as_before) = inl (same ∙ as_before)
    by fs (inl same) (inr begun) = inr (same ∙ begun.0, begun.1)
    by fs (inr begun) one = inr (begun.0, subst (λ (n : ℕ). n ≤ fs) first.next begun.1)
