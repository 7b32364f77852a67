-- What the clones of lists and of waits hold.
use Rattle.std.proofs.Common.{◌≡◌, ℕ, Bool, true, false, cond, List, [], ◌∷◌, Option, Some, None, refl, ap, ◌∙◌}
use Rattle.std.specs.Prelude.{Vec}
use Rattle.std.specs.List.{AllZip}
use Rattle.std.specs.Map.{lookup}
use Rattle.std.proofs.lemmas.List.Elements.{same_from_all_zip}
use Rattle.slab.specs.Slab.{Slab, IsSlabClone, IsSlotClone}
use Rattle.am_names.specs.{WaitRow, eq-value}
use Rattle.am_names.specs.declared.trigger.Trigger.{Trigger}
use Rattle.am_wait.specs.Openings.{listed_in}
use Rattle.am_wait.specs.declared.openings.Opening.{Opening}

module _ {Z : Type 0} where
  -- an entry and its clone have the same trigger, and lists of the same
  abbrev pub AreSame : Trigger × Vec Opening Z → Trigger × Vec Opening Z → Type 0
  AreSame p q = (q.0 ≡ p.0) × (q.1.items ≡ p.1.items)

  -- each trigger has the same in both
  pub same_lists : {R : Trigger × Vec Opening Z → Trigger × Vec Opening Z → Type 0} → (es fs : List (Trigger × Vec Opening Z)) → AllZip R es fs → ((p q : Trigger × Vec Opening Z) → R p q → AreSame p q) → (g : Trigger) → listed_in (lookup (eq-value.it g) fs) ≡ listed_in (lookup (eq-value.it g) es)
  same_lists [] [] clones same g = refl
  same_lists [] (f ∷ fs) clones same g = absurd clones
  same_lists (e ∷ es) [] clones same g = absurd clones
  same_lists (e ∷ es) (f ∷ fs) clones same g = by (eq-value.it g e.0) refl (same_lists es fs clones.1 same g)
    where
      by : (b : Bool) → eq-value.it g e.0 ≡ b → listed_in (lookup (eq-value.it g) fs) ≡ listed_in (lookup (eq-value.it g) es) → listed_in (cond (eq-value.it g f.0) (Some f.1) (lookup (eq-value.it g) fs)) ≡ listed_in (cond (eq-value.it g e.0) (Some e.1) (lookup (eq-value.it g) es))
      by true is rest = let entry = same e f clones.0 in rw (entry.0, is) entry.1
      by false is rest = let entry = same e f clones.0 in rw (entry.0, is) rest

same_slot : (C : WaitRow → WaitRow → Type 0) → ((v w : WaitRow) → C v w → w ≡ v) → (x y : Option WaitRow) → IsSlotClone C x y → y ≡ x
same_slot C same None y h = h
same_slot C same (Some v) None h = absurd h
same_slot C same (Some v) (Some w) h = ap Some (same v w h)

-- where a wait's clone is the wait, a slab's clone has the same waits
pub same_waits : {C : WaitRow → WaitRow → Type 0} → (slab copy : Slab WaitRow) → IsSlabClone C slab copy → ((v w : WaitRow) → C v w → w ≡ v) → copy.slots ≡ slab.slots
same_waits {C} slab copy clones same = same_from_all_zip (IsSlotClone C) slab.slots copy.slots clones.slots (same_slot C same)
