-- What an expiry picks is one of the triggers that were used.
use Rattle.std.proofs.Common.{◌≡◌, ℕ, Option, Some, None, refl, subst}
use Rattle.std.specs.Prelude.{find}
use Rattle.std.specs.Option.{option_map}
use Rattle.std.specs.List.{All}
use Rattle.std.proofs.lemmas.List.Elements.{All-filter}
use Rattle.am_names.specs.declared.trigger.Trigger.{Trigger}
use Rattle.am_expire.specs.{Expiry, is_eligible, candidates, is_first, pick_of}
use Rattle.am_machine.proofs.Lists.Different.{all_found}

module _ (P : Trigger → Type 0) (e : Expiry) (trigger : Trigger) where
  first_candidate : (o : Option (Trigger × ℕ)) → find (is_first (candidates e)) (candidates e) ≡ o → option_map (λ (row : Trigger × ℕ). row.0) o ≡ Some trigger → All (λ (row : Trigger × ℕ). P row.0) (candidates e) → P trigger
  first_candidate None is h all = absurd cc
  first_candidate (Some row) is h all =
      let same : row.0 ≡ trigger = cc in
      subst P same (all_found (λ (r : Trigger × ℕ). P r.0) (is_first (candidates e)) (candidates e) row all is)

  -- what is true of all candidates is true of the one that is picked
  pub picked_candidate : pick_of e ≡ Some trigger → All (λ (row : Trigger × ℕ). P row.0) (candidates e) → P trigger
  picked_candidate h all = first_candidate (find (is_first (candidates e)) (candidates e)) refl h all

  -- and so is what is true of all that were used
  pub picked_use : pick_of e ≡ Some trigger → All (λ (row : Trigger × ℕ). P row.0) e.triggers.uses → P trigger
  picked_use h used = picked_candidate h (All-filter (is_eligible e) (λ (row : Trigger × ℕ). P row.0) e.triggers.uses used)
