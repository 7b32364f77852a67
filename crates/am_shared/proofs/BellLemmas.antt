-- Which bells are rung.
use Rattle.std.proofs.Common.{◌≡◌, ◌<◌, ◌+◌, ℕ, Bool, true, false, ◌||◌, eqb, List, [], ◌∷◌, ◌++◌, length, take, get_or, set, refl, sym, ap, ◌∙◌, inl, inr}
use Rattle.std.specs.List.{list_any}
use Rattle.std.proofs.lemmas.List.{get_or-set_other, take_more}
use Rattle.std.proofs.lemmas.List.Folds.{list_any-append}
use Rattle.std.proofs.lemmas.Grind.{get_or-set_at}
use Rattle.std.proofs.lemmas.Bool.Decides.{eqb_tells}
use Rattle.std.proofs.Math.Bool.{or-true, or-false}
use Rattle.am_names.specs.{Status}
use Rattle.am_state.specs.{Obs}
use Rattle.am_state.specs.declared.obs.Obs.TheVariants.{Released}
use Rattle.am_shared.specs.{is_rung_by}

or_none : (a b : Bool) → (a || (b || false)) ≡ (a || b)
or_none true b = refl
or_none false true = refl
or_none false false = refl

-- one observation more
pub seen_more : (bell : ℕ) (seen : List Obs) (i : ℕ) (obs : Obs) → i < length seen → obs ≡ get_or seen i obs →
    list_any (is_rung_by bell) (take (i + 1) seen) ≡ (list_any (is_rung_by bell) (take i seen) || is_rung_by bell obs)
seen_more bell seen i obs within is =
    ap (list_any (is_rung_by bell)) (take_more seen i obs within ∙ ap (λ (o : Obs). take i seen ++ o ∷ []) (sym is))
    ∙ list_any-append (is_rung_by bell) (take i seen) (obs ∷ []) ∙ or_none (list_any (is_rung_by bell) (take i seen)) (is_rung_by bell obs)

-- one bell more
pub rung_set : (bell other : ℕ) (rung : List Bool) → other < length rung → get_or (set rung other true) bell false ≡ (get_or rung bell false || eqb other bell)
rung_set bell other rung within =
    elim (eqb_tells other bell) [
      | inl same ↦ get_or-set_at rung other bell true false (sym same.1) within ∙ sym (or-true (get_or rung bell false)) ∙ ap (λ (b : Bool). get_or rung bell false || b) (sym same.0)
      | inr apart ↦ get_or-set_other rung other bell true false (λ (e : bell ≡ other). apart.1 (sym e)) ∙ sym (or-false (get_or rung bell false)) ∙ ap (λ (b : Bool). get_or rung bell false || b) (sym apart.0)
    ]

-- what releases nobody rings no bell
pub not_rung : (bell : ℕ) (obs : Obs) → ((walker token : ℕ) (status : Status) → obs ≡ Released walker token status → ⊥) → is_rung_by bell obs ≡ false
not_rung bell (Released walker token status) h = absurd (h walker token status refl)
not_rung bell _ h = refl
