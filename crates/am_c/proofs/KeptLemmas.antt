-- The machine value of what C keeps, and what it owns.
use Rattle.std.proofs.Common.{◌≡◌, ◌≢◌, List, [], ◌∷◌, ◌++◌, refl, subst}
use Rattle.std.specs.Prelude.{Option, None, Some}
use seplogic.Ra.Ura.{Ura}
use mir.Val.{Val, vstruct, of_list}
use types.Logic.{Logic}
use types.Kit.{Item, Goal, Seq, Step, step, ‵, ◌$◌, drop, fsplit, fjoin, fpick, fpack, feq_i, feq_l}
use denote.RattleType.{RattleType, Valss}
use denote.Builtin.{RawPtr}
use denote.RawPtr.{Ptr, ptr_val}
use denote.Steps.{nothing}
use denote.Struct.Struct.{within}
use denote.Struct.Owning.{shape}
use Rattle.am_c.specs.Kept.{keeps}
use Rattle.am_c.specs.contracts.kept.Kept as kept
use Rattle.am_session.specs.contracts.played.Session as session
use Rattle.am_session.specs.{Session}

-- what is there, where it isn't nothing
pub some_of : (k : Option Session) → k ≢ None → (x : Session) × (k ≡ Some x)
some_of None ne = absurd (ne refl)
some_of (Some x) ne = (x, refl)

abbrev pub word : Ptr → Val
word at = vstruct (of_list (ptr_val at ∷ []))

module _ {M : Type 1} {𝓤 : Ura M} {𝓛 : Logic 𝓤} {K : Type 0} {Γ : List (Item 𝓤)} {G : Goal 𝓤 𝓛.H} where
  pub kept_out : K → (d : kept.the_row.Denot) (vs : List Val)
      → (vs ≡ word d.at ∷ [] → Seq K 𝓛 (‵ (keeps session.the_row d.at d.inside) ∷ Γ) G)
      → Seq K 𝓛 (‵ (kept.the_row.own_val d vs) ∷ Γ) G
  kept_out t d vs k =
      fsplit t $ fpick t (λ vss. fsplit t $ feq_l t (λ ev. fsplit t $ feq_l t (λ ep. drop t $
      k (subst (λ (ps : List Val). vs ≡ vstruct (of_list (ps ++ [])) ∷ []) ep ev))))

  pub kept_in : K → (at : Ptr) (inside : Option Session)
      → Step K 𝓛 (‵ (kept.the_row.own_val (record { at = at; inside = inside }) (word at ∷ [])) ∷ Γ) G (‵ (keeps session.the_row at inside) ∷ Γ) G
  kept_in t at inside = step (λ s.
      nothing t $ feq_i t (List Val) (ptr_val at ∷ []) (ptr_val at ∷ []) refl $ fjoin t $ feq_i t (List Val) (word at ∷ []) (word at ∷ []) refl $ fjoin t $
      fpack t (Valss (RawPtr ∷ [])) (within (shape kept.the_type) (at, tt) (word at ∷ [])) (ptr_val at ∷ [], tt) $ fjoin t $ s)
