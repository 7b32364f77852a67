-- A run goes on by one event more.
use Rattle.std.proofs.Common.{◌≡◌, List, [], ◌∷◌, ◌++◌, refl, subst}
use Rattle.std.proofs.lemmas.List.{map_push}
use Rattle.am_machine.specs.State.{State}
use Rattle.am_draw.specs.{Viewed, ViewedRun, Views, answers_in, asked_in}

pub run_more : (old : State) (rows : List Viewed) (mid : State) (row : Viewed) (new : State) → ViewedRun old rows mid → Views mid row new → ViewedRun old (rows ++ row ∷ []) new
run_more old [] mid row new h views = (new, subst (λ (s : State). Views s row new) h views, refl)
run_more old (first ∷ rows) mid row new h views = (h.0, h.1, run_more h.0 rows mid row new h.2 views)

pub asked_push : (rows : List Viewed) (row : Viewed) → asked_in (rows ++ row ∷ []) ≡ asked_in rows ++ row.asked ∷ []
asked_push rows row = map_push (λ (r : Viewed). r.asked) rows row

pub answers_push : (rows : List Viewed) (row : Viewed) → answers_in (rows ++ row ∷ []) ≡ answers_in rows ++ row.answer ∷ []
answers_push rows row = map_push (λ (r : Viewed). r.answer) rows row
