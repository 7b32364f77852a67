use Rattle.std.proofs.Common.{◌≡◌, [], ◌∷◌, ◌++◌, false, true, List, sym, ap, ◌∙◌}
use Rattle.am_state.specs.{Obs}
use Rattle.am_laws.specs.{is_released, ends_in_row}
use Rattle.am_laws.proofs.Rows.{row_goes_on, row_begins}
use Rattle.am_laws.proofs.ends_in_row.Goals as goal

pub returns-then-not-is_released : goal.returns-then-not-is_released
returns-then-not-is_released c =
    let is : c.loop-o.rest.now ≡ c.in-Some.before.now ++ c.in-Some.o.now ∷ [] = c.in-Some.ensures.cases.0 in
    let other : is_released c.in-Some.o.now ≡ false = sym c.is_released.ensures ∙ c.if-not-is_released.true in
    c.is_cause.ensures
    ∙ sym (row_begins [] c.in-Some.before.now c.in-Some.o.now c.args.token c.args.status other)
    ∙ ap (λ (s : List Obs). ends_in_row [] s c.args.token c.args.status) (sym is)
    ∙ c.loop-o.invariant

pub loop-o-preserved : goal.loop-o-preserved
loop-o-preserved c =
    let is : c.loop-o.rest.now ≡ c.in-Some.before.now ++ c.in-Some.o.now ∷ [] = c.in-Some.ensures.cases.0 in
    let one : is_released c.in-Some.o.now ≡ true = sym c.is_released.ensures ∙ c.if-not-is_released.false in
    sym (row_goes_on [] c.in-Some.before.now c.in-Some.o.now c.args.token c.args.status one)
    ∙ ap (λ (s : List Obs). ends_in_row [] s c.args.token c.args.status) (sym is)
    ∙ c.loop-o.invariant
