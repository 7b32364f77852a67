use Rattle.std.proofs.Common.{◌≡◌, List, Some, None, option_copied, sym, ap, ◌∙◌}
use Rattle.std.specs.Option.{option_map}
use Rattle.am_names.specs.{OpenToken}
use Rattle.am_wait.specs.{HeldToken, WaitRows, token_of, held_of}
use Rattle.am_wait.proofs.ViewLemmas.{tokens_rise, held_of_is}
use Rattle.am_wait.proofs.waits.Waits.purpose_of.Goals as goal

pub held_of-requires : goal.held_of-requires
held_of-requires c = record { rising = rw c.rows.ensures (tokens_rise c.self.inside c.self.invariant) }

pub returns-in-Some : goal.returns-in-Some
returns-in-Some c =
    let i = c.self.inside in
    let its = c.in-Some.row.now in
    let there : held_of i.tokens.items c.args.token ≡ Some its = ap (λ (tokens : List HeldToken). held_of tokens c.args.token) (sym c.rows.ensures) ∙ sym c.held_of.ensures ∙ ap (λ o. option_copied o) c.in-Some.is in
    sym (ap (option_map (λ (row : OpenToken). (row.kind, row.trigger))) (ap (λ (x : WaitRows). token_of x.tokens c.args.token) (sym c.self.view_is) ∙ held_of_is i c.args.token (Some its) there))

pub returns-in-None : goal.returns-in-None
returns-in-None c =
    let i = c.self.inside in
    let none : held_of i.tokens.items c.args.token ≡ None = ap (λ (tokens : List HeldToken). held_of tokens c.args.token) (sym c.rows.ensures) ∙ sym c.held_of.ensures ∙ ap (λ o. option_copied o) c.in-None.is in
    sym (ap (option_map (λ (row : OpenToken). (row.kind, row.trigger))) (ap (λ (x : WaitRows). token_of x.tokens c.args.token) (sym c.self.view_is) ∙ held_of_is i c.args.token None none))
