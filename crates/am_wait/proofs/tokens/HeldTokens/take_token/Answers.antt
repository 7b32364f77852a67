use Rattle.std.proofs.Common.{◌≡◌, ◌==◌, cond, List, Some, None, option_copied, sym, ap, subst, ◌∙◌}
use Rattle.am_names.specs.{same_trigger, RiseBy}
use Rattle.am_wait.specs.{HeldToken, held_of}
use Rattle.am_wait.specs.HeldTable.{HeldTable}
use Rattle.am_wait.specs.Openings.{but, openings_at}
use Rattle.am_wait.specs.declared.openings.Opening.{Opening}
use Rattle.am_wait.proofs.CallLemmas.{all_kept}
use Rattle.am_wait.proofs.OpeningLemmas.{openings_taken}
use Rattle.am_wait.proofs.tokens.HeldTokens.take_token.Goals as goal

pub returns-in_default : goal.returns-in_default
returns-in_default c =
    let i = c.self.inside in
    let none : held_of i.rows.items c.args.token ≡ None =
    sym c.held_of.ensures ∙ ap (λ o. option_copied o) c.in_default.is in
    sym (all_kept (λ (row : HeldToken). row.token == c.args.token) c.args.self.now.items (ap (λ (t : HeldTable). held_of t.items c.args.token) (sym c.self.view_is) ∙ none))

pub invariant_of-self : goal.invariant_of-self
invariant_of-self c g =
    let i = c.self.inside in
    let its = c.in-Some.row.now in
    let there : held_of i.rows.items c.args.token ≡ Some its =
    sym c.held_of.ensures ∙ ap (λ o. option_copied o) c.in-Some.is in
    let rising = subst (λ (t : HeldTable). RiseBy (λ row. row.token) 0 t.items) (sym c.self.view_is) c.requires.rising in
    c.remove.ensures g
    ∙ ap (λ (os : List Opening). cond (same_trigger its.trigger g) (but c.args.token os) os) (c.self.invariant g)
    ∙ sym (openings_taken g c.args.token its i.rows.items rising there)
    ∙ ap (λ (rows : List HeldToken). openings_at rows g) (sym c.take_token.ensures)
