use Rattle.std.proofs.Common.{◌≡◌, List, ℕ, ap, subst, ◌∙◌}
use Rattle.std.specs.Prelude.{IfOk}
use Rattle.am_wait.specs.{HeldToken, WaitRows, tokens_of, held_tokens_of}
use Rattle.am_wait.proofs.ViewLemmas.{tokens_named}
use Rattle.am_wait.proofs.waits.Waits.tokens_of.Goals as goal

pub returns : goal.returns
returns c =
    let i = c.self.inside in
    let same : held_tokens_of c.rows.result.now.items c.args.fs ≡ tokens_of c.args.self.now.tokens c.args.fs =
    ap (λ (tokens : List HeldToken). held_tokens_of tokens c.args.fs) c.rows.ensures ∙ tokens_named i.slab i.tokens.items c.args.fs ∙ ap (λ (w : WaitRows). tokens_of w.tokens c.args.fs) c.self.view_is in
    subst (λ (tokens : List ℕ). IfOk c.tokens_of.result (λ v. v.items ≡ tokens)) same c.tokens_of.ensures
