use Rattle.std.proofs.Common.{◌==◌, [], cond, List, sym, ap, ◌∙◌}
use Rattle.am_wait.specs.{HeldToken}
use Rattle.am_wait.specs.Openings.{openings_at}
use Rattle.am_wait.specs.declared.openings.Opening.{Opening}
use Rattle.am_wait.proofs.OpeningLemmas.{openings_off}
use Rattle.am_wait.proofs.tokens.HeldTokens.take_tokens_of.Goals as goal

pub invariant_of-self : goal.invariant_of-self
invariant_of-self c g =
    c.remove_fs.ensures g
    ∙ ap (λ (os : List Opening). cond (g.fs == c.args.fs) [] os) (c.self.invariant g)
    ∙ sym (openings_off g c.args.fs c.self.inside.rows.items)
    ∙ ap (λ (rows : List HeldToken). openings_at rows g) (sym c.take_tokens_of.ensures)
