use Rattle.std.proofs.Common.{List, sym, ap, ◌∙◌}
use Rattle.am_wait.specs.{HeldToken}
use Rattle.am_wait.specs.Openings.{openings_at}
use Rattle.am_wait.proofs.OpeningLemmas.{openings_joined}
use Rattle.am_wait.proofs.tokens.HeldTokens.add_key.Goals as goal

pub invariant_of-self-2 : goal.invariant_of-self-2
invariant_of-self-2 c g =
    c.self.invariant g
    ∙ sym (openings_joined g c.args.token c.args.key c.self.inside.rows.items)
    ∙ ap (λ (rows : List HeldToken). openings_at rows g) (sym c.in_ok-add_key.ensures.ok)
