use Rattle.std.proofs.Common.{◌≡◌, ◌==◌, Some, None, sym, ◌∙◌}
use Rattle.std.specs.Prelude.{position}
use Rattle.am_wait.specs.{HeldToken}
use Rattle.am_wait.proofs.TokenLemmas.{nobody, stands_at, unchanged}
use Rattle.am_wait.proofs.held.add_key.Goals as goal

pub returns-in_default-clause-ok : goal.returns-in_default-clause-ok
returns-in_default-clause-ok c =
    let e : position (λ (row : HeldToken). row.token == c.args.token) c.args.tokens.now.items ≡ None = sym c.held_place.ensures ∙ c.in_default.is in
    unchanged c.args.tokens.now.items c.args.token c.args.key e

pub returns-clause-ok : goal.returns-clause-ok
returns-clause-ok c =
    let e : position (λ (row : HeldToken). row.token == c.args.token) c.args.tokens.now.items ≡ Some c.in-Some.at = sym c.held_place.ensures ∙ c.in-Some.is in
    c.in_ok-join_at.ensures.ok nobody ∙ (stands_at c.args.tokens.now.items c.args.token c.in-Some.at nobody e).joined c.args.key
