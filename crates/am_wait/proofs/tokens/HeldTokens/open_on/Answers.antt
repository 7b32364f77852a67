use Rattle.std.proofs.Common.{List, ap, ◌∙◌}
use Rattle.std.specs.Prelude.{find}
use Rattle.std.specs.Option.{option_map}
use Rattle.am_wait.specs.{held_open_on, same_kind}
use Rattle.am_wait.specs.HeldTable.{HeldTable}
use Rattle.am_wait.specs.declared.openings.Opening.{Opening}
use Rattle.am_wait.proofs.OpeningLemmas.{first_opening}
use Rattle.am_wait.proofs.tokens.HeldTokens.open_on.Goals as goal

pub returns : goal.returns
returns c =
    let i = c.self.inside in
    let trigger = c.args.trigger.now in
    c.first.ensures
    ∙ ap (λ (os : List Opening). option_map (λ (o : Opening). o.token) (find (λ o. same_kind o.kind c.args.kind) os)) (c.self.invariant trigger)
    ∙ first_opening c.args.kind trigger i.rows.items
    ∙ ap (λ (t : HeldTable). held_open_on t.items c.args.kind trigger) c.self.view_is
