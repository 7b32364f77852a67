use Rattle.std.proofs.Common.{◌≡◌, Err, rules}
use Rattle.am_propagate.proofs.RemovalLemmas.{refused_as}
use Rattle.am_propagate.proofs.subtree.Subtree.removable.Goals as goal

pub returns-in_err-position-clause-refusal : goal.returns-in_err-position-clause-refusal
returns-in_err-position-clause-refusal g c =
    let told : c.from_residual.result ≡ Err c.in_err-position.field-0.0 = search rules in
    refused_as _ _ _ _ told (c.in_err-position.ensures.refusal _)
