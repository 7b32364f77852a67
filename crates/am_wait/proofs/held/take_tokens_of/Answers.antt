use Rattle.std.proofs.Common.{eqb, rules, tests}
use Rattle.std.specs.Prelude.{not}
use Rattle.std.proofs.lemmas.Fn.{filter_same}
use Rattle.am_wait.specs.{HeldToken}
use Rattle.am_wait.proofs.held.take_tokens_of.Goals as goal

pub returns : goal.returns
returns c = filter_same _ (λ (row : HeldToken). not (eqb row.trigger.fs c.args.fs)) _ (λ x b q k. search (rules, tests)) _ _ c.retain.ensures.filtered
