use Rattle.std.proofs.Common.{eqb, rules, tests}
use Rattle.std.specs.Prelude.{not}
use Rattle.std.proofs.lemmas.Fn.{filter_same}
use Rattle.am_wait.specs.declared.openings.Opening.{Opening}
use Rattle.am_wait.proofs.openings.take_out.Goals as goal

pub returns : goal.returns
returns c = filter_same _ (λ (opening : Opening). not (eqb opening.token c.args.token)) _ (λ x b q k. search (rules, tests)) _ _ c.retain.ensures.filtered
