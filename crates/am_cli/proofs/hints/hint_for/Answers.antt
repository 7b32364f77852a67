use Rattle.std.proofs.Common.{List, map, Option, Some, refl, subst, ap}
use Rattle.am_cli.specs.Hints.{HintsAt, MayMean, fed, mistaken}
use Rattle.am_cli.specs.declared.hints.Hint.TheVariants.{Input}
use Rattle.am_cli.specs.declared.topics.Topic.{Topic}
use Rattle.am_cli.proofs.hints.hint_for.Goals as goal

pub returns-in-Some : goal.returns-in-Some
returns-in-Some c =
    let words = map (λ word. word.now) c.args.words.now in
    subst (λ (t : Option Topic). HintsAt t (mistaken words) (Some (Input c.in-Some.topic))) c.in-Some.ensures refl

pub returns-in-None : goal.returns-in-None
returns-in-None c =
    let words = map (λ word. word.now) c.args.words.now in
    subst (λ (t : Option Topic). HintsAt t (mistaken words) c.meant.result) c.in-None.ensures (rw c.mistaken.ensures at c.meant.ensures)
