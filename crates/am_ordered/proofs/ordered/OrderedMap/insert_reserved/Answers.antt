use Rattle.std.proofs.Common.{ap, ◌∙◌}
use Rattle.std.specs.Map.{lookup}
use Rattle.am_ordered.proofs.RowLemmas.{inserted_lookup}
use Rattle.am_ordered.proofs.ordered.OrderedMap.insert_reserved.Goals as goal

pub returns-in-Some-clause-map : goal.returns-in-Some-clause-map
returns-in-Some-clause-map g c q =
    ap (lookup (g.K.PartialEq.eq q)) c.replace.ensures.entries ∙ inserted_lookup g.K.PartialEq.eq g.met.K.Eq.laws c.args.key c.args.value q c.args.self.now.entries

pub returns-clause-map : goal.returns-clause-map
returns-clause-map g c q =
    ap (lookup (g.K.PartialEq.eq q)) c.append.ensures.entries ∙ inserted_lookup g.K.PartialEq.eq g.met.K.Eq.laws c.args.key c.args.value q c.args.self.now.entries
