use Rattle.std.proofs.Common.{rules}
use Rattle.am_shared.proofs.MatchLemmas.{refuses}
use Rattle.am_shared.proofs.matching.are_matched.Goals as goal

pub returns-then-not-each_agree : goal.returns-then-not-each_agree
returns-then-not-each_agree g c =
    refuses c.each_agree.result c.each_agree.ensures (search rules) (λ m. m.1)

pub returns : goal.returns
returns g c =
    let each = c.each_agree.ensures.0 (search rules) in
    let last = c.all_agree.ensures in
    ((λ t. (search rules, each, last.0 t)), λ m. last.1 m.2)
