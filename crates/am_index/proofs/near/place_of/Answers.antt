use Rattle.std.proofs.Common.{sym}
use Rattle.indexmap.specs.IndexMap.{keys}
use Rattle.am_index.proofs.EntryLemmas.{number_found}
use Rattle.am_index.proofs.near.place_of.Goals as goal

pub returns-clause-there : goal.returns-clause-there
returns-clause-there g c =
    number_found (keys c.args.values.now) c.args.number c.in_ok-place.place
    (sym c.in_ok-place.ensures.index)
