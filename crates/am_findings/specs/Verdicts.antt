-- How questions come out: own choice (docs/FORMATS.md, "Findings").
use Rattle.std.specs.Prelude.{List, ◌∷◌}
use Rattle.am_explore.specs.{Found, Seen}
use Rattle.am_explore.specs.declared.search.Found.TheVariants as founds
use Rattle.am_scenes.specs.{Asked, Claim}
use Rattle.am_scenes.specs.declared.asked.Claim.TheVariants as claims
use Rattle.am_findings.specs.declared.verdict.Verdict.{Verdict}
use Rattle.am_findings.specs.declared.verdict.Verdict.TheVariants.{AsAsked, NotAsAsked, NotAllSeen}

-- what was found, for what is asked: an order for `sometimes`, none for `never`; a search that was cut tells neither
abbrev pub verdict_on : Claim → Found → Verdict
verdict_on claims.Sometimes (founds.Order choices answers) = AsAsked
verdict_on claims.Sometimes founds.Never = NotAsAsked
verdict_on claims.Never (founds.Order choices answers) = NotAsAsked
verdict_on claims.Never founds.Never = AsAsked
verdict_on claim (founds.Cut below) = NotAllSeen

-- of two questions: what isn't as asked goes before what wasn't all seen, and that before what is as asked
abbrev pub joined : Verdict → Verdict → Verdict
joined NotAsAsked other = NotAsAsked
joined NotAllSeen NotAsAsked = NotAsAsked
joined NotAllSeen other = NotAllSeen
joined AsAsked other = other

-- of all questions, by what was found of each
abbrev pub verdict_of : List Asked → List Seen → Verdict
verdict_of (asked ∷ others) (seen ∷ rest) = joined (verdict_on asked.claim seen.found) (verdict_of others rest)
verdict_of _ _ = AsAsked
