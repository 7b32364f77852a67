-- What the open tokens and the index by triggers stand for: own choice.
use Rattle.am_wait.specs.HeldTable.{HeldTable}
use Rattle.am_wait.specs.Openings.{AreThose}
use Rattle.am_wait.specs.declared.tokens.HeldTokens.TheInside.{Inside}

-- the rows
abbrev pub table_of : Inside → HeldTable
table_of t = record { items = t.rows.items }

-- the index by triggers is that of the rows
abbrev pub IsIndexed : Inside → Type 0
IsIndexed t = AreThose t.rows.items t.openings
