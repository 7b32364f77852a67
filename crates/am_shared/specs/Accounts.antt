-- What a caller knows of the history that all callers share: own choice (docs/DECISIONS.md, "A receipt is an entry of
-- the one history").
use Rattle.std.specs.Prelude.{List, []}
use Rattle.am_machine.specs.{Entry}
use Rattle.am_shared.specs.declared.caller.Receipt.{Receipt}

-- the receipts of the events that a caller made, and the history as it was when the caller made an event or looked last
pub record Account : Type 0 where
  pub receipts : List Receipt
  pub seen : List Entry

-- a caller that has made no event, and seen none
abbrev pub newcomer : Account
newcomer = record { receipts = []; seen = [] }
