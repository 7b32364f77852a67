-- What every walk keeps to (autofs.rst, "Mount Traps").
use Rattle.std.specs.Prelude.{◌≡◌, true, is_some, List, None}
use Rattle.std.specs.List.{All}
use Rattle.am_names.specs.declared.trigger.Trigger.{Trigger}
use Rattle.am_names.specs.{OpenToken}
use Rattle.am_names.specs.declared.row.TokenKind.TheVariants.{Missing, Expire}
use Rattle.am_wait.specs.{open_on, token_of}
use Rattle.am_walk.specs.declared.stop.Next.TheVariants as nexts
use Rattle.am_walk.specs.declared.stop.Stop.{Stop}
use Rattle.am_walk.specs.declared.stop.Stop.TheVariants as stops
use Rattle.am_walk.specs.Scene.{Scene}
use Rattle.am_walk.specs.Meet.{next_at}
use Rattle.am_walk.specs.Walks.{Walked}

-- no token of the trigger is open: it is not expiring, and no mount is pending
abbrev pub IsIdle : List OpenToken → Trigger → Type 0
IsIdle tokens trigger =
    (open_on tokens Expire trigger ≡ None) × (open_on tokens Missing trigger ≡ None)

-- a walk waits on open tokens alone, and has the daemon notified of idle triggers alone
abbrev pub StopsWell : List OpenToken → Stop → Type 0
StopsWell tokens (stops.Arrive at) = Unit {0}
StopsWell tokens (stops.Block token) = is_some (token_of tokens token) ≡ true
StopsWell tokens (stops.Missing trigger) = IsIdle tokens trigger
StopsWell tokens (stops.Refuse errno) = Unit {0}

-- it passes idle triggers alone: none that is expiring, and none on which a mount is pending
pub record IsOrderly (tokens : List OpenToken) (walk : Walked) : Type 0 where
  pub passes : All (IsIdle tokens) walk.passed
  pub stops : StopsWell tokens walk.stop

-- where the walk arrives nothing is in its way
abbrev pub RestsAt : Scene → Stop → Type 0
RestsAt scene (stops.Arrive at) = next_at scene at.mount at.place ≡ nexts.Rests
RestsAt scene (stops.Block token) = Unit {0}
RestsAt scene (stops.Missing trigger) = Unit {0}
RestsAt scene (stops.Refuse errno) = Unit {0}
