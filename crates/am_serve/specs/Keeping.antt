-- What is saved of a session, and brought back: own choice (docs/FORMATS.md, "Sessions").
use Rattle.std.specs.Prelude.{◌≡◌, ◌≤◌, ◌⊎◌, ℕ, List, Option, None, Some, IfSome}
use Rattle.am_script.specs.declared.fault.ScriptFaultKind.TheVariants.{NoMemory}
use Rattle.am_session.specs.{Session}
use Rattle.am_world.specs.Capacity.{WorldTable, state_of}
use Rattle.am_serve.specs.declared.complaints.Complaint.TheVariants.{OfScript, NoWorld, NotSaved}
use Rattle.am_serve.specs.declared.orders.Order.{Order}
use Rattle.am_serve.specs.declared.orders.Order.TheVariants.{Save, Back, Other}
use Rattle.am_serve.specs.declared.service.Saved.{Saved}
use Rattle.am_serve.specs.declared.service.Service.{Service}
use Rattle.am_serve.specs.declared.stands.Stand.{Stand}
use Rattle.am_serve.specs.declared.stands.Stand.TheVariants.{Gathering, Playing}
use Rattle.am_serve.specs.declared.telling.Telling.{Telling}
use Rattle.am_serve.specs.declared.telling.Telling.TheVariants.{Nothing}
use Rattle.am_serve.specs.Hearing.{Hears, fresh, is_within, next_fault}
use Rattle.am_serve.specs.Orders.{order_of}

-- no line was taken yet, and nothing is saved
abbrev pub unserved : Service
unserved = record { serving = fresh; saved = None }

-- it is that world once more: the same halves and observations, of which as many were handed on
pub record IsAgain (old new : WorldTable) : Type 0 where
  pub state : state_of new ≡ state_of old
  pub handed : new.handed ≡ old.handed

-- ---- `!save`

-- the world is saved, in place of what was, with how many lines were taken
pub record Saves (session : Session) (old new : Service) (told : Telling) : Type 0 where
  pub saved : Saved
  pub again : IsAgain session.world saved.world
  pub lines : saved.lines ≡ old.serving.lines
  pub keeps : new ≡ record { serving = old.serving; saved = Some saved }
  pub nothing : told ≡ Nothing

-- there is no memory for a copy, and nothing has changed
abbrev pub FindsNoMemory : Service → Service → Telling → Type 0
FindsNoMemory old new told = (new ≡ old) × (told ≡ next_fault old.serving.lines (OfScript NoMemory) None)

abbrev pub IsSave : Stand → Service → Service → Telling → Type 0
IsSave (Gathering head) old new told = (new ≡ old) × (told ≡ next_fault old.serving.lines NoWorld None)
IsSave (Playing session) old new told = Saves session old new told ⊎ FindsNoMemory old new told

-- ---- `!back`

-- the session has the saved world once more, behind as many lines as then, and that stays saved
pub record GoesBack (saved : Saved) (new : Service) (told : Telling) : Type 0 where
  pub session : Session
  pub again : IsAgain saved.world session.world
  pub answer : session.answer ≡ None
  pub stands : new ≡ record { serving = record { stand = Playing session; lines = saved.lines }; saved = Some saved }
  pub nothing : told ≡ Nothing

abbrev pub IsBack : Option Saved → Service → Service → Telling → Type 0
IsBack None old new told = (new ≡ old) × (told ≡ next_fault old.serving.lines NotSaved None)
IsBack (Some saved) old new told = GoesBack saved new told ⊎ FindsNoMemory old new told

-- ---- any line

-- a line that orders this leaves it so, and this is told of it
abbrev pub Attended : Order → Service → List ℕ → Service → Telling → Type 0
Attended Save old line new told = IsSave old.serving.stand old new told
Attended Back old line new told = IsBack old.saved old new told
Attended Other old line new told = (new.saved ≡ old.saved) × Hears old.serving line new.serving told

-- the line leaves it so, and this is told of it
abbrev pub Attends : Service → List ℕ → Service → Telling → Type 0
Attends old line new told = Attended (order_of (is_within old.serving.stand) line) old line new told

-- ---- how many lines

-- no more lines were taken than these, or had been when the world was saved
pub record AreFew (service : Service) (most : ℕ) : Type 0 where
  pub lines : service.serving.lines ≤ most
  pub saved : IfSome service.saved (λ saved. saved.lines ≤ most)
