-- A world that C holds from call to call.
use Rattle.std.specs.Prelude.{◌≡◌, ℕ, List, length, Option, None, Some, Result, Ok, Err}
use Rattle.am_script.specs.{ScriptFault, Summary}
use Rattle.am_session.specs.{IsNew, Session, no_event}
use Rattle.am_c.specs.declared.script.AmPlayed.{AmPlayed}
use Rattle.am_c.specs.Buffer.{with_front}
use Rattle.am_c.specs.Scripts.{IsTold, fault_number}

-- ---- a call

-- what C has: perhaps a world, a buffer, and how a call went
pub record Held : Type 0 where
  pub inside : Option Session
  pub buffer : List ℕ
  pub told : AmPlayed

-- 1 where there is a session
abbrev pub held_count : Option Session → ℕ
held_count None = 0
held_count (Some session) = 1

-- the numbers of what is wrong with the world that C hands in
abbrev pub no_world : ℕ
no_world = 254

abbrev pub has_world : ℕ
has_world = 255

-- the call makes this of the world, what it writes stands at the front of the buffer, and C is told how
-- it went, with the place of its fault in this text
pub record IsUsed (Does : Session → Session → List ℕ → Result Summary ScriptFault → Type 0) (text : List ℕ) (session : Session) (old new : Held) (number : ℕ) : Type 0 where
  pub next : Session
  pub inside : new.inside ≡ Some next
  pub written : List ℕ
  pub went : Result Summary ScriptFault
  pub does : Does session next written went
  pub buffer : new.buffer ≡ with_front written old.buffer
  pub is_told : IsTold text (length written) went new.told
  pub numbered : number ≡ fault_number went

-- where there is a world, the call makes this of it; else nothing is touched
abbrev pub Uses : (Session → Session → List ℕ → Result Summary ScriptFault → Type 0) → List ℕ → Option Session → Held → Held → ℕ → Type 0
Uses Does text None old new number = (new ≡ old) × (number ≡ no_world)
Uses Does text (Some session) old new number = IsUsed Does text session old new number

-- ---- a new world

-- the session, if there is one
abbrev pub session_in : Result Session ScriptFault → Option Session
session_in (Ok session) = Some session
session_in (Err fault) = None

-- how that went
abbrev pub began : Result Session ScriptFault → Result Summary ScriptFault
began (Ok session) = Ok no_event
began (Err fault) = Err fault

-- a world begins as the head says, or C is told why none does
pub record Begins (head : List ℕ) (old new : Held) (number : ℕ) : Type 0 where
  pub made : Result Session ScriptFault
  pub is_new : IsNew head made
  pub inside : new.inside ≡ session_in made
  pub is_told : IsTold head 0 (began made) new.told
  pub numbered : number ≡ fault_number (began made)

-- where there is a world already, nothing is touched
abbrev pub News : List ℕ → Option Session → Held → Held → ℕ → Type 0
News head None old new number = Begins head old new number
News head (Some session) old new number = (new ≡ old) × (number ≡ has_world)
