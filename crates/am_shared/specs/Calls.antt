-- The calls of a caller, in the history that all callers share.
use Rattle.std.specs.Prelude.{◌≡◌, ◌<◌, ℕ, List, [], ◌∷◌, ◌++◌, map, length, All}
use mathlib.Core.List.{IsPrefix}
use Rattle.am_machine.specs.{Answer, Entry, Event, Setup, entry}
use Rattle.am_shared.specs.declared.caller.Receipt.{Receipt}
use Rattle.am_shared.specs.declared.shared.Taken.{Taken}
use Rattle.am_shared.specs.declared.chronicle.Known.{Known}
use Rattle.am_shared.specs.Accounts.{Account}
use Rattle.am_shared.specs.Chronicle.{AreIn}
use Rattle.am_shared.specs.Matching.{AllAgree}
use Rattle.am_shared.specs.Sharing.{Sharing, IsSharedFrom}

-- the call of a receipt, with its position
abbrev pub call_of : Receipt → ℕ × Entry
call_of r = (r.position, entry r.event r.answer)

abbrev pub calls_of : List Receipt → List (ℕ × Entry)
calls_of receipts = map call_of receipts

-- those of all these callers
abbrev pub all_calls : List Account → List (ℕ × Entry)
all_calls [] = []
all_calls (caller ∷ rest) = calls_of caller.receipts ++ all_calls rest

-- The calls of a pass and then this one stand in the history of a shared world, of which this one is the last. Before
-- it the history begins with what the pass saw, and now the pass has seen all of it.
pub record StandsLast (opening : Setup) (old new : Known) (position : ℕ) (call : Entry) : Type 0 where
  pub world : Sharing
  pub shared : IsSharedFrom opening world
  pub calls : AreIn world.history (old.mine ++ (position, call) ∷ [])
  pub above : All (λ x. x.0 < position) old.mine
  pub first : 0 < position
  pub is_last : position ≡ length world.history
  pub earlier : List Entry
  pub goes_on : IsPrefix old.seen earlier
  pub whole : world.history ≡ earlier ++ call ∷ []
  pub seen : new.seen ≡ world.history

-- all receipts of the caller stand in the history of a shared world, which it has seen, and of which the last has this
-- position
pub record Stands (opening : Setup) (caller : Account) (position : ℕ) : Type 0 where
  pub world : Sharing
  pub shared : IsSharedFrom opening world
  pub agree : AllAgree world.history caller.receipts
  pub seen : caller.seen ≡ world.history
  pub is_last : position ≡ length world.history

-- The event was made: its receipt comes after the others of its caller, and stands with them in the history of a shared
-- world, of which it is the last, at this position. The caller has seen that history, which begins, before this event,
-- with what the caller had seen.
pub record Receives (opening : Setup) (old new : Account) (event : Event) (position : ℕ) : Type 0 where
  pub answer : Answer
  pub receipt : new.receipts
      ≡ old.receipts ++ record { position = position; event = event; answer = answer } ∷ []
  pub stands : Stands opening new position
  pub earlier : List Entry
  pub goes_on : IsPrefix old.seen earlier
  pub seen : new.seen ≡ earlier ++ entry event answer ∷ []

-- A caller sees this world: all its receipts stand in the history, which begins with what the caller had seen, and
-- which it has seen now.
pub record Sees (s : Sharing) (old new : Account) : Type 0 where
  pub agree : AllAgree s.history old.receipts
  pub goes_on : IsPrefix old.seen s.history
  pub seen : new.seen ≡ s.history

-- what was taken of a shared world that a caller sees: all of its history that wasn't taken before
pub record IsTaken (opening : Setup) (old new : Account) (taken : Taken) : Type 0 where
  pub world : Sharing
  pub shared : IsSharedFrom opening world
  pub sees : Sees world old new
  pub before : taken.before ≡ world.taken
  pub earlier : List Entry
  pub count : taken.before ≡ length earlier
  pub whole : world.history ≡ earlier ++ taken.entries.items
