-- Where the threads of a scene stand: own choice (docs/DECISIONS.md, "All orders of a scene").
use Rattle.std.specs.Prelude.{ℕ, ◌+◌, ◌==◌, Bool, false, List, [], ◌∷◌, ◌++◌, map, drop, if◌then◌else◌}
use Rattle.am_machine.specs.{Answer, Event}
use Rattle.am_explore.specs.declared.choice.Who.{Who}
use Rattle.am_explore.specs.declared.choice.Who.TheVariants as who
use Rattle.am_explore.specs.declared.standing.Heard.{Heard}
use Rattle.am_explore.specs.Answers.{is_resume, is_wait, resumes}

-- how far a thread is, and what it was answered
pub record Standing : Type 0 where
  -- the index of the event that it makes next
  pub next : ℕ
  -- the answers, the oldest first
  pub heard : List Heard

-- The next event behind one of these that is answered so. A resume is made again while the walker
-- waits, and passed over where it doesn't.
abbrev pub next_after : ℕ → List Event → Answer → ℕ
next_after next [] answer = next
next_after next (event ∷ later) answer =
    if is_wait answer then (if is_resume event then next else next + 1)
    else next + 1 + resumes later

-- the thread of these events, when its next one is answered so
abbrev pub went : List Event → Answer → Standing → Standing
went events answer s = record {
  next = next_after s.next (drop s.next events) answer;
  heard = s.heard ++ record { event = s.next; answer = answer } ∷ [];
}

-- the event is one of the thread of this number
abbrev pub is_of_thread : ℕ → Who → Bool
is_of_thread n (who.Thread thread) = n == thread
is_of_thread n who.Daemon = false

-- the threads from this number on: the one whose event is answered so goes on, the others stay
abbrev pub moved : ℕ → Who → Answer → List (List Event) → List Standing → List Standing
moved n made_by answer (events ∷ threads) (s ∷ standings) =
    (if is_of_thread n made_by then went events answer s else s) ∷ moved (n + 1) made_by answer threads standings
moved n made_by answer [] standings = []
moved n made_by answer threads [] = []

-- nobody waits yet, so that resumes are passed over
abbrev pub first_of : List Event → Standing
first_of events = record { next = resumes events; heard = [] }

-- all threads at the beginning
abbrev pub first_standings : List (List Event) → List Standing
first_standings threads = map first_of threads
