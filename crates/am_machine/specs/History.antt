-- Histories: events with their answers, in order (own choice).
use Rattle.std.specs.Prelude.{List, [], ◌∷◌, map}
use Rattle.am_machine.specs.declared.event.Event.{Event}
use Rattle.am_machine.specs.declared.answer.Answer.{Answer}
use Rattle.am_machine.specs.declared.entry.Entry.{Entry}

-- an event with its answer
abbrev pub entry : Event → Answer → Entry
entry event answer = record { event = event; answer = answer }

-- the events of a history
abbrev pub events_of : List Entry → List Event
events_of history = map (λ e. e.event) history

-- the answers of a history
abbrev pub answers_of : List Entry → List Answer
answers_of history = map (λ e. e.answer) history

-- as many as there are of both
abbrev pub entries : List Event → List Answer → List Entry
entries [] answers = []
entries (event ∷ events) [] = []
entries (event ∷ events) (answer ∷ answers) = entry event answer ∷ entries events answers
