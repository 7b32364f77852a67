-- What a line comes to, by what it says.
use Rattle.std.proofs.Common.{◌≡◌, ◌++◌, ℕ, Bool, true, List, Option, Some, None, Result, Ok, Err, refl, sym, subst}
use Rattle.am_machine.specs.{Event, Answer}
use Rattle.am_machine.specs.State.{State}
use Rattle.am_script.specs.{ScriptFaultKind, Output, Form, answer_line, answers_alone, is_refused, owed_by, Stands, Settles, Puts, IsAnswered, LineAnswered, LineReadAs, SaysEvent, TurnDone, TurnStopped}
use Rattle.am_script.specs.declared.fault.ScriptFaultKind.TheVariants.{NoMemory}

-- its answer is put out
pub turn_of_an_event : (s next : State) (said : Result (Option Event) ScriptFaultKind) (answer : Answer) (number : ℕ) (kept mid keeps : Output) (old now new : Option (List ℕ)) (refused : Bool) → LineAnswered s said next (Ok (Some answer)) → Settles kept mid old now → mid.line ≡ number → Puts mid keeps (answer_line answer) now new → refused ≡ is_refused answer → TurnDone answers_alone s said next number kept keeps old new (Some refused)
turn_of_an_event s next (Ok None) answer number kept mid keeps old now new refused h begun line put test = absurd h
turn_of_an_event s next (Ok (Some event)) answer number kept mid keeps old now new refused h begun line put test = record {
  answer = answer;
  seen = h.0;
  step = h.1;
  puts = λ all start stands. subst (λ (n : ℕ). Stands keeps (all ++ owed_by n (answer_line answer)) start new) line (put.puts all start (begun all start stands));
  test = test;
}
turn_of_an_event s next (Err kind) answer number kept mid keeps old now new refused h begun line put test = absurd h

-- it says no event
pub turn_of_no_event : (s next : State) (said : Result (Option Event) ScriptFaultKind) (number : ℕ) (kept : Output) (old : Option (List ℕ)) → LineAnswered s said next (Ok None) → TurnDone answers_alone s said next number kept kept old old None
turn_of_no_event s next (Ok None) number kept old h = record { same = h; settles = λ all start stands. stands }
turn_of_no_event s next (Ok (Some event)) number kept old h = absurd h
turn_of_no_event s next (Err kind) number kept old h = absurd h

-- it has a fault
pub turn_of_a_fault : (s next : State) (said : Result (Option Event) ScriptFaultKind) (kept : Output) (old : Option (List ℕ)) (kind : ScriptFaultKind) → LineAnswered s said next (Err kind) → TurnStopped answers_alone s said next kept kept old old kind
turn_of_a_fault s next (Ok None) kept old kind h = absurd h
turn_of_a_fault s next (Ok (Some event)) kept old kind h = absurd h
turn_of_a_fault s next (Err fault) kept old kind h = (record { same = h.0; settles = λ all start stands. stands }, h.1)

-- ---- in any form

-- nothing is done
pub no_turn : (form : Form) (s : State) (said : Result (Option Event) ScriptFaultKind) (number : ℕ) (kept : Output) (old : Option (List ℕ)) → said ≡ Ok None → TurnDone form s said s number kept kept old old None
no_turn form s said number kept old e =
    subst (λ (r : Result (Option Event) ScriptFaultKind). TurnDone form s r s number kept kept old old None) (sym e) (record { same = refl; settles = λ all start stands. stands })

-- an event comes
pub event_turn : (form : Form) (s next : State) (said : Result (Option Event) ScriptFaultKind) (event : Event) (number : ℕ) (kept keeps : Output) (old new : Option (List ℕ)) (refused : Bool) → said ≡ Ok (Some event) → IsAnswered form s event next number kept keeps old new refused → TurnDone form s said next number kept keeps old new (Some refused)
event_turn form s next said event number kept keeps old new refused e h =
    subst (λ (r : Result (Option Event) ScriptFaultKind). TurnDone form s r next number kept keeps old new (Some refused)) (sym e) h

-- the line has a fault
faulty : (form : Form) (s : State) (said : Result (Option Event) ScriptFaultKind) (kept : Output) (old : Option (List ℕ)) (kind : ScriptFaultKind) → said ≡ Err kind → TurnStopped form s said s kept kept old old kind
faulty form s said kept old kind e =
    subst (λ (r : Result (Option Event) ScriptFaultKind). TurnStopped form s r s kept kept old old kind) (sym e) (record { same = refl; settles = λ all start stands. stands }, refl)

no_room : (form : Form) (s : State) (said : Result (Option Event) ScriptFaultKind) (kept : Output) (old : Option (List ℕ)) → form.ends ≡ true → SaysEvent said → TurnStopped form s said s kept kept old old NoMemory
no_room form s (Ok None) kept old ends h = absurd h
no_room form s (Ok (Some event)) kept old ends h = record { ends = ends; idle = record { same = refl; settles = λ all start stands. stands }; told = refl }
no_room form s (Err kind) kept old ends h = absurd h

-- it has one, or finds no memory, in a form that ends a script so
pub stopped_turn : (form : Form) (s : State) (said : Result (Option Event) ScriptFaultKind) (kept : Output) (old : Option (List ℕ)) (kind : ScriptFaultKind) → form.ends ≡ true → LineReadAs said (Err kind) → TurnStopped form s said s kept kept old old kind
stopped_turn form s said kept old NoMemory ends h = no_room form s said kept old ends h
stopped_turn form s said kept old kind ends h = faulty form s said kept old kind h
