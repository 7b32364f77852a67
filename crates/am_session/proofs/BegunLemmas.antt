-- A session of a head that was opened.
use Rattle.std.proofs.Common.{◌≡◌, ◌⊎◌, ℕ, List, length, Option, Some, None, Result, Ok, Err, IfOk, IfErr, OnOk, option_copied, sym, ◌∙◌, subst, inl, inr}
use Rattle.am_machine.specs.{setup_of, initial_state_of}
use Rattle.am_script.specs.{IsOpened, NoNext, NotOpened, ScriptFault, ScriptFaultKind, Told, broken, events_from, lines_in, lines_of, only_fault, played, script_of}
use Rattle.am_script.specs.declared.visit.Opened.{Opened}
use Rattle.am_world.specs.{WorldTable}
use Rattle.am_world.specs.Capacity.{state_of}
use Rattle.am_session.specs.{Session}
use Rattle.am_session.specs.Sessions.{HasEvent, IsNew, NotBegun}

-- what stands behind the line `events`
abbrev behind : Opened → Told
behind opened = events_from opened.broke opened.line (lines_in (option_copied opened.rest))

begun_of : (head : List ℕ) (opened : Opened) (made : Result Session ScriptFault) → IsOpened None (script_of None head) opened → IfOk made (λ session. session.world ≡ opened.world) → IfOk made (λ session. session.answer ≡ None) → OnOk made (behind opened ≡ only_fault None) → IfErr made (λ fault. NoNext (behind opened) fault ⊎ HasEvent (behind opened) fault) → IsNew head made
begun_of head opened (Ok session) is world answer told err = record {
  opening = subst (λ (t : WorldTable). (script_of None head).opening ≡ Some (setup_of (state_of t))) (sym world) is.opening;
  world = subst (λ (t : WorldTable). state_of t ≡ initial_state_of (setup_of (state_of t))) (sym world) is.world;
  told = is.told ∙ told;
  answer = answer;
}
begun_of head opened (Err fault) is world answer told err =
    inr (inr (inr (subst (λ (t : Told). NoNext t fault ⊎ HasEvent t fault) (sym is.told) err)))

-- the input was read whole
pub begun_as : (head : List ℕ) (broke : Option ScriptFaultKind) (opened : Opened) (made : Result Session ScriptFault) → broke ≡ None → IsOpened (broken broke head) (script_of broke head) opened → IfOk made (λ session. session.world ≡ opened.world) → IfOk made (λ session. session.answer ≡ None) → OnOk made (behind opened ≡ only_fault None) → IfErr made (λ fault. NoNext (behind opened) fault ⊎ HasEvent (behind opened) fault) → IsNew head made
begun_as head broke opened made whole is =
    begun_of head opened made (subst (λ (b : Option ScriptFaultKind). IsOpened (broken b head) (script_of b head) opened) whole is)

-- its head has a fault
pub no_head_as : (head : List ℕ) (broke : Option ScriptFaultKind) (fault : ScriptFault) → broke ≡ None → NotOpened (length (lines_of (played broke head))) (script_of broke head) fault → NotBegun head fault
no_head_as head broke fault whole h =
    inr (inl (subst (λ (b : Option ScriptFaultKind). NotOpened (length (lines_of (played b head))) (script_of b head) fault) whole h))
