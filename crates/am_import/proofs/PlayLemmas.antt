-- A script that was played leaves its world.
use Rattle.std.proofs.Common.{◌≡◌, ℕ, List, Option, None, Some, Result, Ok, Err, IfOk, IfErr, ◌⊎◌, inl, inr, ap, ◌∙◌, sym, subst}
use Rattle.am_machine.specs.{setup_of}
use Rattle.am_machine.specs.State.{State}
use Rattle.am_mountinfo.specs.{EventsPlayed, NotPlayed as NotAllPlayed}
use Rattle.am_script.specs.declared.fault.ScriptFaultKind.TheVariants as kinds
use Rattle.am_script.specs.{NotOpened, OpenedAs, ScriptFault, ScriptFaultKind, Summary, Told, broken, script_of}
use Rattle.am_script.specs.declared.visit.Opened.{Opened}
use Rattle.am_views.proofs.WholeInputs.{told_in}
use Rattle.am_world.specs.Capacity.{state_of}
use Rattle.am_world.specs.declared.world.World.{World}
use Rattle.am_import.specs.declared.imports.ImportFault.{ImportFault}
use Rattle.am_import.specs.declared.imports.ImportFault.TheVariants.{BadLine, NoMemory, NotPlayed, ReadFailed, WriteFailed}
use Rattle.am_import.specs.Imported.{IsPlayingFault, IsRefused, Leaves}
use Rattle.am_import.specs.Played.{IsBehindFault}

-- the events of a script that was opened have come, and none was refused
pub leaves_by : (text : List ℕ) (opened : Opened) (last : State) (summary : Summary) → OpenedAs (broken None text) (script_of None text) (Some opened) → EventsPlayed (state_of opened.world) (told_in opened) last summary → summary.refused ≡ 0 → Leaves text last
leaves_by text opened last summary h played taken = record {
  opening = setup_of (state_of opened.world);
  opens = h.opening;
  summary = summary;
  played = subst (λ (s : State). EventsPlayed s (script_of None text).told last summary) h.world (subst (λ (t : Told). EventsPlayed (state_of opened.world) t last summary) (sym h.told) played);
  taken = taken;
}

-- the same of what was made of them
pub leaves_done : (broke : Option ScriptFaultKind) (text : List ℕ) (opened : Opened) (r : Result World ImportFault) → broke ≡ None → OpenedAs (broken broke text) (script_of broke text) (Some opened) → IfOk r (λ (world : World). (summary : Summary) × EventsPlayed (state_of opened.world) (told_in opened) (state_of world) summary × (summary.refused ≡ 0)) → IfOk r (λ (world : World). Leaves text (state_of world))
leaves_done broke text opened (Err fault) none h played = tt
leaves_done broke text opened (Ok world) none h played =
    leaves_by text opened (state_of world) played.0 (subst (λ (b : Option ScriptFaultKind). OpenedAs (broken b text) (script_of b text) (Some opened)) none h) played.1 played.2

-- memory ran out for an event, or a line is at fault
pub behind_stopped : (start : State) (all : Told) (fault : ScriptFault) (told : ImportFault) → NotAllPlayed all fault → (fault.kind ≡ kinds.NoMemory → told ≡ NoMemory) → (told ≡ NoMemory) ⊎ (told ≡ NotPlayed) → IsBehindFault start all told
behind_stopped start all fault told (inl e) memory (inl none) = subst (IsBehindFault start all) (sym none) tt
behind_stopped start all fault told (inl e) memory (inr not) = subst (IsBehindFault start all) (sym not) (inl (fault, e))
behind_stopped start all fault told (inr room) memory one = subst (IsBehindFault start all) (sym (memory room.kind)) tt

-- the head has no world, or memory ran out for it
pub head_stopped : (lines : ℕ) (text : List ℕ) (fault : ScriptFault) (told : ImportFault) → NotOpened lines (script_of None text) fault → (fault.kind ≡ kinds.NoMemory → told ≡ NoMemory) → (told ≡ NoMemory) ⊎ (told ≡ NotPlayed) → IsPlayingFault text told
head_stopped lines text fault told (inl world) memory (inl none) = subst (IsPlayingFault text) (sym none) tt
head_stopped lines text fault told (inl world) memory (inr not) = subst (IsPlayingFault text) (sym not) (inl world.0)
head_stopped lines text fault told (inr room) memory one = subst (IsPlayingFault text) (sym (memory room.kind)) tt

-- the same of a text that was read whole
pub head_done : (broke : Option ScriptFaultKind) (lines : ℕ) (text : List ℕ) (fault : ScriptFault) (told : ImportFault) → broke ≡ None → NotOpened lines (script_of broke text) fault → (fault.kind ≡ kinds.NoMemory → told ≡ NoMemory) → (told ≡ NoMemory) ⊎ (told ≡ NotPlayed) → IsPlayingFault text told
head_done broke lines text fault told none h memory one =
    head_stopped lines text fault told (subst (λ (b : Option ScriptFaultKind). NotOpened lines (script_of b text) fault) none h) memory one

-- the events of a script that was opened aren't all taken
pub behind_unplayed : (text : List ℕ) (opened : Opened) (told : ImportFault) → OpenedAs (broken None text) (script_of None text) (Some opened) → IsBehindFault (state_of opened.world) (told_in opened) told → IsPlayingFault text told
behind_unplayed text opened NoMemory h stops = tt
behind_unplayed text opened NotPlayed h (inl (fault, e)) = inr (inl (fault, ap (λ (t : Told). t.fault) h.told ∙ e))
behind_unplayed text opened NotPlayed h (inr refused) = inr (inr (record {
  opening = setup_of (state_of opened.world);
  opens = h.opening;
  refused = subst (λ (s : State). IsRefused s (script_of None text).told) h.world (subst (λ (t : Told). IsRefused (state_of opened.world) t) (sym h.told) refused);
}))
behind_unplayed text opened (BadLine line column what) h stops = absurd stops
behind_unplayed text opened ReadFailed h stops = absurd stops
behind_unplayed text opened WriteFailed h stops = absurd stops

-- the same of what was made of them
pub unplayed_done : (broke : Option ScriptFaultKind) (text : List ℕ) (opened : Opened) (r : Result World ImportFault) → broke ≡ None → OpenedAs (broken broke text) (script_of broke text) (Some opened) → IfErr r (IsBehindFault (state_of opened.world) (told_in opened)) → IfErr r (IsPlayingFault text)
unplayed_done broke text opened (Ok world) none h stops = tt
unplayed_done broke text opened (Err told) none h stops =
    behind_unplayed text opened told (subst (λ (b : Option ScriptFaultKind). OpenedAs (broken b text) (script_of b text) (Some opened)) none h) stops
