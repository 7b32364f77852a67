-- How a head is ended. For the code alone: own choice.
use Rattle.std.specs.Prelude.{⊤, ◌≡◌, ◌⊎◌, ℕ, ◌+◌, List, ◌++◌, None, Result, Ok, Err}
use Rattle.am_script.specs.{fault_at}
use Rattle.am_script.specs.declared.fault.ScriptFaultKind.TheVariants.{NoMemory}
use Rattle.am_session.specs.{HasSlip, NotBegun, Session}
use Rattle.am_serve.specs.declared.complaints.Complaint.TheVariants.{OfScript}
use Rattle.am_serve.specs.declared.hear.Bad.{Bad}
use Rattle.am_serve.specs.declared.stands.Serving.{Serving}
use Rattle.am_serve.specs.declared.stands.Stand.{Stand}
use Rattle.am_serve.specs.declared.stands.Stand.TheVariants.{Gathering, Playing}
use Rattle.am_serve.specs.declared.telling.Telling.{Telling}
use Rattle.am_serve.specs.declared.telling.Telling.TheVariants.{Nothing, Fault}
use Rattle.am_serve.specs.Heads.{Gathered, ends_head, nothing_gathered}
use Rattle.am_serve.specs.Hearing.{HeardInHead}

-- no world begins: the head has this fault, or there is no memory for its last line, behind so many
abbrev pub IsNoOpening : Gathered → ℕ → List ℕ → Bad → Type 0
IsNoOpening head lines line bad =
    (NotBegun (head.text ++ line) bad.fault × HasSlip (head.text ++ line) bad.fault bad.slip)
    ⊎ (bad ≡ record { fault = fault_at (lines + 1) NoMemory; slip = None })

-- what comes of it for a session of which so many lines were taken
abbrev pub Follows : Result Session Bad → ℕ → Stand → ℕ → Telling → Type 0
Follows (Ok session) lines new left told =
    (new ≡ Playing session) × (left ≡ lines + 1) × (told ≡ Nothing)
Follows (Err bad) lines new left told =
    (new ≡ Gathering nothing_gathered) × (left ≡ 0)
    × (told ≡ Fault bad.fault.line (OfScript bad.fault.kind) bad.slip)

-- the line is one of the head, where that is gathered
abbrev pub HeardIfHead : Stand → ℕ → List ℕ → Serving → Telling → Type 0
HeardIfHead (Gathering head) lines line new told = HeardInHead (ends_head head line) head lines line new told
HeardIfHead (Playing session) lines line new told = ⊤
