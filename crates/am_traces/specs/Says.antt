-- Which line says which observation: the one that is printed of it, behind two blanks
-- (docs/FORMATS.md, "Traces").
use Rattle.std.specs.Prelude.{◌≡◌, ◌⊎◌, ◌<◌, ◌≤◌, ℕ, ◌+◌, ◌^◌, ◌-◌, Bool, true, false, List, [], ◌∷◌, ◌++◌, length, codes, Option, None, Some, Err}
use Rattle.am_names.specs.{is_name}
use Rattle.am_names.specs.declared.trigger.Trigger.{Trigger}
use Rattle.am_lines.specs.{begins_with}
use Rattle.am_wire.specs.{Packet}
use Rattle.am_state.specs.{Obs, Record}
use Rattle.am_state.specs.declared.daemon_row.Record.TheVariants as book
use Rattle.am_state.specs.declared.obs.Obs.TheVariants as seen
use Rattle.am_views.specs.{obs_text}
use Rattle.am_traces.specs.declared.fault.Expected.{Expected}
use Rattle.am_traces.specs.declared.fault.Miss.{Miss}
use Rattle.am_traces.specs.declared.fault.TraceFault.{TraceFault}
use Rattle.am_traces.specs.declared.fault.TraceFault.TheVariants.{BadLine, NoMemory}
use Rattle.am_traces.specs.Observations.{line_read}

-- ---- observations that there are: each number has its bits, and each name is one

-- what a trigger is for: a name, if it isn't direct
abbrev pub IsKey : Option (List ℕ) → Type 0
IsKey None = Unit {0}
IsKey (Some name) = is_name name ≡ true

-- a trigger
pub record IsTrigger (trigger : Trigger) : Type 0 where
  pub fs : trigger.fs < 2 ^ 32
  pub name : IsKey trigger.name

-- the packet of a token
pub record IsPacketOf (token : ℕ) (packet : Packet) : Type 0 where
  pub of_token : packet.token ≡ token
  pub dev : packet.dev < 2 ^ 32
  pub ino : packet.ino < 2 ^ 64
  pub uid : packet.uid < 2 ^ 32
  pub gid : packet.gid < 2 ^ 32
  pub pid : packet.pid < 2 ^ 32
  pub tgid : packet.tgid < 2 ^ 32
  pub name : length packet.name ≤ 255

-- what the book may say
abbrev pub IsEntry : Option Record → Type 0
IsEntry None = Unit {0}
IsEntry (Some (book.Mounting token)) = token < 2 ^ 32
IsEntry (Some (book.Mounted mount)) = mount < 2 ^ 64
IsEntry (Some (book.Unmounting token mount)) = (token < 2 ^ 32) × (mount < 2 ^ 64)

-- numbers of mounts
abbrev pub AreMounts : List ℕ → Type 0
AreMounts [] = Unit {0}
AreMounts (mount ∷ mounts) = (mount < 2 ^ 64) × AreMounts mounts

-- the packet that is queued or delivered is that of the token
abbrev pub IsObs : Obs → Type 0
IsObs (seen.Queued token attach packet) =
    (token < 2 ^ 32) × (attach < 2 ^ 32) × IsPacketOf token packet
IsObs (seen.Waits walker token) = (walker < 2 ^ 32) × (token < 2 ^ 32)
IsObs (seen.Answered token status) = token < 2 ^ 32
IsObs (seen.Catatonic fs) = fs < 2 ^ 32
IsObs (seen.Released walker token status) = (walker < 2 ^ 32) × (token < 2 ^ 32)
IsObs (seen.Passed walker trigger) = (walker < 2 ^ 32) × IsTrigger trigger
IsObs (seen.Entered walker mount) = (walker < 2 ^ 32) × (mount < 2 ^ 64)
IsObs (seen.Left walker mount) = (walker < 2 ^ 32) × (mount < 2 ^ 64)
IsObs (seen.Mounted mounts) = AreMounts mounts
IsObs (seen.Unmounted mounts) = AreMounts mounts
IsObs (seen.Delivered token attach packet) =
    (token < 2 ^ 32) × (attach < 2 ^ 32) × IsPacketOf token packet
IsObs (seen.Recorded trigger entry) = IsEntry entry × IsTrigger trigger
IsObs (seen.Reattached fs attach) = (fs < 2 ^ 32) × (attach < 2 ^ 32)
IsObs seen.Died = Unit {0}

-- ---- lines

-- the line is what is printed of the observation, without its line feed
pub record Says (line : List ℕ) (obs : Obs) : Type 0 where
  pub is_one : IsObs obs
  pub printed : line ≡ codes "  " ++ obs_text obs

-- the line begins with a blank
abbrev pub is_indented : List ℕ → Bool
is_indented line = begins_with 32 line

-- the line is indented and says the first observation, and the others are those of what follows
pub record SaysFirst (line : List ℕ) (seen : List Obs) (Others : List Obs → Type 0) : Type 0 where
  pub indented : is_indented line ≡ true
  pub obs : Obs
  pub others : List Obs
  pub parted : seen ≡ obs ∷ others
  pub says : Says line obs
  pub follow : Others others

-- the indented lines say these observations, one each, in order; all others say none
abbrev pub IsTraceOf : List (List ℕ) → List Obs → Type 0
IsTraceOf [] seen = seen ≡ []
IsTraceOf (line ∷ lines) seen =
    ((is_indented line ≡ false) × IsTraceOf lines seen)
    ⊎ SaysFirst line seen (IsTraceOf lines)

-- ---- faults

-- the first indented line that says no observation, and where it isn't as expected
pub record IsFirstBad (lines : List (List ℕ)) (number column : ℕ) (expected : Expected) : Type 0 where
  pub above : List (List ℕ)
  pub line : List ℕ
  pub below : List (List ℕ)
  pub stands : lines ≡ above ++ line ∷ below
  pub numbered : number ≡ length above + 1
  pub seen : List Obs
  pub before : IsTraceOf above seen
  pub indented : is_indented line ≡ true
  pub says_none : (obs : Obs) → ¬ Says line obs
  pub miss : Miss
  pub missed : line_read line ≡ Err miss
  pub placed : column ≡ (length line - miss.left) + 1
  pub told : expected ≡ miss.expected

-- why these lines aren't read: the first that is no observation's is told, or memory runs out
abbrev pub IsUnread : List (List ℕ) → TraceFault → Type 0
IsUnread lines (BadLine line column expected) = IsFirstBad lines line column expected
IsUnread lines NoMemory = Unit {0}
