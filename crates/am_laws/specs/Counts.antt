-- What is counted over a trace alone. `seen` is what was seen before a place of the trace, the
-- oldest first (own choice).
use Rattle.std.specs.Prelude.{◌≡◌, ℕ, true, List, [], ◌∷◌, ◌++◌, Option, None, Some, ℤ, pos, ◌-ℤ◌}
use Rattle.std.specs.List.{list_all, count_by, Contains}
use Rattle.am_names.specs.declared.trigger.Trigger.{Trigger}
use Rattle.am_names.specs.{Status}
use Rattle.am_names.specs.declared.row.TokenKind.TheVariants.{Expire}
use Rattle.am_wire.specs.{Packet, token_kind}
use Rattle.am_state.specs.{Obs}
use Rattle.am_state.specs.declared.obs.Obs.TheVariants.{Queued, Answered, Catatonic, Released, Delivered}
use Rattle.am_laws.specs.OneObservation.{trigger_of, is_released, packet_in, enters, leaves}

-- how often the mount was entered, less how often it was left
abbrev pub uses : List Obs → ℕ → ℤ
uses seen mount = pos (count_by (enters mount) seen) -ℤ pos (count_by (leaves mount) seen)

-- the first packet, where there is one, else the later
abbrev pub first_of : Option Packet → Option Packet → Option Packet
first_of None later = later
first_of (Some packet) later = Some packet

-- the packet in the first Queued of a token
abbrev pub packet_of : ℕ → List Obs → Option Packet
packet_of token [] = None
packet_of token (obs ∷ later) = first_of (packet_in token obs) (packet_of token later)

-- the file system of a packet, where there is one
abbrev pub dev_of : Option Packet → Option ℕ
dev_of None = None
dev_of (Some packet) = Some packet.dev

-- the file system of a token
abbrev pub fs_of_token : ℕ → List Obs → Option ℕ
fs_of_token token seen = dev_of (packet_of token seen)

-- the token is open: it was queued, and then neither answered nor its file system made catatonic
pub record IsOpen (seen : List Obs) (token : ℕ) : Type 0 where
  pub before : List Obs
  pub attach : ℕ
  pub packet : Packet
  pub later : List Obs
  pub queued : seen ≡ before ++ Queued token attach packet ∷ later
  pub unanswered : (status : Status) → ¬ Contains later (Answered token status)
  pub not_catatonic : (fs : ℕ) → fs_of_token token seen ≡ Some fs → ¬ Contains later (Catatonic fs)

-- the packet asks to expire this trigger
pub record AsksToExpire (packet : Packet) (trigger : Trigger) : Type 0 where
  pub asks : token_kind packet.kind ≡ Expire
  pub is_its : trigger_of packet ≡ trigger

-- the trigger is expiring: a token that asks to expire it is open
pub record IsExpiring (seen : List Obs) (trigger : Trigger) : Type 0 where
  pub token : ℕ
  pub packet : Packet
  pub is_its : packet_of token seen ≡ Some packet
  pub asks : AsksToExpire packet trigger
  pub is_open : IsOpen seen token

-- no packet of the token was queued
abbrev pub NeverQueued : List Obs → ℕ → Type 0
NeverQueued seen token = (a : ℕ) (p : Packet) → ¬ Contains seen (Queued token a p)

-- a packet of the token was delivered
abbrev pub WasDelivered : List Obs → ℕ → Type 0
WasDelivered seen token = (a : ℕ) × (p : Packet) × Contains seen (Delivered token a p)

-- no packet of the token was delivered
abbrev pub NeverDelivered : List Obs → ℕ → Type 0
NeverDelivered seen token = (a : ℕ) (p : Packet) → ¬ Contains seen (Delivered token a p)

-- the packet waits in the queue: it was queued, and then neither delivered nor its file system
-- made catatonic
pub record IsQueued (seen : List Obs) (token attach : ℕ) (packet : Packet) : Type 0 where
  pub before : List Obs
  pub later : List Obs
  pub queued : seen ≡ before ++ Queued token attach packet ∷ later
  pub undelivered : (a : ℕ) (p : Packet) → ¬ Contains later (Delivered token a p)
  pub not_catatonic : ¬ Contains later (Catatonic packet.dev)

-- the walker is released from the token in the unbroken row of Released with which these
-- observations begin
pub record IsInRow (walker token : ℕ) (rest : List Obs) : Type 0 where
  pub row : List Obs
  pub others : List Obs
  pub splits : rest ≡ row ++ others
  pub unbroken : list_all is_released row ≡ true
  pub status : Status
  pub is_in : Contains row (Released walker token status)
