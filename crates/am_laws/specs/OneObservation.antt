-- Tests of one observation, and of what it holds (packets: auto_fs.h, struct autofs_v5_packet; the
-- observations are own choice).
use Rattle.std.specs.Prelude.{ℕ, ◌==◌, Bool, true, false, ◌&&◌, List, Option, None, Some, if◌then◌else◌}
use Rattle.std.specs.Str.{bytes_eq}
use Rattle.am_names.specs.{fail_number, same_trigger, Status, TokenKind}
use Rattle.am_names.specs.declared.fail_no.FailNo.TheVariants.{ENOENT}
use Rattle.am_names.specs.declared.trigger.Status.TheVariants.{Ready, Fail}
use Rattle.am_names.specs.declared.trigger.Trigger.{Trigger}
use Rattle.am_names.specs.declared.row.TokenKind.TheVariants.{Missing, Expire}
use Rattle.am_wire.specs.{kind_number, is_indirect, token_kind, Packet}
use Rattle.am_state.specs.{Obs}
use Rattle.am_state.specs.declared.obs.Obs.TheVariants.{Queued, Waits, Answered, Catatonic, Released, Entered, Left, Delivered}

-- ---- what a packet is about

-- the name of a packet's trigger: none for the root of a direct file system
abbrev pub trigger_name : Packet → Option (List ℕ)
trigger_name packet = if is_indirect packet.kind then Some packet.name else None

-- the trigger that a packet is about: its file system, and its name
abbrev pub trigger_of : Packet → Trigger
trigger_of packet = record { fs = packet.dev; name = trigger_name packet }

-- the token is one of an expiry
abbrev pub is_expire : TokenKind → Bool
is_expire Missing = false
is_expire Expire = true

-- the packet asks to expire this trigger
abbrev pub expires : Trigger → Packet → Bool
expires trigger packet = is_expire (token_kind packet.kind) && same_trigger (trigger_of packet) trigger

-- the same in each field
abbrev pub is_same_packet : Packet → Packet → Bool
is_same_packet p q =
    kind_number p.kind == kind_number q.kind && p.token == q.token && p.dev == q.dev
    && p.ino == q.ino && p.uid == q.uid && p.gid == q.gid && p.pid == q.pid && p.tgid == q.tgid
    && bytes_eq p.name q.name

-- the status with which catatonic mode releases: Fail ENOENT alone
abbrev pub is_no_entry_fail : Status → Bool
is_no_entry_fail (Fail ENOENT) = true
is_no_entry_fail _ = false

-- both are Ready, or both are Fail with the same error
abbrev pub is_same_status : Status → Status → Bool
is_same_status Ready Ready = true
is_same_status Ready (Fail b) = false
is_same_status (Fail a) Ready = false
is_same_status (Fail a) (Fail b) = fail_number a == fail_number b

-- the file system is known, and this one
abbrev pub is_fs : Option ℕ → ℕ → Bool
is_fs None fs = false
is_fs (Some known) fs = known == fs

-- ---- what an observation is

-- a packet is queued
abbrev pub is_queued : Obs → Bool
is_queued (Queued token attach packet) = true
is_queued _ = false

-- a waiter is released
abbrev pub is_released : Obs → Bool
is_released (Released walker token status) = true
is_released _ = false

-- the packet in a Queued of this token
abbrev pub packet_in : ℕ → Obs → Option Packet
packet_in token (Queued other attach packet) = if other == token then Some packet else None
packet_in token _ = None

-- Queued of this token
abbrev pub queues : ℕ → Obs → Bool
queues token (Queued other attach packet) = other == token
queues token _ = false

-- the very Queued of this token, attachment and packet
abbrev pub queues_as : ℕ → ℕ → Packet → Obs → Bool
queues_as token attach packet (Queued k a p) = k == token && a == attach && is_same_packet p packet
queues_as token attach packet _ = false

-- Waits of this walker on this token
abbrev pub waits : ℕ → ℕ → Obs → Bool
waits walker token (Waits w k) = w == walker && k == token
waits walker token _ = false

-- Delivered of this token
abbrev pub delivers : ℕ → Obs → Bool
delivers token (Delivered other attach packet) = other == token
delivers token _ = false

-- Released of this walker from this token
abbrev pub releases : ℕ → ℕ → Obs → Bool
releases walker token (Released w k status) = w == walker && k == token
releases walker token _ = false

-- what closes a token of this file system: an answer to it, or catatonic mode
abbrev pub closes : ℕ → Option ℕ → Obs → Bool
closes token fs (Answered other status) = other == token
closes token fs (Catatonic other) = is_fs fs other
closes token fs _ = false

-- What closes a token of this file system and gives its waiters this status: that of the
-- answer, or Fail ENOENT.
abbrev pub closes_as : ℕ → Option ℕ → Status → Obs → Bool
closes_as token fs status (Answered k s) = k == token && is_same_status s status
closes_as token fs status (Catatonic f) = is_fs fs f && is_no_entry_fail status
closes_as token fs status _ = false

-- what takes a token's packet out of the queue: its delivery, or catatonic mode
abbrev pub unqueues : ℕ → ℕ → Obs → Bool
unqueues token fs (Delivered other attach packet) = other == token
unqueues token fs (Catatonic other) = other == fs
unqueues token fs _ = false

-- Entered of this mount
abbrev pub enters : ℕ → Obs → Bool
enters mount (Entered walker other) = other == mount
enters mount _ = false

-- Left of this mount
abbrev pub leaves : ℕ → Obs → Bool
leaves mount (Left walker other) = other == mount
leaves mount _ = false
