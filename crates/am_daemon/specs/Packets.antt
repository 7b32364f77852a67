-- What a packet asks for, and the plan for it (auto_fs.h, struct autofs_v5_packet).
use Rattle.std.specs.Prelude.{ℕ, Bool, true, false, List, Option, Some, None}
use Rattle.std.specs.Option.{option_map}
use Rattle.std.specs.Result.{result_ok}
use Rattle.am_names.specs.{name_read, TokenKind}
use Rattle.am_names.specs.declared.trigger.Trigger.{Trigger}
use Rattle.am_names.specs.declared.row.TokenKind.TheVariants.{Missing, Expire}
use Rattle.am_wire.specs.{Packet, is_indirect, token_kind}
use Rattle.am_state.specs.{Record}
use Rattle.am_state.specs.declared.daemon_row.Record.TheVariants.{Mounting, Mounted, Unmounting}
use Rattle.am_job.specs.{record_of, Plan, plan_for}
use Rattle.am_daemon.specs.Points.{entry_of}
use Rattle.am_daemon.specs.State.{DaemonState}

-- the name in the root of an indirect file system; of a direct one there is none
abbrev pub name_in : Bool → List ℕ → Option (List ℕ)
name_in true name = result_ok (name_read name)
name_in false name = None

-- the trigger of a packet: a name in the root of the file system, or the root itself
abbrev pub trigger_of : Packet → Trigger
trigger_of packet = record { fs = packet.dev; name = name_in (is_indirect packet.kind) packet.name }

-- what is mounted, where that is written down
abbrev pub mounted_in : Option Record → Option ℕ
mounted_in None = None
mounted_in (Some (Mounting token)) = None
mounted_in (Some (Mounted mount)) = Some mount
mounted_in (Some (Unmounting token mount)) = None

-- what the book says to be mounted on the trigger of a packet
abbrev pub mounted_for : DaemonState → Packet → Option ℕ
mounted_for d packet = mounted_in (record_of d.book (trigger_of packet))

-- the plan for a packet: by what it asks for, by the book and by the entry of its trigger
abbrev pub plan_of_packet : DaemonState → Packet → Plan
plan_of_packet d packet =
    plan_for (token_kind packet.kind) (trigger_of packet) (mounted_for d packet)
    (entry_of d (trigger_of packet))

-- what the book says of the trigger while the job goes on
abbrev pub pending : TokenKind → ℕ → Option ℕ → Option Record
pending Missing token mounted = Some (Mounting token)
pending Expire token mounted = option_map (λ mount. Unmounting token mount) mounted

-- what the book says of the trigger of a packet while its job goes on
abbrev pub pending_of : DaemonState → Packet → Option Record
pending_of d packet = pending (token_kind packet.kind) packet.token (mounted_for d packet)

-- the daemon mounts or unmounts here
abbrev pub is_pending : Option Record → Bool
is_pending None = false
is_pending (Some (Mounting token)) = true
is_pending (Some (Mounted mount)) = false
is_pending (Some (Unmounting token mount)) = true
