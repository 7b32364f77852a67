-- The daemon takes a packet from the pipe (autofs.rst, "Communicating with autofs: the event
-- pipe").
use Rattle.std.specs.Prelude.{◌≡◌, ℕ, ◌==◌, Bool, ◌||◌, not, is_some, List, [], ◌∷◌, ◌++◌, Option, Some, None, Result, Ok, Err, find, if◌then◌else◌}
use Rattle.am_names.specs.declared.trigger.Trigger.{Trigger}
use Rattle.am_wire.specs.{WireFault, Packet, IsPacket, FailsFirst, fields_of}
use Rattle.am_state.specs.{Record, RecordRow}
use Rattle.am_job.specs.{record_of, recorded, Plan, is_reply}
use Rattle.am_daemon.specs.declared.fault.DaemonFault.{DaemonFault}
use Rattle.am_daemon.specs.declared.fault.DaemonFault.TheVariants.{Wire, UnknownFs, OldAttach, Busy}
use Rattle.am_daemon.specs.Attachments.{knows, holds}
use Rattle.am_daemon.specs.Faults.{FaultsAs}
use Rattle.am_daemon.specs.Packets.{trigger_of, plan_of_packet, pending_of, is_pending}
use Rattle.am_daemon.specs.State.{DaemonState, JobPlan}

-- the job of this token
abbrev pub job_of : List JobPlan → ℕ → Option JobPlan
job_of jobs job = find (λ row. row.token == job) jobs

-- the trigger is being mounted or unmounted, or a job of this token has not ended
abbrev pub is_busy : DaemonState → Packet → Bool
is_busy d packet =
    is_pending (record_of d.book (trigger_of packet)) || is_some (job_of d.jobs packet.token)

-- the tests of a packet: the file system is known, the attachment is held, nothing goes on there
abbrev pub delivery_fault : ℕ → Packet → DaemonState → Option DaemonFault
delivery_fault attach packet d =
    if not (knows d packet.dev) then Some UnknownFs
    else if not (holds d packet.dev attach) then Some OldAttach
    else if is_busy d packet then Some Busy
    else None

-- the book says so before the job begins, but it stays where the job only acknowledges
abbrev pub told : Plan → Trigger → Option Record → List RecordRow → List RecordRow
told plan trigger entry book = if is_reply plan then book else recorded trigger entry book

-- the job of a packet
abbrev pub job_for : ℕ → Packet → DaemonState → JobPlan
job_for attach packet d =
    record {
      token = packet.token;
      attach = attach;
      trigger = trigger_of packet;
      plan = plan_of_packet d packet;
    }

-- a job begins, the last, and the book says so
abbrev pub taken_up : ℕ → Packet → DaemonState → DaemonState
taken_up attach packet d =
    record d {
      book = told (plan_of_packet d packet) (trigger_of packet) (pending_of d packet) d.book;
      jobs = d.jobs ++ job_for attach packet d ∷ [];
    }

-- ---- bytes

-- what bytes are read as: a packet, or the first test that they fail
abbrev pub IsReadAs : Result Packet WireFault → List ℕ → Type 0
IsReadAs (Ok packet) bytes = IsPacket (fields_of packet) bytes
IsReadAs (Err fault) bytes = FailsFirst fault bytes

-- the bytes are tested first, and then the packet
abbrev pub reading_fault : ℕ → Result Packet WireFault → DaemonState → Option DaemonFault
reading_fault attach (Ok packet) d = delivery_fault attach packet d
reading_fault attach (Err fault) d = Some (Wire fault)

-- a job of the packet's token has begun, or nothing has changed
abbrev pub IsTakenUp : ℕ → Result Packet WireFault → DaemonState → Result ℕ DaemonFault →
    DaemonState → Type 0
IsTakenUp attach (Ok packet) old (Ok job) new =
    (job ≡ packet.token) × (new ≡ taken_up attach packet old)
IsTakenUp attach (Err fault) old (Ok job) new = ⊥
IsTakenUp attach read old (Err fault) new = new ≡ old

-- what comes of bytes
pub record IsDelivered (attach : ℕ) (bytes : List ℕ) (old : DaemonState)
    (outcome : Result ℕ DaemonFault) (new : DaemonState) : Type 0 where
  pub read : Result Packet WireFault
  pub is_read : IsReadAs read bytes
  pub fault : FaultsAs (reading_fault attach read old) outcome
  pub left : IsTakenUp attach read old outcome new
