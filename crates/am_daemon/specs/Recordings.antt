-- What the daemon writes down as it takes up a packet (autofs.rst, "Communicating with autofs: the
-- event pipe"; docs/DECISIONS.md, "The daemon records before it replies").
use Rattle.std.specs.Prelude.{Option, Some, None, if◌then◌else◌}
use Rattle.am_wire.specs.{Packet}
use Rattle.am_job.specs.{is_reply}
use Rattle.am_daemon.specs.declared.acts.Writing.{Writing}
use Rattle.am_daemon.specs.Packets.{trigger_of, plan_of_packet, pending_of}
use Rattle.am_daemon.specs.State.{DaemonState}

-- the book stays where the job is a reply alone
abbrev pub recording_of : DaemonState → Packet → Option Writing
recording_of d packet =
    if is_reply (plan_of_packet d packet) then None
    else Some (record { trigger = trigger_of packet; entry = pending_of d packet })
