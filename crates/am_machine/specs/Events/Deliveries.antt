-- The daemon takes packets from the pipe (autofs.rst, "Communicating with autofs: the event pipe").
use Rattle.std.specs.Prelude.{ℕ, Bool, true, ◌&&◌, not, is_some, List, [], ◌∷◌, Option, Some, None, if◌then◌else◌}
use Rattle.std.specs.Str.{bytes_eq}
use Rattle.am_names.specs.declared.errno.Errno.TheVariants.{Stranger}
use Rattle.am_wire.specs.{fields_of, canonical}
use Rattle.am_state.specs.{QueuedRow, Obs}
use Rattle.am_state.specs.declared.obs.Obs.TheVariants as seen
use Rattle.am_kernel.specs.{queued_of, without_packet}
use Rattle.am_job.specs.{is_reply}
use Rattle.am_daemon.specs.{DaemonState, trigger_of, plan_of_packet, pending_of, delivery_fault, taken_up}
use Rattle.am_machine.specs.declared.answer.Answer.TheVariants as answers
use Rattle.am_machine.specs.State.{State}
use Rattle.am_machine.specs.EventOutcome.{EventOutcome, refused}

-- the bytes of a queued packet
abbrev pub packet_bytes : QueuedRow → List ℕ
packet_bytes row = canonical (fields_of row.packet)

-- the bytes that were read, where they are given, are those of the packet
abbrev pub has_bytes : Option (List ℕ) → QueuedRow → Bool
has_bytes None row = true
has_bytes (Some bytes) row = bytes_eq bytes (packet_bytes row)

-- what is handed in is the queued packet, and the daemon takes it up: it holds the attachment, and
-- it isn't at work on the trigger
abbrev pub may_take : State → QueuedRow → Option (List ℕ) → Bool
may_take s row bytes =
    has_bytes bytes row && not (is_some (delivery_fault row.attach row.packet s.daemon))

-- the book changes but where the job is a reply alone
abbrev pub recording : DaemonState → QueuedRow → List Obs
recording d row =
    if is_reply (plan_of_packet d row.packet) then []
    else seen.Recorded (trigger_of row.packet) (pending_of d row.packet) ∷ []

-- the packet leaves the pipe, and its job begins
abbrev pub takes : State → QueuedRow → EventOutcome
takes s row = record {
  answer = answers.Job row.packet.token;
  seen = seen.Delivered row.token row.attach row.packet ∷ recording s.daemon row;
  state = record s {
    kernel = without_packet row.token s.kernel;
    daemon = taken_up row.attach row.packet s.daemon;
  };
}

-- there is a packet of that token in the pipe
abbrev pub delivered_at : Option QueuedRow → State → Option (List ℕ) → EventOutcome
delivered_at None s bytes = refused s Stranger
delivered_at (Some row) s bytes = if may_take s row bytes then takes s row else refused s Stranger

-- the daemon takes the packet of the token
abbrev pub deliver_outcome : State → ℕ → Option (List ℕ) → EventOutcome
deliver_outcome s token bytes = delivered_at (queued_of s.kernel.queue token) s bytes
