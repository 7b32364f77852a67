-- A walk that begins: it arrives, joins those that wait, or has the daemon notified
-- (autofs.rst, "Mount Traps" and "Communicating with autofs: the event pipe").
use Rattle.std.specs.Prelude.{ℕ, ◌+◌, ◌==◌, not, is_none, List, [], ◌∷◌, ◌++◌, filter, codes, Option, Some, None, if◌then◌else◌}
use Rattle.am_names.specs.declared.errno.Errno.TheVariants.{ENOENT, EINVAL, EAGAIN, ENOSPC}
use Rattle.am_names.specs.declared.trigger.Trigger.{Trigger}
use Rattle.am_names.specs.{PipeState, Position, TokenKind}
use Rattle.am_names.specs.declared.trigger.PipeState.TheVariants.{Room, Full, Gone}
use Rattle.am_names.specs.declared.row.TokenKind.TheVariants.{Missing}
use Rattle.am_wire.specs.{Packet, kind_of}
use Rattle.am_state.specs.declared.obs.Obs.TheVariants as seen
use Rattle.am_trigger.specs.{used, all_used}
use Rattle.am_wait.specs.{is_exhausted, is_full, opened, joined}
use Rattle.am_expire.specs.{entered}
use Rattle.am_walk.specs.{Stop, Walked, walk_of}
use Rattle.am_walk.specs.declared.stop.Stop.TheVariants as stops
use Rattle.am_kernel.specs.declared.row.WalkRow.{WalkRow}
use Rattle.am_kernel.specs.declared.progress.Attempt.{Attempt}
use Rattle.am_kernel.specs.declared.progress.Progress.TheVariants.{Arrived, Waits, Failed}
use Rattle.am_kernel.specs.State.{KernelState}
use Rattle.am_kernel.specs.Lookups.{scene_of, attach_of, is_busy}
use Rattle.am_kernel.specs.CallOutcome.{CallOutcome, Proceeds, Fails, moment_of, at_moment}
use Rattle.am_kernel.specs.Observations.{passes}
use Rattle.am_kernel.specs.Catatonic.{catatonic_observations, made_catatonic}

-- the walk of a walker that waits
abbrev pub walk_row : Attempt → WalkRow
walk_row attempt =
    record { walker = attempt.walker; ns = attempt.ns; path = attempt.path; attempts = attempt.attempts }

-- the walk of this walker is over
abbrev pub without_walk : ℕ → List WalkRow → List WalkRow
without_walk walker walks = filter (λ row. not (row.walker == walker)) walks

-- it is the last one
abbrev pub with_walk : Attempt → List WalkRow → List WalkRow
with_walk attempt walks = without_walk attempt.walker walks ++ walk_row attempt ∷ []

-- the walker is inside the mount, and the triggers that it passed were used
abbrev pub arrived : Attempt → ℕ → List Trigger → KernelState → KernelState
arrived attempt mount passed k = record k {
  triggers = all_used passed attempt.moment k.triggers;
  uses = entered attempt.walker mount k.uses;
}

-- the walk arrives, and what it passed is seen
abbrev pub arrives : KernelState → Attempt → Position → List Trigger → CallOutcome
arrives k attempt at passed =
    Proceeds (Arrived at) (passes attempt.walker passed ++ seen.Entered attempt.walker at.mount ∷ [])
    (arrived attempt at.mount passed k)

-- the walker waits on an open token too
abbrev pub with_joined : Attempt → ℕ → List Trigger → KernelState → KernelState
with_joined attempt token passed k = record k {
  triggers = all_used passed attempt.moment k.triggers;
  waits = joined token attempt.walker k.waits;
  walks = with_walk attempt k.walks;
}

-- joining tests the limit of waits alone
abbrev pub joins : KernelState → Attempt → ℕ → List Trigger → CallOutcome
joins k attempt token passed =
    if is_full k.waits then Fails ENOSPC
    else Proceeds (Waits token) (passes attempt.walker passed ++ seen.Waits attempt.walker token ∷ [])
    (with_joined attempt token passed k)

-- the name in a packet; own choice (docs/DECISIONS.md, "Packets"): `direct` where the trigger has
-- none
abbrev pub packet_name : Option (List ℕ) → List ℕ
packet_name (Some name) = name
packet_name None = codes "direct"

-- the packet for a token (auto_fs.h, struct autofs_v5_packet); own choice (docs/DECISIONS.md,
-- "Packets"): the numbers of the file system, of its root and of the walker
abbrev pub packet_for : TokenKind → ℕ → ℕ → Trigger → Packet
packet_for kind token walker trigger = record {
  kind = kind_of kind (is_none trigger.name);
  token = token;
  dev = trigger.fs;
  ino = 1;
  uid = 0;
  gid = 0;
  pid = walker;
  tgid = walker;
  name = packet_name trigger.name;
}

-- a token is opened for the trigger, its packet is queued, and the walker waits on it
abbrev pub with_notified : Attempt → Trigger → ℕ → List Trigger → KernelState → KernelState
with_notified attempt trigger attach passed k =
    let token = k.waits.last_token + 1 in
    let packet = packet_for Missing token attempt.walker trigger in
    record k {
      triggers = used trigger attempt.moment (all_used passed attempt.moment k.triggers);
      waits = opened trigger Missing attempt.walker k.waits;
      walks = with_walk attempt k.walks;
      queue = k.queue ++ (record { token = token; attach = attach; packet = packet }) ∷ [];
    }

-- the daemon is notified, and what the walk passed is seen
abbrev pub notified : KernelState → Attempt → Trigger → ℕ → List Trigger → CallOutcome
notified k attempt trigger attach passed =
    let token = k.waits.last_token + 1 in
    let packet = packet_for Missing token attempt.walker trigger in
    Proceeds (Waits token)
    (passes attempt.walker passed ++
    seen.Queued token attach packet ∷ seen.Waits attempt.walker token ∷ [])
    (with_notified attempt trigger attach passed k)

-- by what the pipe does with one more packet
abbrev pub notifies_by : PipeState → KernelState → Attempt → Trigger → ℕ → List Trigger → CallOutcome
notifies_by Room k attempt trigger attach passed = notified k attempt trigger attach passed
notifies_by Full k attempt trigger attach passed = Fails EAGAIN
notifies_by Gone k attempt trigger attach passed =
    Proceeds (Failed ENOENT) (catatonic_observations trigger.fs k) (made_catatonic trigger.fs k)

-- tokens are left, then waits, and then there is the pipe; without a daemon nobody is notified
abbrev pub notifies : Option ℕ → PipeState → KernelState → Attempt → Trigger → List Trigger → CallOutcome
notifies None pipe k attempt trigger passed = Fails ENOENT
notifies (Some attach) pipe k attempt trigger passed =
    if is_exhausted k.waits then Fails ENOSPC
    else if is_full k.waits then Fails ENOSPC
    else notifies_by pipe k attempt trigger attach passed

-- by how the walk along the path ends
abbrev pub attempted_by : Stop → PipeState → KernelState → Attempt → List Trigger → CallOutcome
attempted_by (stops.Arrive at) pipe k attempt passed = arrives k attempt at passed
attempted_by (stops.Block token) pipe k attempt passed = joins k attempt token passed
attempted_by (stops.Missing trigger) pipe k attempt passed =
    notifies (attach_of k trigger.fs) pipe k attempt trigger passed
attempted_by (stops.Refuse e) pipe k attempt passed = Fails e

-- by what the walk along the path comes to
abbrev pub attempted_with : Walked → PipeState → KernelState → Attempt → CallOutcome
attempted_with walked pipe k attempt = attempted_by walked.stop pipe k attempt walked.passed

-- a walk begins from the root of its namespace
abbrev pub attempted : PipeState → KernelState → Attempt → CallOutcome
attempted pipe k attempt = attempted_with (walk_of (scene_of k attempt.moment) attempt.ns attempt.path) pipe k attempt

-- the first walk of an idle walker
abbrev pub first_attempt : ℕ → ℕ → List (List ℕ) → ℕ → Attempt
first_attempt walker ns path now =
    record { walker = walker; ns = ns; path = path; attempts = 1; moment = now }

-- the walker is idle; and then it walks
abbrev pub walk_at : PipeState → KernelState → Attempt → CallOutcome
walk_at pipe k attempt = if is_busy k attempt.walker then Fails EINVAL else attempted pipe k attempt

-- by the moment of the event
abbrev pub walk_outcome : PipeState → KernelState → ℕ → ℕ → List (List ℕ) → ℕ → CallOutcome
walk_outcome pipe k walker ns path now =
    let moment = moment_of k now in
    at_moment moment (walk_at pipe k (first_attempt walker ns path moment))
