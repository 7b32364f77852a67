-- What a request comes to: what the call comes to that it names, and what is seen of it
-- (autofs.rst, "Communicating with autofs: root directory ioctls").
use Rattle.std.specs.Prelude.{◌≡◌, ◌+◌, List, [], Result, Ok, Err}
use Rattle.am_names.specs.{RefusedAs, RefusedOnlyAs}
use Rattle.am_names.specs.declared.errno.Errno.{Errno}
use Rattle.am_names.specs.declared.trigger.Status.TheVariants as status
use Rattle.am_state.specs.{Obs}
use Rattle.am_wire.specs.{Request}
use Rattle.am_wire.specs.declared.request.Request.TheVariants as requests
use Rattle.am_kernel.specs.declared.request.Granted.{Granted}
use Rattle.am_kernel.specs.declared.request.Granted.TheVariants.{Done, Progress, Attached}
use Rattle.am_kernel.specs.State.{KernelState}
use Rattle.am_kernel.specs.CallOutcome.{CallOutcome, IsAsBefore, HasCome, Yields}
use Rattle.am_kernel.specs.Requests.{answer_refusal, acknowledged, answering, timeout_refusal, with_timeout}
use Rattle.am_kernel.specs.Attachments.{pipe_refusal, with_pipe}
use Rattle.am_kernel.specs.Catatonic.{catatonic_refusal, catatonic_observations, made_catatonic}
use Rattle.am_kernel.specs.Expires.{expire_outcome}

-- this is granted, seen and left; a refusal leaves all as before
abbrev pub Gives : Granted → List Obs → KernelState → Result Granted Errno → KernelState
    → KernelState → List Obs → List Obs → Type 0
Gives granted shown made (Ok given) old new before after =
    (given ≡ granted) × HasCome shown made new before after
Gives granted shown made (Err e) old new before after = IsAsBefore old new before after

-- the same of an expiry, which tells how it goes on
abbrev pub Grants : CallOutcome → Result Granted Errno → KernelState → KernelState → List Obs → List Obs
    → Type 0
Grants outcome (Ok Done) old new before after = ⊥
Grants outcome (Ok (Progress progress)) old new before after = Yields outcome (Ok progress) old new before after
Grants outcome (Ok (Attached attach)) old new before after = ⊥
Grants outcome (Err e) old new before after = Yields outcome (Err e) old new before after

-- by the request: the tests that may refuse it, what it gives, what is seen of it, and what it
-- leaves
abbrev pub IsGranted : Request → Result Granted Errno → KernelState → KernelState → List Obs
    → List Obs → Type 0
IsGranted (requests.Ready attach token) result old new before after =
    RefusedAs (answer_refusal old attach token) result ×
    Gives Done (answering token status.Ready old) (acknowledged token status.Ready old)
    result old new before after
IsGranted (requests.Fail attach token error) result old new before after =
    RefusedAs (answer_refusal old attach token) result ×
    Gives Done (answering token (status.Fail error) old)
    (acknowledged token (status.Fail error) old) result old new before after
IsGranted (requests.Catatonic attach fs) result old new before after =
    RefusedAs (catatonic_refusal old attach fs) result ×
    Gives Done (catatonic_observations fs old) (made_catatonic fs old) result old new before after
IsGranted (requests.SetTimeout attach fs timeout) result old new before after =
    RefusedOnlyAs (timeout_refusal old attach fs) result ×
    Gives Done [] (with_timeout fs timeout old) result old new before after
IsGranted (requests.Expire walker fs now immediate pipe) result old new before after =
    Grants (expire_outcome pipe old walker fs now immediate) result old new before after
IsGranted (requests.SetPipe fs) result old new before after =
    RefusedOnlyAs (pipe_refusal old fs) result ×
    Gives (Attached (old.last_attach + 1)) [] (with_pipe fs old) result old new before after
