-- What a trace tells of a world (own choice).
use Rattle.std.specs.Prelude.{◌≡◌, ◌==◌, ◌&&◌, ℕ, not, filter, List, [], ◌∷◌, ◌++◌, Option, Some, None, if◌then◌else◌}
use Rattle.am_names.specs.{is_among, Status, WaitRow}
use Rattle.am_state.specs.{QueuedRow, Obs}
use Rattle.am_state.specs.declared.obs.Obs.TheVariants.{Mounted, Unmounted, Entered, Left, Queued, Delivered, Catatonic, Released}
use Rattle.am_propagate.specs.{all_mounts}
use Rattle.am_wait.specs.{WaitRows, wait_of}
use Rattle.am_expire.specs.{Use, entered, left}
use Rattle.am_kernel.specs.{KernelState}
use Rattle.am_machine.specs.State.{State}
use Rattle.am_machine.specs.Invariant.Traces.{FitsTrace, rows_in}

-- ---- mounts, who is inside of them, and the pipes

-- the numbers of the mounts that there are, who is inside which, and the packets that are in pipes
pub record There : Type 0 where
  pub mounts : List ℕ
  pub uses : List Use
  pub pipe : List QueuedRow

-- what there is once this was seen
abbrev pub then_told : Obs → There → There
then_told (Mounted mounts) t = record t { mounts = t.mounts ++ mounts }
then_told (Unmounted mounts) t = record t { mounts = filter (λ m. not (is_among mounts m)) t.mounts }
then_told (Entered walker mount) t = record t { uses = entered walker mount t.uses }
then_told (Left walker mount) t = record t { uses = left walker t.uses }
then_told (Queued token attach packet) t =
    record t { pipe = t.pipe ++ (record { token = token; attach = attach; packet = packet }) ∷ [] }
then_told (Delivered token attach packet) t =
    record t { pipe = filter (λ row. not (row.token == token)) t.pipe }
then_told (Catatonic fs) t = record t { pipe = filter (λ row. not (row.packet.dev == fs)) t.pipe }
then_told _ t = t

-- what there is once all of these were seen, in order
abbrev pub told_from : There → List Obs → There
told_from t [] = t
told_from t (o ∷ later) = told_from (then_told o t) later

-- in the beginning there is mount 1
abbrev pub told : List Obs → There
told trace = told_from (record { mounts = 1 ∷ []; uses = []; pipe = [] }) trace

-- what there is in the kernel
abbrev pub told_in : KernelState → There
told_in k = record { mounts = all_mounts k.table; uses = k.uses; pipe = k.queue }

-- ---- statuses

-- with what status the walker was released from the token, if it was
abbrev pub told_status : ℕ → ℕ → List Obs → Option Status
told_status walker token [] = None
told_status walker token (Released other from status ∷ later) =
    if other == walker && from == token then Some status else told_status walker token later
told_status walker token (_ ∷ later) = told_status walker token later

-- each wait has the status with which its walker was released, or none yet
abbrev pub AgreeOnStatuses : WaitRows → List Obs → Type 0
AgreeOnStatuses w trace = (walker : ℕ) (row : WaitRow) → wait_of w.waits walker ≡ Some row →
    row.status ≡ told_status walker row.token trace

-- ---- all of it

-- The world is what its trace tells: the tokens, waits, packets and jobs; the mounts that were mounted and
-- not unmounted, beside mount 1; who entered which and hasn't left; what was queued and is in a pipe still;
-- and the status with which each waiter was released.
pub record IsTold (s : State) : Type 0 where
  pub rows : FitsTrace (rows_in s) s.trace
  pub there : told_in s.kernel ≡ told s.trace
  pub statuses : AgreeOnStatuses s.kernel.waits s.trace
