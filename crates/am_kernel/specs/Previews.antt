-- What calls would answer, for whoever keeps a copy of the answer and has to make it first: own
-- choice (docs/DECISIONS.md, "Answers are made twice").
use Rattle.std.specs.Prelude.{ℕ, List, Option, Some, None}
use Rattle.am_names.specs.{Position}
use Rattle.am_walk.specs.{Stop, walk_of}
use Rattle.am_walk.specs.declared.stop.Stop.TheVariants as stops
use Rattle.am_kernel.specs.declared.row.WalkRow.{WalkRow}
use Rattle.am_kernel.specs.State.{KernelState}
use Rattle.am_kernel.specs.CallOutcome.{moment_of}
use Rattle.am_kernel.specs.Lookups.{scene_of}
use Rattle.am_kernel.specs.Resumes.{walk_in}

-- the position at which a walk has arrived that stops so
abbrev pub arrived_at : Stop → Option Position
arrived_at (stops.Arrive at) = Some at
arrived_at (stops.Block token) = None
arrived_at (stops.Missing trigger) = None
arrived_at (stops.Refuse errno) = None

-- the position at which a walk along the path would arrive now, if it would
abbrev pub arrival_of : KernelState → ℕ → List (List ℕ) → ℕ → Option Position
arrival_of k ns path now =
    arrived_at (walk_of (scene_of k (moment_of k now)) ns path).stop

-- the position at which the walk would arrive now, if there is one
abbrev pub arrival_in : KernelState → Option WalkRow → ℕ → Option Position
arrival_in k None now = None
arrival_in k (Some row) now = arrival_of k row.ns row.path now

-- the same of a walker that waits, as its walk begins again
abbrev pub arrival_again_of : KernelState → ℕ → ℕ → Option Position
arrival_again_of k walker now = arrival_in k (walk_in k.walks walker) now
