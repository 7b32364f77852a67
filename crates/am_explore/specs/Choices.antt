-- What may come next in a scene: own choice (docs/DECISIONS.md, "All orders of a scene").
use Rattle.std.specs.Prelude.{ℕ, ◌+◌, List, [], ◌∷◌, ◌++◌, Option, Some, None, map, drop}
use Rattle.std.specs.List.{flat_map}
use Rattle.am_names.specs.declared.fail_no.FailNo.{FailNo}
use Rattle.am_state.specs.{QueuedRow}
use Rattle.am_kernel.specs.{KernelState}
use Rattle.am_daemon.specs.{DaemonState, JobPlan}
use Rattle.am_machine.specs.{Event}
use Rattle.am_machine.specs.declared.event.Event.TheVariants as events
use Rattle.am_explore.specs.declared.choice.Choice.{Choice}
use Rattle.am_explore.specs.declared.choice.Who.TheVariants as who
use Rattle.am_explore.specs.declared.scene.Scene.{Scene}
use Rattle.am_explore.specs.declared.scene.Service.{Service}
use Rattle.am_explore.specs.Standings.{Standing}

-- the next of these events, which are left of the thread of this number
abbrev pub next_of : ℕ → List Event → List Choice
next_of n [] = []
next_of n (event ∷ later) = record { who = who.Thread n; event = event } ∷ []

-- the next event of each thread from this number on
abbrev pub thread_choices : ℕ → List (List Event) → List Standing → List Choice
thread_choices n (events ∷ threads) (s ∷ standings) = next_of n (drop s.next events)
    ++ thread_choices (n + 1) threads standings
thread_choices n [] standings = []
thread_choices n threads [] = []

-- the daemon takes this packet from the pipe
abbrev pub delivery : QueuedRow → Choice
delivery row = record { who = who.Daemon; event = events.Deliver row.token None }

-- the daemon takes any packet that is queued
abbrev pub deliveries : List QueuedRow → List Choice
deliveries queue = map delivery queue

-- the next act of the job of this number comes out so
abbrev pub act_so : ℕ → Option FailNo → Choice
act_so job failure = record { who = who.Daemon; event = events.Act job failure }

-- it comes out in any of these ways
abbrev pub acts_of : List (Option FailNo) → JobPlan → List Choice
acts_of results job = map (act_so job.token) results

-- the same of each job
abbrev pub acts : List (Option FailNo) → List JobPlan → List Choice
acts results jobs = flat_map (acts_of results) jobs

-- what the daemon may do, if it serves
abbrev pub daemon_choices : Option Service → KernelState → DaemonState → List Choice
daemon_choices None k d = []
daemon_choices (Some service) k d = deliveries k.queue ++ acts service.results.items d.jobs

-- Threads first, then packets, then jobs. It reads both halves, and where each thread stands; never
-- the trace.
abbrev pub choices_of : Scene → KernelState → DaemonState → List Standing → List Choice
choices_of scene k d standings = thread_choices 0 scene.threads.items standings ++ daemon_choices scene.daemon k d
