-- Every run leaves kernel and daemon in step.
use Rattle.am_machine.specs.{initial_state_of, RunsAreInStep, RunsAreNeverBusy, RunsRefuseInStep}
use Rattle.am_machine.proofs.Consistent.{initial_consistent, run_consistent}
use Rattle.am_machine.proofs.Walks.Runs.{initial_named, run_named}
use Rattle.am_machine.proofs.Failures.Changes.{initial_mended, run_mended}
use Rattle.am_machine.proofs.InStep.States.{in_step, refuses_in_step}

pub runs_in_step : RunsAreInStep
runs_in_step opening events answers s along run =
    let old = initial_state_of opening in
    let named = initial_named opening in
    let consistent = initial_consistent opening in
    in_step s (run_consistent old events answers s run consistent) (run_named old events answers s run along named)
    (run_mended old events answers s run along (record { consistent = consistent; walks = named }) (initial_mended opening))

pub runs_never_busy : RunsAreNeverBusy
runs_never_busy opening events answers s along run = (runs_in_step opening events answers s along run).free

pub runs_refuse : RunsRefuseInStep
runs_refuse opening events answers s along run = refuses_in_step s (runs_in_step opening events answers s along run)
