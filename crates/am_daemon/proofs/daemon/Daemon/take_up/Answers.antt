use Rattle.std.proofs.Common.{map, sym, ap, ◌∙◌}
use Rattle.am_wire.specs.{token_kind}
use Rattle.am_job.proofs.PlanLemmas.{plan_records}
use Rattle.am_daemon.specs.{trigger_of, mounted_for, entry_of, job_plan, rows_of, DaemonTable}
use Rattle.am_daemon.proofs.DeliveryLemmas.{fresh_job}
use Rattle.am_daemon.proofs.daemon.Daemon.take_up.Goals as goal

pub begin-requires : goal.begin-requires
begin-requires c = record {
  fresh =
      fresh_job c.args.attach c.args.packet.now (rows_of c.args.self.now) c.self.inside.jobs.rows c.in_ok-job.job
      (ap (λ (t : DaemonTable). map job_plan t.jobs) c.self.view_is)
      c.in_ok-job.ensures
      (sym c.delivery_fault.ensures ∙ c.in_default.is);
}

pub returns-clause-records : goal.returns-clause-records
returns-clause-records c =
    let d = rows_of c.args.self.now in
    let packet = c.args.packet.now in
    plan_records (token_kind packet.kind) (trigger_of packet) (mounted_for d packet) (entry_of d (trigger_of packet))
