use Rattle.std.proofs.Common.{◌==◌, List, slice_get, sym, ap, ◌∙◌}
use Rattle.std.specs.Option.{option_copied}
use Rattle.am_job.specs.{JobState}
use Rattle.am_daemon.proofs.JobTableLemmas.{none_found, one_found, copied_is}
use Rattle.am_daemon.proofs.job_table.JobTable.get.Goals as goal

pub returns-in_err-place : goal.returns-in_err-place
returns-in_err-place c =
    ap option_copied c.from_residual.ensures
    ∙ sym (none_found (λ (row : JobState). row.token == c.args.job) c.args.self.now.rows (sym c.place_of.ensures ∙ c.in_err-place.was))

pub returns : goal.returns
returns c =
    copied_is c.as_slice.result.now c.in_ok-place.place c.get.result c.get.ensures.lookup
    ∙ ap (λ (rows : List JobState). slice_get rows c.in_ok-place.place) c.as_slice.ensures
    ∙ one_found (λ (row : JobState). row.token == c.args.job) c.args.self.now.rows c.in_ok-place.place (sym c.place_of.ensures ∙ c.in_ok-place.was)
