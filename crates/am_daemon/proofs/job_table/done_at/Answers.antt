use Rattle.std.proofs.Common.{◌≡◌, map, set, get_or, sym, ap, ◌∙◌}
use Rattle.std.proofs.lemmas.List.{map-set, get_or-map}
use Rattle.am_daemon.specs.{job_plan, walked}
use Rattle.am_daemon.proofs.JobLemmas.{walked_is}
use Rattle.am_daemon.proofs.job_table.done_at.Goals as goal

pub returns-clause-rows : goal.returns-clause-rows
returns-clause-rows c d =
    let rows = c.args.jobs.now in
    let any = c.index-jobs-at.result in
    let stood : get_or (map job_plan rows) c.args.at d ≡ job_plan (get_or rows c.args.at any) = get_or-map job_plan rows c.args.at any d c.requires in
    map-set job_plan rows c.args.at c.done.new.self
    ∙ ap (set (map job_plan rows) c.args.at) (walked_is (get_or rows c.args.at any) c.done.new.self c.args.outcome c.done.ensures.plan c.done.ensures.kept ∙ ap (walked c.args.outcome) (sym stood))
