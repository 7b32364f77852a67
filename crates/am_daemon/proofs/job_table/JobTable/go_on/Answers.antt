use Rattle.std.proofs.Common.{◌≡◌, ◌==◌, false, cond, List, ℕ, Some, None, map, slice_get, sym, ap, subst, ◌∙◌, arith}
use Rattle.std.specs.Prelude.{drop, position, remove}
use Rattle.am_job.specs.{JobState}
use Rattle.am_daemon.specs.{JobRows, JobPlan, IsSingle, job_plan, finished_in, is_among, tokens_of}
use Rattle.am_daemon.proofs.JobLemmas.{position_mapped, finished_in-none, stands_at, remove_mapped, no_job}
use Rattle.am_daemon.proofs.JobTableLemmas.{among_removed, single_removed, found_token, places_alike, tokens_removed, tokens_stay}
use Rattle.am_daemon.proofs.job_table.JobTable.go_on.Goals as goal

pub returns-in_default : goal.returns-in_default
returns-in_default c =
    let rows = c.args.self.now.rows in
    let none : position (λ (row : JobPlan). row.token == c.args.job) (map job_plan rows) ≡ None =
    sym (position_mapped job_plan (λ (row : JobPlan). row.token == c.args.job) rows) ∙ sym c.place_of.ensures ∙ c.in_default.is in
    finished_in-none (map job_plan rows) c.args.job c.args.outcome none

pub invariant_of-self : goal.invariant_of-self
invariant_of-self c =
    let at = c.in-Some.at in
    let rows : List JobState = drop c.self.inside.over c.self.inside.rows.items in
    let walked : List JobState = drop c.self.inside.over c.walk_at.new.rows.items in
    let place : position (λ (row : JobState). row.token == c.args.job) rows ≡ Some at =
    ap (λ (t : JobRows). position (λ (row : JobState). row.token == c.args.job) t.rows) c.self.view_is ∙ sym c.place_of.ensures ∙ c.in-Some.is in
    let there : slice_get (tokens_of rows) at ≡ Some c.args.job = found_token c.args.job at (tokens_of rows) (sym (places_alike c.args.job rows) ∙ place) in
    let left : tokens_of (drop c.take_at.new.over c.take_at.new.rows.items) ≡ remove (tokens_of rows) at =
    ap tokens_of c.take_at.ensures.rows ∙ tokens_removed walked at ∙ ap (λ (tokens : List ℕ). remove tokens at) (tokens_stay rows walked at c.args.outcome no_job (c.walk_at.ensures.rows no_job)) in
    record {
      within = c.take_at.ensures.within;
      single = subst IsSingle (sym left) (single_removed at (tokens_of rows) c.self.invariant.single);
      known = λ q. c.take_turn.ensures q
          ∙ ap (cond (c.args.job == q) false) (c.self.invariant.known q)
          ∙ sym (among_removed c.args.job q at (tokens_of rows) c.self.invariant.single there)
          ∙ ap (is_among q) (sym left);
    }

pub invariant_of-self-else-walk_at : goal.invariant_of-self-else-walk_at
invariant_of-self-else-walk_at c =
    let rows : List JobState = drop c.self.inside.over c.self.inside.rows.items in
    let walked : List JobState = drop c.self.inside.over c.walk_at.new.rows.items in
    let stay : tokens_of walked ≡ tokens_of rows = tokens_stay rows walked c.in-Some.at c.args.outcome no_job (c.walk_at.ensures.rows no_job) in
    record {
      within = omega (arith, c.self.invariant.within, c.walk_at.ensures.len);
      single = subst IsSingle (sym stay) c.self.invariant.single;
      known = λ q. c.self.invariant.known q ∙ ap (is_among q) (sym stay);
    }

pub returns-then-walk_at : goal.returns-then-walk_at
returns-then-walk_at c =
    let at = c.in-Some.at in
    let rows : List JobState = drop c.self.inside.over c.self.inside.rows.items in
    let walked : List JobState = drop c.self.inside.over c.walk_at.new.rows.items in
    let place : position (λ (row : JobPlan). row.token == c.args.job) (map job_plan rows) ≡ Some at =
    sym (position_mapped job_plan (λ (row : JobPlan). row.token == c.args.job) rows)
    ∙ ap (λ (t : JobRows). position (λ (row : JobState). row.token == c.args.job) t.rows) c.self.view_is
    ∙ sym c.place_of.ensures
    ∙ c.in-Some.is in
    ap (map job_plan) c.take_at.ensures.rows
    ∙ remove_mapped job_plan walked at
    ∙ ap (λ (jobs : List JobPlan). remove jobs at) (c.walk_at.ensures.rows no_job)
    ∙ (stands_at (map job_plan rows) c.args.job at no_job place).ends c.args.outcome (sym (c.walk_at.ensures.ended no_job) ∙ c.if-walk_at.true)
    ∙ ap (λ (t : JobRows). finished_in c.args.job c.args.outcome (map job_plan t.rows)) c.self.view_is

pub returns-else-walk_at : goal.returns-else-walk_at
returns-else-walk_at c =
    let at = c.in-Some.at in
    let rows : List JobState = drop c.self.inside.over c.self.inside.rows.items in
    let place : position (λ (row : JobPlan). row.token == c.args.job) (map job_plan rows) ≡ Some at =
    sym (position_mapped job_plan (λ (row : JobPlan). row.token == c.args.job) rows)
    ∙ ap (λ (t : JobRows). position (λ (row : JobState). row.token == c.args.job) t.rows) c.self.view_is
    ∙ sym c.place_of.ensures
    ∙ c.in-Some.is in
    c.walk_at.ensures.rows no_job
    ∙ (stands_at (map job_plan rows) c.args.job at no_job place).stays c.args.outcome (sym (c.walk_at.ensures.ended no_job) ∙ c.if-walk_at.false)
    ∙ ap (λ (t : JobRows). finished_in c.args.job c.args.outcome (map job_plan t.rows)) c.self.view_is
