-- A job that acts: its plan, its token and its trigger.
use Rattle.std.proofs.Common.{◌≡◌, ℕ, true, Some, sym, subst}
use Rattle.std.specs.Prelude.{◌==◌}
use Rattle.am_names.specs.{OpenToken}
use Rattle.am_names.proofs.Basics.{equal_by_test, found_passes}
use Rattle.am_kernel.specs.{attach_of, is_current}
use Rattle.am_daemon.specs.{JobPlan, holds, job_of}
use Rattle.am_machine.specs.State.{State}
use Rattle.am_machine.specs.{IsPlanned, HasToken}
use Rattle.am_machine.proofs.Lists.Different.{all_found}
use Rattle.am_machine.proofs.Attachments.Current.{current_from_attach}
use Rattle.am_machine.proofs.Agreement.Tokens.{token_named, token_at_work}
use Rattle.am_progress.proofs.Triggers.Walks.{IsSite}
use Rattle.am_progress.proofs.Plans.{IsOfPlan}
use Rattle.am_progress.proofs.Worlds.{IsWorld}

-- ---- a job that acts

-- a job under the attachment that the daemon holds, in a world
pub record Acting (s : State) (number : ℕ) (row : JobPlan) : Type 0 where
  pub world : IsWorld s
  pub is_job : job_of s.daemon.jobs number ≡ Some row
  pub current : attach_of s.kernel row.trigger.fs ≡ Some row.attach
  pub held : holds s.daemon row.trigger.fs row.attach ≡ true

module _ (s : State) (number : ℕ) (row : JobPlan) (w : Acting s number row) where
  pub job_number : row.token ≡ number
  job_number = equal_by_test row.token number (found_passes (λ (r : JobPlan). r.token == number) s.daemon.jobs row w.is_job)

  pub its_plan : IsPlanned row
  its_plan = all_found IsPlanned (λ (r : JobPlan). r.token == number) s.daemon.jobs row w.world.consistent.agreed.planned w.is_job

  pub its_acts : IsOfPlan row
  its_acts = all_found IsOfPlan (λ (r : JobPlan). r.token == number) s.daemon.jobs row w.world.holds.plans w.is_job

  pub its_token : HasToken s.kernel row
  its_token = token_at_work s.kernel s.daemon w.world.consistent.agreed.tokens number row w.is_job w.current

  pub on_its_token : row.trigger ≡ its_token.token.trigger
  on_its_token = its_token.trigger (token_named s.kernel w.world.named row.token its_token.token its_token.is_open)

  -- its trigger is there
  pub its_site : IsSite s.kernel.triggers row.trigger
  its_site =
      subst (IsSite s.kernel.triggers) (sym on_its_token)
      (all_found (λ (r : OpenToken). IsSite s.kernel.triggers r.trigger) (λ (r : OpenToken). r.token == row.token) s.kernel.waits.tokens its_token.token w.world.holds.kernel.tokens its_token.is_open)

  pub its_current : is_current s.kernel row.trigger.fs row.attach ≡ true
  its_current = current_from_attach s.kernel row.trigger.fs row.attach w.current
