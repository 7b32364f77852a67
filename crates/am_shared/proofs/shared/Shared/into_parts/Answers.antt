use Rattle.std.proofs.Common.{◌∙◌, ap, subst}
use Rattle.am_shared.specs.{IsShared}
use Rattle.am_shared.specs.Sharing.{Sharing}
use Rattle.am_shared.proofs.shared.Shared.into_parts.Goals as goal

pub returns-clause-shared : goal.returns-clause-shared
returns-clause-shared c = subst (λ (s : Sharing). IsShared s) c.self.view_is (record {
  kept = c.self.invariant.0;
  lawful = c.trace.ensures.lawful;
  tells = c.trace.ensures.tells;
  reached = c.trace.ensures.reached;
  agree = c.trace.ensures.agree;
  in_step = c.trace.ensures.in_step;
})

pub returns-clause-count : goal.returns-clause-count
returns-clause-count c = c.self.invariant.1.0 ∙ ap (λ (s : Sharing). s.taken) c.self.view_is
