use Rattle.std.proofs.Common.{◌≡◌, ◌++◌, List, ap, append-nil, sym, subst, ◌∙◌}
use Rattle.am_state.specs.{Obs}
use Rattle.am_machine.specs.{IsReached}
use Rattle.am_machine.specs.State.{State}
use Rattle.am_world.specs.{table_of}
use Rattle.am_world.specs.Capacity.{state_of}
use Rattle.am_world.specs.Machine.{behind, whole_state}
use Rattle.am_world.proofs.TableLemmas.{state_is}
use Rattle.am_world.proofs.world.World.copy.Goals as goal

pub invariant_of-result : goal.invariant_of-result
invariant_of-result c =
    let old = c.self.inside in
    let gone : c.and.result.items ≡ old.handed.items =
    c.and.ensures ∙ ap (λ (seen : List Obs). old.handed.items ++ seen) c.new.ensures.items ∙ append-nil _ in
    let same : behind c.and.result.items (whole_state c.in_ok-copy.field-0) ≡ behind old.handed.items (whole_state old.machine) =
    λ i. behind (gone i) (c.in_ok-copy.ensures i) in
    record { reached = subst (λ (s : State). IsReached s) (sym same) c.self.invariant.reached }

pub returns-clause-state : goal.returns-clause-state
returns-clause-state c =
    let old = c.self.inside in
    let gone : c.and.result.items ≡ old.handed.items =
    c.and.ensures ∙ ap (λ (seen : List Obs). old.handed.items ++ seen) c.new.ensures.items ∙ append-nil _ in
    let same : behind c.and.result.items (whole_state c.in_ok-copy.field-0) ≡ behind old.handed.items (whole_state old.machine) =
    λ i. behind (gone i) (c.in_ok-copy.ensures i) in
    state_is _ ∙ same ∙ sym (state_is (table_of old.handed.items old.machine)) ∙ ap state_of c.self.view_is
