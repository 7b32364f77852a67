use Rattle.std.proofs.Common.{◌≡◌, ◌++◌, List, Vec, Global, ap, append-nil, sym, ◌∙◌}
use Rattle.am_state.specs.{Obs}
use Rattle.am_daemon.specs.{rows_of}
use Rattle.am_world.specs.{WorldTable, table_of}
use Rattle.am_world.specs.Capacity.{state_of}
use Rattle.am_world.proofs.TableLemmas.{state_is}
use Rattle.am_world.proofs.world.World.let_go.Goals as goal

pub returns-clause-trace : goal.returns-clause-trace
returns-clause-trace c =
    let gone = c.self.inside.handed.items in
    (λ i. c.and-self-inside.ensures i ++ c.clear.ensures.items i) ∙ append-nil _
    ∙ ap (λ (v : Vec Obs Global). gone ++ v.items) c.replace-seen.ensures.value ∙ ap (λ (t : WorldTable). t.trace) c.self.view_is

pub returns-clause-same : goal.returns-clause-same
returns-clause-same c =
    let gone = c.self.inside.handed.items in
    let machine = c.self.inside.machine in
    let all : c.and-self-inside.result.items ++ c.clear.new.self.items ≡ gone ++ machine.trace.items =
    (λ i. c.and-self-inside.ensures i ++ c.clear.ensures.items i) ∙ append-nil _
    ∙ ap (λ (v : Vec Obs Global). gone ++ v.items) c.replace-seen.ensures.value in
    state_is _ ∙ ap (λ (t : List Obs). record { kernel = machine.kernel; daemon = rows_of machine.daemon; trace = t }) all
    ∙ sym (state_is (table_of gone machine)) ∙ ap state_of c.self.view_is
