use Rattle.std.proofs.Common.{ℕ, ◌∷◌, ◌++◌, List, Option, Some, None, ap, ◌∙◌}
use Rattle.am_state.specs.{Obs}
use Rattle.am_state.specs.declared.obs.Obs.TheVariants as seen
use Rattle.am_job.specs.{is_reply}
use Rattle.am_kernel.specs.{without_packet}
use Rattle.am_daemon.specs.{Writing, trigger_of, plan_of_packet, pending_of, taken_up}
use Rattle.am_machine.specs.declared.answer.Answer.TheVariants as answers
use Rattle.am_machine.specs.{takes, delivered_at, recording}
use Rattle.am_world.specs.{whole_state, written}
use Rattle.am_world.proofs.WentLemmas.{written_is, packet_is_taken, halves_are, goes_by_equal_outcome}
use Rattle.am_world.proofs.machine.Machine.take.Goals as goal

pub returns-in-Ok : goal.returns-in-Ok
returns-in-Ok c =
    let s = whole_state c.args.self.now in
    let row = c.args.row.now in
    let told = seen.Delivered row.token row.attach row.packet in
    goes_by_equal_outcome (delivered_at (Some row) s None) (takes s row) s (answers.Job c.in-Ok.job) _ (packet_is_taken s row c.in-Ok.ensures.fault) (ap (λ (j : ℕ). answers.Job j) c.in-Ok.ensures.job)
    (halves_are s (without_packet row.token s.kernel) c.take_packet.new.self (taken_up row.attach row.packet s.daemon) _ (s.trace ++ told ∷ recording s.daemon row) _ c.take_packet.ensures c.in-Ok.ensures.ok
    (c.tell.ensures ∙ ap (λ (more : List Obs). c.reserve.new.self.items ++ more) c.in_ok-seen.ensures
    ∙ ap (λ (t : List Obs). t ++ told ∷ written c.recording-writing.result) c.reserve.ensures.items
    ∙ ap (λ (w : Option Writing). s.trace ++ told ∷ written w) c.recording-writing.ensures
    ∙ ap (λ (more : List Obs). s.trace ++ told ∷ more) (written_is (is_reply (plan_of_packet s.daemon row.packet)) (record { trigger = trigger_of row.packet; entry = pending_of s.daemon row.packet }))))
