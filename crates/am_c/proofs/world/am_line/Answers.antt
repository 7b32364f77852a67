use Rattle.std.proofs.Common.{Some, ap, sym, ◌∙◌}
use Rattle.am_session.specs.{Plays}
use Rattle.am_c.proofs.SessionLemmas.{uses_held}
use Rattle.am_c.proofs.world.am_line.Goals as goal

pub returns : goal.returns
returns c =
    uses_held (Plays c.args.line.now) c.args.line.now c.args.world.now.kept.inside c.deref_mut.result.now c.play_line-went.new.session _ _ c.play_line-went.new.written.items c.play_line-went.result c.fault_number.result
    (c.in-Some.ensures.some ∙ ap Some (sym c.deref_mut.ensures.value)) c.put.ensures c.play_line-went.ensures c.tell.ensures.buffer c.tell.ensures.told c.fault_number.ensures
