use Rattle.std.proofs.Common.{[], refl, subst}
use Rattle.am_session.specs.{Session}
use Rattle.am_session.specs.{IsAnswer, TellsAnswer}
use Rattle.am_c.proofs.SessionLemmas.{uses_held}
use Rattle.am_c.proofs.world.am_answer.Goals as goal

pub returns : goal.returns
returns c =
    let session = c.in-Some.session.value in let written = c.tell_answer-went.new.written.items in let went = c.tell_answer-went.result in
    uses_held TellsAnswer [] c.args.world.now.kept.inside session session _ _ written went c.fault_number.result
    c.in-Some.ensures.some c.put.ensures (refl, subst (λ (t : Session). IsAnswer t.answer written went) c.deref.ensures c.tell_answer-went.ensures)
    c.tell.ensures.buffer c.tell.ensures.told c.fault_number.ensures
