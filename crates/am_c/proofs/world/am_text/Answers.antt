use Rattle.std.proofs.Common.{[], ℕ, Option, refl, subst}
use Rattle.am_world.specs.Capacity.{state_of}
use Rattle.am_session.specs.{Session}
use Rattle.am_c.specs.Scripts.{namespace_where}
use Rattle.am_session.specs.{IsShown, TellsWorld}
use Rattle.am_c.proofs.SessionLemmas.{uses_held}
use Rattle.am_c.proofs.world.am_text.Goals as goal

pub returns : goal.returns
returns c =
    let session = c.in-Some.session.value in let written = c.tell_world-went.new.written.items in let went = c.tell_world-went.result in
    let shown = subst (λ (t : Session). IsShown c.namespace_where-only.result (state_of t.world) written went) c.deref.ensures c.tell_world-went.ensures in
    uses_held (TellsWorld (namespace_where c.args.all c.args.namespace)) [] c.args.world.now.kept.inside session session _ _ written went c.fault_number.result
    c.in-Some.ensures.some c.put.ensures (refl, subst (λ (only : Option ℕ). IsShown only (state_of session.world) written went) c.namespace_where-only.ensures shown)
    c.tell.ensures.buffer c.tell.ensures.told c.fault_number.ensures
