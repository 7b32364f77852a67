use Rattle.std.proofs.Common.{[], refl, subst}
use Rattle.am_views.specs.{obs_lines}
use Rattle.am_session.specs.{Session}
use Rattle.am_session.specs.{IsText, TellsSeen, no_event, seen_last}
use Rattle.am_c.proofs.SessionLemmas.{uses_held}
use Rattle.am_c.proofs.world.am_observed.Goals as goal

pub returns : goal.returns
returns c =
    let session = c.in-Some.session.value in let written = c.tell_seen-went.new.written.items in let went = c.tell_seen-went.result in
    uses_held TellsSeen [] c.args.world.now.kept.inside session session _ _ written went c.fault_number.result
    c.in-Some.ensures.some c.put.ensures (refl, subst (λ (t : Session). IsText 0 (obs_lines (seen_last t)) no_event written went) c.deref.ensures c.tell_seen-went.ensures)
    c.tell.ensures.buffer c.tell.ensures.told c.fault_number.ensures
