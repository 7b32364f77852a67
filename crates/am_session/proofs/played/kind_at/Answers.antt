use Rattle.am_world.specs.Capacity.{state_of}
use Rattle.am_session.proofs.KindLemmas.{kind_is}
use Rattle.am_session.proofs.played.kind_at.Goals as goal

pub returns : goal.returns
unfolding state_of
returns c = kind_is (state_of c.args.session.now.world) c.args.ns c.args.path.now c.kind_at.result c.kind_at.ensures.refusal c.kind_at.ensures.ok
