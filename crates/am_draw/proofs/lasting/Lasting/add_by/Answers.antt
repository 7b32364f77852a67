use Rattle.am_draw.specs.{lasts_of}
use Rattle.am_draw.proofs.BarLemmas.{added_next}
use Rattle.am_draw.proofs.lasting.Lasting.add_by.Goals as goal

pub loop-obs-preserved : goal.loop-obs-preserved
loop-obs-preserved c =
    added_next c.args.number (lasts_of c.args.self.now) (lasts_of c.loop-obs.self) (lasts_of c.make_room.new.self) (lasts_of c.change.new.self) c.args.seen.now c.loop-obs.obs-index c.obs-item.result c.loop-obs-test.true c.obs-item.is c.loop-obs.invariant c.in_ok-make_room.ensures c.change.ensures
