use Rattle.std.proofs.Common.{refl}
use Rattle.am_draw.proofs.FailingLemmas.{nobody_left}
use Rattle.am_draw.proofs.lasting.Lasting.clear.Goals as goal

pub returns : goal.returns
returns c =
    rw (c.clear.ensures, c.clear-2.ensures, c.clear-3.ensures, c.clear-4.ensures, c.empty_lanes.ensures, nobody_left c.args.self.now.failures.items) refl
