use Rattle.am_draw.proofs.stretch.put_system_bars.Goals as goal

pub returns : goal.returns
returns g c =
    rw c.first_system-first.ensures.first at c.put_lanes.ensures
