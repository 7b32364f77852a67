use Rattle.am_draw.proofs.stretch.put_daemon_bars.Goals as goal

pub returns : goal.returns
returns g c =
    rw (c.daemon_x-first.ensures, c.moved.ensures.moved) at c.put_lanes.ensures
