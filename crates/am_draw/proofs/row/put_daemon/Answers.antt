use Rattle.am_draw.proofs.row.put_daemon.Goals as goal

pub returns : goal.returns
returns g c = rw (c.daemon_x-x.ensures, c.moved.ensures.moved) at c.put_stamp.ensures
