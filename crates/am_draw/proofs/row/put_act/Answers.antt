use Rattle.am_draw.proofs.row.put_act.Goals as goal

pub returns : goal.returns
returns g c = rw (← c.job.view_is) (rw (c.daemon_x-x.ensures, c.moved.ensures.moved) at c.put_numbered.ensures)
