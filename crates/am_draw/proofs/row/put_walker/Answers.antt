use Rattle.am_draw.proofs.row.put_walker.Goals as goal

pub returns : goal.returns
returns g c = rw (← c.walker.view_is) (rw c.mark_of.ensures at c.put_numbered.ensures)
