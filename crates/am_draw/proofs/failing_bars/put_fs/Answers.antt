use Rattle.am_draw.proofs.failing_bars.put_fs.Goals as goal

pub returns : goal.returns
returns g c = rw (← c.fs.view_is) (rw c.from.ensures at c.put_number.ensures)
