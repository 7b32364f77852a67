use Rattle.am_script.proofs.Pieces.{puts_three}
use Rattle.am_draw.proofs.row.put_obs.Goals as goal

pub returns-in-Waits : goal.returns-in-Waits
returns-in-Waits g c =
    rw (c.in-Waits.is, ← c.walker_x-from.ensures.x, ← c.token_x-in-Waits.ensures.x) c.put_stroke.ensures

pub returns-in-Released : goal.returns-in-Released
returns-in-Released g c =
    rw (c.in-Released.is, ← c.token_x-from.ensures.x, ← c.walker_x-to.ensures.x) c.put_released.ensures

pub returns-in-Died : goal.returns-in-Died
returns-in-Died g c =
    rw (c.in-Died.is, ← c.moved-in-Died.ensures.moved)
    (puts_three _ _ _ _ _ _ _ _ _ _ _ c.put_opening.ensures c.put_word.ensures c.put_closing.ensures)

pub returns-in-Passed : goal.returns-in-Passed
returns-in-Passed g c = rw (c.in-Passed.is, ← c.walker_x.ensures.x) c.put_stamp-in-Passed.ensures

pub returns-in-Delivered : goal.returns-in-Delivered
returns-in-Delivered g c =
    rw (c.in-Delivered.is, ← c.token_x-from-in-Delivered.ensures.x, ← c.moved.ensures.moved) c.put_stroke-in-Delivered.ensures
