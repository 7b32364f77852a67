use Rattle.am_draw.proofs.head.put_head.Goals as goal

pub returns : goal.returns
returns g c = rw (c.wide-walkers.ensures.wide, c.wide.ensures.wide, c.wide-2.ensures.wide, c.wide-3.ensures.wide, c.tall-height.ensures.tall) at c.put_head_for.ensures
