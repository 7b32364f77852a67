use Rattle.am_views.proofs.obs_text.put_type.Goals as goal

pub returns-in-ExpireIndirect : goal.returns-in-ExpireIndirect
returns-in-ExpireIndirect g c = rw c.in-ExpireIndirect.is c.put_word-in-ExpireIndirect.ensures
