use Rattle.am_script.proofs.Closing.{pushed}
use Rattle.am_views.proofs.event_text.push_event.Goals as goal

pub returns-in-None : goal.returns-in-None
returns-in-None c =
    pushed _ _ _ _ _ c.put_event.new.writer.items _ c.new-output.ensures.bytes c.new-output.ensures.marks c.new-output.ensures.lost
    c.put_event.ensures c.flush.ensures.settles c.in-None.is c.flush.ensures.empty
