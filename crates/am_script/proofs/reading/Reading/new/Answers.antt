use Rattle.am_script.proofs.ReadingLemmas.{none_read}
use Rattle.am_script.proofs.reading.Reading.new.Goals as goal

pub returns-clause-stands : goal.returns-clause-stands
returns-clause-stands c = λ form start. none_read form (record { player = c.new-player.result; held = c.new-held.result }) start c.new-held.ensures (c.new-player.ensures.stands form start)
