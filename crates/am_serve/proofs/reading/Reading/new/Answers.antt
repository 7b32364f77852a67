use Rattle.std.proofs.Common.{refl}
use Rattle.am_serve.proofs.ReadingLemmas.{none_read}
use Rattle.am_serve.proofs.reading.Reading.new.Goals as goal

pub returns-clause-stands : goal.returns-clause-stands
returns-clause-stands c = λ start. none_read (record { service = c.new.result; held = c.new-2.result; number = 0 }) start c.new.ensures refl c.new-2.ensures
