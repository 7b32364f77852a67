use Rattle.am_diagnosis.specs.declared.expected.Expected.TheVariants.{Event}
use Rattle.am_diagnosis.specs.Parameters.{parameters}
use Rattle.am_diagnosis.specs.Events.{IsEvent}
use Rattle.am_diagnosis.proofs.LawLemmas.{lines_told}
use Rattle.am_diagnosis.proofs.EventLemmas.{events_are_a_table, events_are_read}
use Rattle.am_diagnosis.proofs.law.events_begin_before_their_misfit.Goals as goal

pub returns-clause-read : goal.returns-clause-read
returns-clause-read c = events_are_read

pub returns-clause-told : goal.returns-clause-told
returns-clause-told c = lines_told IsEvent Event parameters events_are_a_table events_are_read
