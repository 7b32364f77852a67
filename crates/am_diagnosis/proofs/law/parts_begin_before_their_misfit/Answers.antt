use Rattle.am_diagnosis.specs.declared.expected.Expected.TheVariants.{Part}
use Rattle.am_diagnosis.specs.Parameters.{part_parameters}
use Rattle.am_diagnosis.specs.Heads.{IsPart}
use Rattle.am_diagnosis.proofs.LawLemmas.{lines_told}
use Rattle.am_diagnosis.proofs.HeadLemmas.{parts_are_a_table, parts_are_read}
use Rattle.am_diagnosis.proofs.law.parts_begin_before_their_misfit.Goals as goal

pub returns-clause-read : goal.returns-clause-read
returns-clause-read c = parts_are_read

pub returns-clause-told : goal.returns-clause-told
returns-clause-told c = lines_told IsPart Part part_parameters parts_are_a_table parts_are_read
