use Rattle.std.proofs.Common.{refl}
use Rattle.am_diagnosis.specs.Maps.{entry_parameters, IsEntry}
use Rattle.am_diagnosis.proofs.LawLemmas.{parameters_told}
use Rattle.am_diagnosis.proofs.MapLemmas.{entries_are_read}
use Rattle.am_diagnosis.proofs.law.entries_begin_before_their_misfit.Goals as goal

pub returns-clause-read : goal.returns-clause-read
returns-clause-read c = entries_are_read

pub returns-clause-told : goal.returns-clause-told
returns-clause-told c = parameters_told IsEntry 1 entry_parameters refl entries_are_read
