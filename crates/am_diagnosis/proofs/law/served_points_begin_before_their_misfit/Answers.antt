use Rattle.std.proofs.Common.{refl}
use Rattle.am_diagnosis.specs.Maps.{served_parameters, IsServed}
use Rattle.am_diagnosis.proofs.LawLemmas.{parameters_told}
use Rattle.am_diagnosis.proofs.MapLemmas.{served_points_are_read}
use Rattle.am_diagnosis.proofs.law.served_points_begin_before_their_misfit.Goals as goal

pub returns-clause-read : goal.returns-clause-read
returns-clause-read c = served_points_are_read

pub returns-clause-told : goal.returns-clause-told
returns-clause-told c = parameters_told IsServed 1 served_parameters refl served_points_are_read
