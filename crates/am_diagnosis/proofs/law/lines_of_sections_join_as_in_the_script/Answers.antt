use Rattle.am_diagnosis.proofs.JoinLemmas.{lines_are_joined}
use Rattle.am_diagnosis.proofs.law.lines_of_sections_join_as_in_the_script.Goals as goal

pub returns : goal.returns
returns c = lines_are_joined
