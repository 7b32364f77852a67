use Rattle.am_diagnosis.proofs.ColumnLemmas.{one_column}
use Rattle.am_diagnosis.proofs.law.words_have_one_column.Goals as goal

pub returns : goal.returns
returns c = one_column
