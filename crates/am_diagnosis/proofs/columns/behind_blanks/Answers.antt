use Rattle.std.proofs.Common.{sym, refl, ◌∙◌}
use Rattle.std.proofs.lemmas.List.{take_rest}
use Rattle.am_lines.specs.{is_blank}
use Rattle.am_diagnosis.specs.Columns.{is_letter}
use Rattle.am_diagnosis.proofs.ColumnLemmas.{skipped_to, all_skipped}
use Rattle.am_diagnosis.proofs.columns.behind_blanks.Goals as goal

pub returns-in-None : goal.returns-in-None
returns-in-None c = all_skipped is_blank is_letter (λ b. refl) c.args.line.now (sym c.letter_place.ensures ∙ c.in-None.is)

pub returns-in-Some : goal.returns-in-Some
returns-in-Some c = rw (take_rest c.args.line.now c.in-Some.at) (skipped_to is_blank is_letter (λ b. refl) c.args.line.now c.in-Some.at (sym c.letter_place.ensures ∙ c.in-Some.is))
