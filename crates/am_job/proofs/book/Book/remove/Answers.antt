use Rattle.std.proofs.Common.{List, ap, ◌∙◌}
use Rattle.am_names.specs.{eq-value}
use Rattle.am_state.specs.{RecordRow}
use Rattle.am_job.specs.{record_of, without_record, BookTable}
use Rattle.am_job.specs.View.{rows_of}
use Rattle.am_names.proofs.SameTriggers.{key_is_same_trigger}
use Rattle.am_job.proofs.BookLemmas.{remove_is, removed}
use Rattle.am_job.proofs.book.Book.remove.Goals as goal

pub returns-clause-rows : goal.returns-clause-rows
returns-clause-rows c =
    ap rows_of c.remove-gone.ensures.entries
    ∙ remove_is eq-value.it key_is_same_trigger c.args.trigger.now c.self.inside.records.entries c.remove-gone.ensures.unique
    ∙ ap (λ (t : BookTable). without_record c.args.trigger.now t.rows) c.self.view_is

pub returns-clause-map : goal.returns-clause-map
returns-clause-map c g =
    let new = returns-clause-rows c in
    ap (λ (rows : List RecordRow). record_of rows g) new ∙ removed c.args.trigger.now g c.args.self.now.rows
