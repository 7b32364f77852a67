use Rattle.std.proofs.Common.{◌==◌, Bool, List, not, ap, ◌∙◌}
use Rattle.am_state.specs.{RecordRow}
use Rattle.am_job.specs.{record_of, without_fs, BookTable}
use Rattle.am_job.specs.View.{rows_of}
use Rattle.am_job.proofs.BookLemmas.{rows_left, forgotten}
use Rattle.am_job.proofs.book.Book.remove_fs.Goals as goal

pub returns-clause-rows : goal.returns-clause-rows
returns-clause-rows c =
    let keep : RecordRow → Bool = λ row. not (row.trigger.fs == c.args.fs) in
    ap rows_of c.forget_fs.ensures.entries
    ∙ rows_left keep c.self.inside.records.entries
    ∙ ap (λ (t : BookTable). without_fs c.args.fs t.rows) c.self.view_is

pub returns-clause-map : goal.returns-clause-map
returns-clause-map c g =
    let new = returns-clause-rows c in
    ap (λ (rows : List RecordRow). record_of rows g) new ∙ forgotten c.args.fs g c.args.self.now.rows
