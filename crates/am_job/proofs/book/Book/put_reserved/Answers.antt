use Rattle.std.proofs.Common.{Some, ap, ◌∙◌}
use Rattle.std.specs.Prelude.{if◌then◌else◌}
use Rattle.am_names.specs.{same_trigger, eq-value}
use Rattle.am_job.specs.{with_record, record_of, BookTable}
use Rattle.am_job.specs.View.{rows_of}
use Rattle.am_names.proofs.SameTriggers.{key_is_same_trigger}
use Rattle.am_job.proofs.BookLemmas.{insert_is, recorded_is}
use Rattle.am_job.proofs.book.Book.put_reserved.Goals as goal

pub returns-clause-rows : goal.returns-clause-rows
returns-clause-rows c =
    ap rows_of c.insert_reserved.ensures.entries
    ∙ insert_is eq-value.it key_is_same_trigger c.args.trigger c.args.entry c.self.inside.records.entries c.insert_reserved.ensures.unique
    ∙ ap (λ (t : BookTable). with_record c.args.trigger c.args.entry t.rows) c.self.view_is

pub returns-clause-map : goal.returns-clause-map
returns-clause-map c g =
    recorded_is eq-value.it key_is_same_trigger c.args.trigger g (Some c.args.entry) c.self.inside.records.entries c.insert_reserved.new.self.entries (c.insert_reserved.ensures.map g)
    ∙ ap (λ (t : BookTable). if same_trigger c.args.trigger g then Some c.args.entry else record_of t.rows g) c.self.view_is
