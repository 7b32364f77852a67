use Rattle.std.proofs.Common.{ap, ◌∙◌}
use Rattle.am_names.specs.{eq-value}
use Rattle.am_job.specs.{record_of, BookTable}
use Rattle.am_names.proofs.SameTriggers.{key_is_same_trigger}
use Rattle.am_job.proofs.BookLemmas.{lookup_is}
use Rattle.am_job.proofs.book.Book.record.Goals as goal

pub returns : goal.returns
returns c =
    c.copied.ensures ∙ c.get.ensures
    ∙ lookup_is eq-value.it key_is_same_trigger c.args.trigger.now c.self.inside.records.entries
    ∙ ap (λ (t : BookTable). record_of t.rows c.args.trigger.now) c.self.view_is
