use Rattle.std.proofs.Common.{false, sym, ap, ◌∙◌}
use Rattle.std.specs.Prelude.{is_some}
use Rattle.am_names.proofs.Basics.{none_where_not_some}
use Rattle.am_trigger.specs.{TriggerRows, autofs_of}
use Rattle.am_kernel.proofs.WalkLemmas.{catatonic_absent}
use Rattle.am_kernel.proofs.attachments.make_live.Goals as goal

pub returns-else-is_some : goal.returns-else-is_some
returns-else-is_some c =
    let found = c.autofs.ensures ∙ ap (λ (t : TriggerRows). autofs_of t c.args.fs) c.as_triggers.ensures in
    sym (catatonic_absent c.args.fs false c.args.triggers.now.rows (none_where_not_some _ (ap (λ o. is_some o) (sym found) ∙ sym c.is_some.ensures ∙ c.if-is_some.false)))
