use Rattle.std.proofs.Common.{◌∙◌}
use Rattle.am_names.specs.{eq-value}
use Rattle.am_names.proofs.Basics.{holds_where_ok}
use Rattle.am_names.proofs.SameTriggers.{key_is_same_trigger}
use Rattle.am_trigger.proofs.KeyLemmas.{insert_is}
use Rattle.am_trigger.proofs.triggers.use_reserved.Goals as goal

pub returns-clause-entries : goal.returns-clause-entries
returns-clause-entries c =
    holds_where_ok c.insert-used.result (c.insert-used.ensures.succeeds c.requires) c.insert-used.ensures.entries
    ∙ insert_is eq-value.it key_is_same_trigger c.args.trigger.now c.args.moment c.args.uses.now.entries
