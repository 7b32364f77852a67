use Rattle.std.proofs.Common.{subst}
use Rattle.am_names.specs.{eq-value}
use Rattle.am_names.proofs.SameTriggers.{key_is_same_trigger}
use Rattle.am_trigger.specs.{AreOnce, IsUseIndex, TriggerTable}
use Rattle.am_trigger.proofs.KeyLemmas.{use_index_is, keys_are_once}
use Rattle.am_trigger.proofs.triggers.Triggers.use_index.Goals as goal

pub returns-clause-index : goal.returns-clause-index
returns-clause-index c =
    subst (λ (t : TriggerTable). IsUseIndex t.rows.uses c.args.trigger.now c.get_index_of.result) c.self.view_is
    (use_index_is eq-value.it key_is_same_trigger c.args.trigger.now c.self.inside.uses.entries c.get_index_of.result
    c.get_index_of.ensures.index c.get_index_of.ensures.found)

pub returns-clause-unique : goal.returns-clause-unique
returns-clause-unique c =
    subst (λ (t : TriggerTable). AreOnce t.rows.uses) c.self.view_is
    (keys_are_once eq-value.it key_is_same_trigger c.self.inside.uses.entries c.get_index_of.ensures.unique)
