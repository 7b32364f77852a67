use Rattle.std.proofs.Common.{ap, ◌∙◌}
use Rattle.am_names.specs.{eq-value}
use Rattle.am_trigger.specs.{last_use_of, TriggerTable}
use Rattle.am_names.proofs.SameTriggers.{key_is_same_trigger}
use Rattle.am_trigger.proofs.KeyLemmas.{lookup_is}
use Rattle.am_trigger.proofs.triggers.Triggers.last_use.Goals as goal

pub returns : goal.returns
returns c =
    c.copied.ensures ∙ c.get.ensures.value
    ∙ lookup_is eq-value.it key_is_same_trigger c.args.trigger.now c.self.inside.uses.entries
    ∙ ap (λ (t : TriggerTable). last_use_of t.rows c.args.trigger.now) c.self.view_is
