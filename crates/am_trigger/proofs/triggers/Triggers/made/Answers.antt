use Rattle.std.proofs.Common.{ap, ◌∙◌}
use Rattle.am_names.specs.{eq-value}
use Rattle.am_trigger.specs.{is_made, TriggerTable}
use Rattle.am_names.proofs.SameTriggers.{key_is_same_trigger}
use Rattle.am_trigger.proofs.KeyLemmas.{has_key}
use Rattle.am_trigger.proofs.triggers.Triggers.made.Goals as goal

pub returns : goal.returns
returns c =
    c.contains_key.ensures
    ∙ has_key eq-value.it key_is_same_trigger c.args.trigger.now c.self.inside.made.entries
    ∙ ap (λ (t : TriggerTable). is_made t.rows c.args.trigger.now) c.self.view_is
