use Rattle.std.proofs.Common.{◌≡◌, List, not, ap, ◌∙◌}
use Rattle.std.specs.Prelude.{filter}
use Rattle.std.specs.Map.{keys_of}
use Rattle.am_names.specs.{same_trigger, eq-value}
use Rattle.am_names.specs.declared.trigger.Trigger.{Trigger}
use Rattle.am_trigger.specs.{TriggerRows, is_made, without_directory, TriggerTable}
use Rattle.am_names.proofs.SameTriggers.{key_is_same_trigger}
use Rattle.am_trigger.proofs.KeyLemmas.{key_gone}
use Rattle.am_trigger.proofs.TriggerLemmas.{any_left}
use Rattle.am_trigger.proofs.triggers.Triggers.rmdir.Goals as goal

pub returns-clause-ok : goal.returns-clause-ok
returns-clause-ok c =
    let rows = c.self.inside.made.entries in
    let left : keys_of c.remove-gone.new.self.entries ≡ filter (λ (row : Trigger). not (same_trigger row c.args.trigger.now)) (keys_of rows) =
    ap keys_of c.remove-gone.ensures.entries ∙ key_gone eq-value.it key_is_same_trigger c.args.trigger.now rows c.remove-gone.ensures.unique in
    ap (λ (ks : List Trigger). record { autofs = c.self.inside.autofs.rows; made = ks; uses = c.self.inside.uses.entries }) left
    ∙ ap (λ (t : TriggerTable). without_directory c.args.trigger.now t.rows) c.self.view_is

pub returns-clause-set : goal.returns-clause-set
returns-clause-set c g =
    let new = returns-clause-ok c in
    ap (λ (t : TriggerRows). is_made t g) new ∙ any_left c.args.trigger.now g c.args.self.now.rows.made
