use Rattle.std.proofs.Common.{◌≡◌, List, [], ◌∷◌, ◌++◌, false, sym, ap, ◌∙◌}
use Rattle.std.specs.List.{list_any}
use Rattle.std.specs.Map.{keys_of}
use Rattle.am_names.specs.{same_trigger, eq-value}
use Rattle.am_names.specs.declared.trigger.Trigger.{Trigger}
use Rattle.am_trigger.specs.{TriggerRows, is_made, with_directory, TriggerTable}
use Rattle.am_names.proofs.SameTriggers.{key_is_same_trigger}
use Rattle.am_trigger.proofs.KeyLemmas.{key_last}
use Rattle.am_trigger.proofs.TriggerLemmas.{any_last}
use Rattle.am_trigger.proofs.triggers.Triggers.mkdir.Goals as goal

pub returns-clause-ok : goal.returns-clause-ok
returns-clause-ok c =
    let rows = c.self.inside.made.entries in
    let trigger = c.args.trigger in
    let none : list_any (λ row. same_trigger row trigger) (keys_of rows) ≡ false =
    ap (λ (t : TriggerTable). is_made t.rows trigger) c.self.view_is ∙ sym c.made.ensures ∙ c.if-made.false in
    let made : keys_of c.insert.new.self.entries ≡ keys_of rows ++ trigger ∷ [] = ap keys_of c.in_ok-insert.ensures.ok ∙ key_last eq-value.it key_is_same_trigger trigger tt rows none in
    ap (λ (ks : List Trigger). record { autofs = c.self.inside.autofs.rows; made = ks; uses = c.self.inside.uses.entries }) made
    ∙ ap (λ (t : TriggerTable). with_directory trigger t.rows) c.self.view_is

pub returns-clause-set : goal.returns-clause-set
returns-clause-set c g =
    let new = returns-clause-ok c in
    ap (λ (t : TriggerRows). is_made t g) new ∙ any_last (λ row. same_trigger row g) c.args.self.now.rows.made c.args.trigger
