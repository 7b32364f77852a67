use Rattle.std.proofs.Common.{◌≡◌, ℕ, List, ap, ◌∙◌}
use Rattle.std.specs.Map.{keys_of}
use Rattle.am_names.specs.declared.trigger.Trigger.{Trigger}
use Rattle.am_names.specs.{eq-value}
use Rattle.am_trigger.specs.{TriggerRows, used_in, used, last_use_of, TriggerTable}
use Rattle.am_names.proofs.SameTriggers.{key_is_same_trigger}
use Rattle.am_trigger.proofs.KeyLemmas.{insert_is}
use Rattle.am_trigger.proofs.TriggerLemmas.{used_at}
use Rattle.am_trigger.proofs.triggers.Triggers.touch.Goals as goal

pub returns-clause-ok : goal.returns-clause-ok
returns-clause-ok c =
    let entries : c.insert.new.self.entries ≡ used_in c.args.trigger c.args.moment c.self.inside.uses.entries =
    c.in_ok-insert.ensures.entries ∙ insert_is eq-value.it key_is_same_trigger c.args.trigger c.args.moment c.self.inside.uses.entries in
    ap (λ (es : List (Trigger × ℕ)). record { autofs = c.self.inside.autofs.rows; made = keys_of c.self.inside.made.entries; uses = es }) entries
    ∙ ap (λ (t : TriggerTable). used c.args.trigger c.args.moment t.rows) c.self.view_is

pub returns-clause-map : goal.returns-clause-map
returns-clause-map c g =
    let new = returns-clause-ok c in
    ap (λ (t : TriggerRows). last_use_of t g) new ∙ used_at c.args.trigger g c.args.moment c.args.self.now.rows.uses
