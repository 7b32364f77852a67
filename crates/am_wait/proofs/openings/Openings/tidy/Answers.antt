use Rattle.std.proofs.Common.{◌≡◌, [], sym, ◌∙◌}
use Rattle.am_wait.specs.Openings.{listed}
use Rattle.am_wait.proofs.OpeningLemmas.{empty_list_goes, nothing_there}
use Rattle.am_wait.proofs.openings.Openings.tidy.Goals as goal

pub returns-then-is_empty : goal.returns-then-is_empty
returns-then-is_empty c =
    let none : listed c.args.self.now c.args.trigger.now ≡ [] = sym c.list.ensures ∙ nothing_there c.list.result.now (sym c.is_empty.ensures ∙ c.if-is_empty.true) in
    empty_list_goes c.args.self.now.lists c.swap_remove-list.new.self c.args.trigger.now none c.swap_remove-list.ensures.updates.0
