use Rattle.std.proofs.Common.{◌++◌, ◌∷◌, [], sym, ap, ◌∙◌}
use Rattle.std.specs.Prelude.{is_some}
use Rattle.std.specs.Option.{option_copied_mut}
use Rattle.am_wait.proofs.OpeningLemmas.{one_list_changes}
use Rattle.am_wait.proofs.openings.Openings.add.Goals as goal

pub returns-in-Some : goal.returns-in-Some
returns-in-Some c =
    let there = sym c.get_mut.ensures.value ∙ ap (λ o. option_copied_mut o) c.in-Some.is in
    let writes = c.get_mut.follows.holds c.push_reserved.new.self in
    one_list_changes c.args.self.now.lists (c.get_mut.follows.lender c.push_reserved.new.self) c.args.trigger.now (λ openings. openings ++ c.args.opening ∷ []) c.in-Some.list.now c.push_reserved.new.self
    there c.push_reserved.ensures.items (writes.3 (ap (λ o. is_some o) there)).0
