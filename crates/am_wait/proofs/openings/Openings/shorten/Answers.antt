use Rattle.std.proofs.Common.{sym, ap, ◌∙◌}
use Rattle.std.specs.Prelude.{is_some}
use Rattle.std.specs.Option.{option_copied_mut}
use Rattle.am_wait.specs.Openings.{but}
use Rattle.am_wait.proofs.OpeningLemmas.{one_list_changes}
use Rattle.am_wait.proofs.openings.Openings.shorten.Goals as goal

pub returns-in-Some : goal.returns-in-Some
returns-in-Some c =
    let there = sym c.get_mut.ensures.value ∙ ap (λ o. option_copied_mut o) c.in-Some.is in
    let writes = c.get_mut.follows.holds c.take_out.new.list in
    one_list_changes c.args.self.now.lists (c.get_mut.follows.lender c.take_out.new.list) c.args.trigger.now (but c.args.token) c.in-Some.list.now c.take_out.new.list
    there c.take_out.ensures (writes.3 (ap (λ o. is_some o) there)).0
