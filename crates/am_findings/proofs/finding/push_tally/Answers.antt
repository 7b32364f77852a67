use Rattle.std.proofs.Common.{◌++◌, ◌∷◌, []}
use Rattle.std.specs.Prelude.{codes, decimal}
use Rattle.am_findings.proofs.TextLemmas.{more}
use Rattle.am_findings.proofs.finding.push_tally.Goals as goal

pub returns : goal.returns
returns c =
    let tally = c.args.tally.now in
    let orders = decimal tally.orders in
    let states = decimal tally.states in
    let ends = decimal tally.ends in
    let worlds = decimal tally.worlds in
    let end = c.push.new.self.items in
    let of_worlds = codes " worlds " ++ (worlds ++ (10 ∷ [])) in
    let of_ends = codes " ends " ++ (ends ++ of_worlds) in
    let of_states = codes " states " ++ (states ++ of_ends) in
    let eighth = more c.extend_from_slice-4.new.self.items worlds (10 ∷ []) c.push_number-4.new.text.items end
    c.in_ok-push_number-4.ensures c.in_ok-push.ensures.items in
    let seventh = more c.push_number-3.new.text.items (codes " worlds ") (worlds ++ (10 ∷ []))
    c.extend_from_slice-4.new.self.items end c.in_ok-extend_from_slice-4.ensures.items eighth in
    let sixth = more c.extend_from_slice-3.new.self.items ends of_worlds c.push_number-3.new.text.items end
    c.in_ok-push_number-3.ensures seventh in
    let fifth = more c.push_number-2.new.text.items (codes " ends ") (ends ++ of_worlds)
    c.extend_from_slice-3.new.self.items end c.in_ok-extend_from_slice-3.ensures.items sixth in
    let fourth = more c.extend_from_slice-2.new.self.items states of_ends c.push_number-2.new.text.items end
    c.in_ok-push_number-2.ensures fifth in
    let third = more c.push_number.new.text.items (codes " states ") (states ++ of_ends)
    c.extend_from_slice-2.new.self.items end c.in_ok-extend_from_slice-2.ensures.items fourth in
    let second = more c.extend_from_slice.new.self.items orders of_states c.push_number.new.text.items end
    c.in_ok-push_number.ensures third in
    more c.args.text.now.items (codes "# orders ") (orders ++ of_states) c.extend_from_slice.new.self.items end
    c.in_ok-extend_from_slice.ensures.items second
