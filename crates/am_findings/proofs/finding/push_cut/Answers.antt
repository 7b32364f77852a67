use Rattle.std.proofs.Common.{◌++◌, ◌∷◌, []}
use Rattle.std.specs.Prelude.{codes, decimal}
use Rattle.am_findings.proofs.TextLemmas.{more}
use Rattle.am_findings.proofs.finding.push_cut.Goals as goal

pub returns : goal.returns
returns c =
    let states = decimal c.args.tally.now.states in
    let left = decimal c.args.left in
    let end = c.push.new.self.items in
    let fourth = more c.extend_from_slice-2.new.self.items left (10 ∷ []) c.push_length.new.text.items end
    c.in_ok-push_length.ensures c.in_ok-push.ensures.items in
    let third = more c.push_number.new.text.items (codes " choices ") (left ++ (10 ∷ []))
    c.extend_from_slice-2.new.self.items end c.in_ok-extend_from_slice-2.ensures.items fourth in
    let second = more c.extend_from_slice.new.self.items states (codes " choices " ++ (left ++ (10 ∷ [])))
    c.push_number.new.text.items end c.in_ok-push_number.ensures third in
    more c.args.text.now.items (codes "# not all seen, states ") (states ++ (codes " choices " ++ (left ++ (10 ∷ []))))
    c.extend_from_slice.new.self.items end c.in_ok-extend_from_slice.ensures.items second
