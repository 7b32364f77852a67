use Rattle.std.proofs.Common.{◌++◌, ◌+◌, length}
use Rattle.std.specs.Prelude.{codes, decimal}
use Rattle.am_findings.proofs.TextLemmas.{more}
use Rattle.am_findings.proofs.finding.push_unseen.Goals as goal

pub returns : goal.returns
returns c =
    let count = decimal (length c.args.first.now + c.args.below) in
    let end = c.extend_from_slice-2.new.self.items in
    more c.args.text.now.items (codes ": not all seen, no order of fewer than ") (count ++ codes " events\n")
    c.extend_from_slice.new.self.items end c.in_ok-extend_from_slice.ensures.items
    (more c.extend_from_slice.new.self.items count (codes " events\n") c.push_sum.new.text.items end
    c.in_ok-push_sum.ensures c.in_ok-extend_from_slice-2.ensures.items)
