use Rattle.std.proofs.Common.{◌≡◌, ◌++◌, OnOk, subst, sym}
use Rattle.am_explore.specs.{Found}
use Rattle.am_findings.specs.Texts.{count_by}
use Rattle.am_findings.proofs.finding.push_count.Goals as goal

pub returns-in-Cut : goal.returns-in-Cut
returns-in-Cut c =
    subst
    (λ (f : Found). OnOk c.push_cut.result
    (c.push_cut.new.text.items ≡ c.args.text.now.items ++ count_by c.args.left f c.args.seen.now.tally))
    (sym c.in-Cut.is) c.push_cut.ensures
