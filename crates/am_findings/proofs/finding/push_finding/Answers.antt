use Rattle.std.proofs.Common.{◌≡◌, ◌++◌, List, OnOk, subst, sym}
use Rattle.std.specs.Prelude.{codes}
use Rattle.am_explore.specs.{Choice, Found}
use Rattle.am_findings.specs.Texts.{asked_part, finding_text, found_order_text, unseen_text}
use Rattle.am_findings.proofs.TextLemmas.{more, on_more}
use Rattle.am_findings.proofs.finding.push_finding.Goals as goal

pub returns-in-Order : goal.returns-in-Order
returns-in-Order c =
    let old = c.args.text.now.items in
    let asked = c.args.asked.now in
    let first = c.args.first.now in
    let result = c.push_found_order.result in
    let end = c.push_found_order.new.text.items in
    let added = subst
    (λ (z : List Choice). OnOk result (end ≡ c.push_asked.new.text.items ++ found_order_text (first ++ z)))
    c.as_slice.ensures.value c.push_found_order.ensures in
    subst (λ (f : Found). OnOk result (end ≡ old ++ finding_text first asked f)) (sym c.in-Order.is)
    (on_more result old (asked_part asked) (found_order_text (first ++ c.in-Order.choices.items))
    c.push_asked.new.text.items end c.in_ok-push_asked.ensures added)

pub returns-in_ok-extend_from_slice-in-Never : goal.returns-in_ok-extend_from_slice-in-Never
returns-in_ok-extend_from_slice-in-Never c =
    let old = c.args.text.now.items in
    let asked = c.args.asked.now in
    let end = c.extend_from_slice.new.self.items in
    subst (λ (f : Found). end ≡ old ++ finding_text c.args.first.now asked f) (sym c.in-Never.is)
    (more old (asked_part asked) (codes ": no order\n") c.push_asked.new.text.items end c.in_ok-push_asked.ensures
    c.in_ok-extend_from_slice-in-Never.ensures.items)

pub returns-in-Cut : goal.returns-in-Cut
returns-in-Cut c =
    let old = c.args.text.now.items in
    let asked = c.args.asked.now in
    let first = c.args.first.now in
    let result = c.push_unseen.result in
    let end = c.push_unseen.new.text.items in
    subst (λ (f : Found). OnOk result (end ≡ old ++ finding_text first asked f)) (sym c.in-Cut.is)
    (on_more result old (asked_part asked) (unseen_text first c.in-Cut.below) c.push_asked.new.text.items end
    c.in_ok-push_asked.ensures c.push_unseen.ensures)
