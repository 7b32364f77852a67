use Rattle.std.proofs.Common.{◌≡◌, ◌+◌, ◌∷◌, ◌∙◌, ap, drop, subst, sym}
use Rattle.std.proofs.lemmas.List.{drop_all, drop_more}
use Rattle.am_scenes.specs.{Asked}
use Rattle.am_findings.specs.{Verdict}
use Rattle.am_findings.proofs.FindLemmas.{AreLeft, all_left, none_left, one_more}
use Rattle.am_findings.proofs.explore.answer_all.Goals as goal

pub loop-asked-init : goal.loop-asked-init
loop-asked-init g c = all_left c.args.told.now c.args.part.now c.args.most c.args.questions.now c.args.text.now.items

pub loop-asked-preserved : goal.loop-asked-preserved
loop-asked-preserved g c =
    let told = c.args.told.now in
    let part = c.args.part.now in
    let most = c.args.most in
    let all = c.args.questions.now in
    let i = c.loop-asked.asked-index in
    let old = c.args.text.now.items in
    let next = c.answer_one.new.text.items in
    let asked = c.asked-item.result in
    let here : drop i all ≡ asked ∷ drop (i + 1) all =
    drop_more all i asked c.loop-asked-test.true
    ∙ ap (λ (z : Asked). z ∷ drop (i + 1) all) (sym c.asked-item.is) in
    subst (λ (v : Verdict). AreLeft told part most (drop (i + 1) all) all old next v) (sym c.joined-verdict.ensures)
    (one_more told part most asked (drop i all) (drop (i + 1) all) all old c.loop-asked.text.items next
    c.loop-asked.verdict c.in_ok-one.one here c.loop-asked.invariant c.in_ok-one.ensures)

pub returns : goal.returns
returns g c =
    let all = c.args.questions.now in
    let i = c.loop-asked.asked-index in
    none_left c.args.told.now c.args.part.now c.args.most (drop i all) all c.args.text.now.items c.loop-asked.text.items
    c.loop-asked.verdict (drop_all i all c.loop-asked-test.false) c.loop-asked.invariant
