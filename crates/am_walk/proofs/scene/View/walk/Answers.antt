use Rattle.std.proofs.Common.{◌≡◌, ℕ, List, [], None, sym, ap, ◌∙◌, arith, rules}
use Rattle.am_walk.specs.View.{scene_in, left_of}
use Rattle.am_walk.specs.{settled, onward, visit_of, Stops}
use Rattle.am_walk.proofs.WalkLemmas.{along, begins, stopped, goes_on}
use Rattle.am_walk.proofs.scene.View.walk.Goals as goal

pub returns-in-Some-2 : goal.returns-in-Some-2
returns-in-Some-2 c =
    let scene = scene_in c.args.self.now in
    let names = c.args.path.now in
    let at : settled scene c.in-Some.root [] [] ≡ Stops c.in-Some-2.stop c.settle.new.at.passed.items =
    sym (rw (c.from-at.ensures.mount, c.from-at.ensures.place, c.from-at.ensures.passed) at c.in_ok-stop.ensures) ∙ ap (λ o. left_of o c.settle.new.at) c.in-Some-2.is in
    c.stopped.ensures ∙ stopped scene names c.in-Some-2.stop c.settle.new.at.passed.items (settled scene c.in-Some.root [] []) (visit_of scene c.args.ns names) (begins scene c.args.ns c.in-Some.root names (sym c.root_of.ensures ∙ c.in-Some.is)) at

pub loop-name-init : goal.loop-name-init
loop-name-init c =
    let scene = scene_in c.args.self.now in
    let names = c.args.path.now in
    let at : settled scene c.in-Some.root [] [] ≡ left_of None c.settle.new.at =
    sym (rw (c.from-at.ensures.mount, c.from-at.ensures.place, c.from-at.ensures.passed) at c.in_ok-stop.ensures) ∙ ap (λ o. left_of o c.settle.new.at) c.in_default-2.is in
    ap (λ (rest : List (List ℕ)). along scene rest (left_of None c.settle.new.at)) c.copy-rest.ensures ∙ ap (along scene names) (sym at) ∙ begins scene c.args.ns c.in-Some.root names (sym c.root_of.ensures ∙ c.in-Some.is)

pub returns-in-Some-3 : goal.returns-in-Some-3
returns-in-Some-3 c =
    let scene = scene_in c.args.self.now in
    let at = c.loop-name.at in
    let left = c.step.new.at in
    let name = c.in-Some-split_first.name in
    let others = c.in-Some-split_first.others in
    let whole = visit_of scene c.args.ns c.args.path.now in
    let there : left_of c.in_ok-stop-2.field-0 left ≡ onward scene name (left_of None at) = first_of (search rules, cc, grind arith) in
    c.stopped-in-Some-3.ensures ∙ stopped scene others c.in-Some-3.stop left.passed.items (left_of c.in_ok-stop-2.field-0 left) whole
    (goes_on scene c.loop-name.rest name others (left_of None at) (left_of c.in_ok-stop-2.field-0 left) whole c.loop-name.invariant c.in-Some-split_first.ensures.some there)
    (ap (λ o. left_of o left) c.in-Some-3.is)
