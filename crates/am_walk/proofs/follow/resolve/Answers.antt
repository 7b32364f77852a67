use Rattle.std.proofs.Common.{◌≡◌, List, Some, sym, subst, refl}
use Rattle.std.specs.Prelude.{IfOk}
use Rattle.am_names.specs.{MountRow}
use Rattle.am_trigger.specs.{failing}
use Rattle.am_walk.specs.View.{scene_in, walked_of}
use Rattle.am_walk.specs.{IsOrderly, RestsAt, with_traps, Walked, walk_of}
use Rattle.am_walk.specs.Scene.{Scene}
use Rattle.am_walk.proofs.LawLemmas.{orderly, if_ok}
use Rattle.am_walk.proofs.RestLemmas.{rests}
use Rattle.am_walk.proofs.follow.resolve.Goals as goal

pub returns-clause-orderly : goal.returns-clause-orderly
returns-clause-orderly c =
    let tokens = c.args.waits.now.tokens in
    let scene : Scene = scene_in (record { tree = c.tree.result; triggers = c.args.triggers; waits = Some c.args.waits; lasting = Some (record { failures = c.args.failures; moment = c.args.moment; negative = c.args.negative }) }) in
    let names = c.args.path.now in
    if_ok (λ walk. walked_of walk ≡ walk_of scene c.args.ns names) (λ walk. IsOrderly tokens (walked_of walk)) (λ walk e. subst (λ (w : Walked). IsOrderly tokens w) (sym e) (orderly tokens scene refl c.args.ns names)) c.walk.result c.walk.ensures

pub returns-clause-rests : goal.returns-clause-rests
returns-clause-rests c =
    let scene : Scene = with_traps c.args.subtree.now c.args.triggers.now.rows c.args.waits.now (failing c.args.moment c.args.negative c.args.failures.now.rows) in
    let names = c.args.path.now in
    let walks = subst (λ (ms : List MountRow). IfOk c.walk.result (λ walk. walked_of walk ≡ walk_of (record { mounts = ms; triggers = c.args.triggers.now.rows; tokens = Some c.args.waits.now.tokens; failing = failing c.args.moment c.args.negative c.args.failures.now.rows }) c.args.ns names)) c.tree.ensures.rows c.walk.ensures in
    if_ok (λ walk. walked_of walk ≡ walk_of scene c.args.ns names) (λ walk. RestsAt scene walk.stop) (λ walk e. subst (λ (w : Walked). RestsAt scene w.stop) (sym e) (rests scene c.tree.ensures.whole.rising c.tree.ensures.whole.older c.args.ns names)) c.walk.result walks
