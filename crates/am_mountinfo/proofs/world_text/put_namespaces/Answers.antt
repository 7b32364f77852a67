use Rattle.std.proofs.Common.{ℕ, List, subst}
use Rattle.am_script.specs.{Puts}
use Rattle.am_script.proofs.Pieces.{puts_two}
use Rattle.am_mountinfo.specs.{namespace_text}
use Rattle.am_mountinfo.proofs.RowLemmas.{text_more}
use Rattle.am_mountinfo.proofs.world_text.put_namespaces.Goals as goal

pub loop-ns-preserved : goal.loop-ns-preserved
loop-ns-preserved g c =
    let contents = g.W.Write.contents in
    subst (λ (text : List ℕ). Puts c.args.output.now c.put_namespace.new.output text (contents c.args.writer.now) (contents c.put_namespace.new.writer))
    (text_more (namespace_text c.args.world.now.kernel) c.args.order.now c.loop-ns.ns-index _ c.loop-ns-test.true)
    (puts_two _ _ _ _ _ _ _ _ c.loop-ns.invariant c.put_namespace.ensures)
