use Rattle.std.proofs.Common.{ℕ, List, ◌++◌, codes, decimal, append_assoc, subst}
use Rattle.am_script.specs.{Puts}
use Rattle.am_script.proofs.Pieces.{puts_two}
use Rattle.am_draw.proofs.trees.put_ns.Goals as goal

pub returns : goal.returns
returns g c =
    let contents = g.W.Write.contents in
    rw (← c.ns.view_is)
    (subst (λ (t : List ℕ). Puts c.args.output.now c.put_word.new.output t (contents c.args.writer.now) (contents c.put_word.new.writer))
    (append_assoc c.args.joint.now (decimal c.ns.inside.0) (codes " "))
    (rw c.from.ensures at (puts_two _ _ _ _ _ _ _ _ c.put_number.ensures c.put_word.ensures)))
