use Rattle.std.proofs.Common.{ℕ, List, subst}
use Rattle.am_script.specs.{Puts}
use Rattle.am_draw.proofs.head.put_right_titles.Goals as goal

pub returns : goal.returns
returns g c =
    subst (λ (text : List ℕ). Puts c.args.output.now c.put_word.new.output text (g.W.Write.contents c.args.writer.now) (g.W.Write.contents c.put_word.new.writer)) c.right.ensures c.put_word.ensures
