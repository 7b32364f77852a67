use Rattle.std.proofs.Common.{◌≡◌, true, ◌∙◌}
use Rattle.std.proofs.lemmas.Result.{IfOk-weaker}
use Rattle.am_draw.specs.{takes_mounts}
use Rattle.am_draw.proofs.TreeLemmas.{taken}
use Rattle.am_world.specs.Capacity.{state_of}
use Rattle.am_draw.proofs.trees.rows_taken.Goals as goal

pub returns-then-takes_mounts : goal.returns-then-takes_mounts
unfolding state_of
returns-then-takes_mounts c =
    let takes : takes_mounts (state_of c.args.world.now) c.args.event.now ≡ true = cc (c.takes_mounts.ensures, c.if-takes_mounts.true) in
    IfOk-weaker c.copies.result _ _ (λ rows is. is ∙ c.mounts.ensures ∙ taken _ _ takes) c.copies.ensures
