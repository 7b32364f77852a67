use Rattle.std.proofs.Common.{◌≡◌, length, ap, ◌∙◌}
use Rattle.std.specs.Prelude.{nat_le}
use Rattle.am_wait.specs.{WaitRows, without_wait, is_full, collected}
use Rattle.am_wait.specs.View.{rows_of}
use Rattle.am_wait.proofs.ViewLemmas.{others_counted}
use Rattle.am_wait.proofs.waits.Waits.is_full_for.Goals as goal

pub returns : goal.returns
returns c =
    let i = c.self.inside in
    let others : c.waits_of_others.result ≡ length (without_wait c.args.walker (rows_of i).waits) =
    c.waits_of_others.ensures ∙ others_counted i.slab i.seats.rows c.args.walker c.self.invariant.linked.seated in
    ap (nat_le i.most_waits) others ∙ ap (λ (w : WaitRows). is_full (collected c.args.walker w)) c.self.view_is
