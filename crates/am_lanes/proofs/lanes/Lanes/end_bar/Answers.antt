use Rattle.std.proofs.Common.{List, Option, sym, ap, subst, ◌∙◌}
use Rattle.am_lanes.specs.{Holder, is_of}
use Rattle.am_lanes.specs.Inside.{IsOnce}
use Rattle.am_lanes.proofs.LaneLemmas.{own_number}
use Rattle.am_lanes.proofs.lanes.Lanes.end_bar.Goals as goal

pub put-requires : goal.put-requires
put-requires c = λ l is.
    let once = subst (λ (xs : List (Option Holder)). IsOnce xs) c.self.view_is c.self.invariant.once in
    once c.ended.result.number l c.args.lane is
    (ap (is_of c.ended.result.number) (sym c.holder.ensures ∙ c.in-Some.is)
    ∙ own_number c.in-Some.holder c.ended.result.number (ap (λ (h : Holder). h.number) c.ended.ensures))
