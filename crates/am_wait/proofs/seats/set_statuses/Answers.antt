use Rattle.std.proofs.Common.{take, get_or, sym, subst, List, ℕ}
use Rattle.std.proofs.lemmas.List.{take_more}
use Rattle.am_wait.proofs.SeatLemmas.{SetsAll, statuses_more}
use Rattle.am_wait.proofs.seats.set_statuses.Goals as goal

pub loop-key-preserved : goal.loop-key-preserved
loop-key-preserved c =
    let keys = c.args.keys.now in
    let at = c.loop-key.key-index in
    subst (λ (ks : List ℕ). SetsAll c.args.slab.now c.set_status.new.slab c.args.status ks) (sym (take_more keys at 0 c.loop-key-test.true))
    (statuses_more c.args.slab.now c.loop-key.slab c.set_status.new.slab c.args.status (take at keys) (get_or keys at 0) c.loop-key.invariant c.set_status.ensures.this c.set_status.ensures.others)
