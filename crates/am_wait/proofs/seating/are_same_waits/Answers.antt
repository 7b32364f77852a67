use Rattle.std.proofs.Common.{rules, ◌≡◌, ◌<◌, true, false, ℕ, length, arith}
use Rattle.am_wait.specs.{HasSameWait}
use Rattle.am_wait.proofs.AlikeLemmas.{one_more_within}
use Rattle.am_wait.proofs.seating.are_same_waits.Goals as goal

pub returns-then-not-is_same_at : goal.returns-then-not-is_same_at
returns-then-not-is_same_at c =
    let less : c.loop-index.index < length c.args.keys.now.entries = search rules in
    let differ : c.is_same_at.result ≡ false = c.if-not-is_same_at.true in (
      λ h. absurd cc,
      λ h.
          let same : c.is_same_at.result ≡ true = (c.is_same_at.ensures (0, 0)).1 (h c.loop-index.index (0, 0) less) in
          absurd cc,
    )

pub loop-index-preserved : goal.loop-index-preserved
loop-index-preserved c =
    let less : c.loop-index.index < length c.args.keys.now.entries = search rules in
    let P : ℕ × ℕ → Type 0 = λ e. HasSameWait c.args.slab.now c.args.seats.now.rows c.args.others.now c.args.other.now.rows e.0 in
    let same : c.is_same_at.result ≡ true = c.if-not-is_same_at.false in
    (one_more_within P c.args.keys.now.entries c.loop-index.index c.loop-index.invariant.0 (λ d. (c.is_same_at.ensures d).0 same), omega (arith, less))
