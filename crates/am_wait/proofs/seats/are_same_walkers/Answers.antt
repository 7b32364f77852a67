use Rattle.std.proofs.Common.{rules, ◌≡◌, ◌<◌, true, false, ℕ, length, arith}
use Rattle.am_wait.specs.{row_at}
use Rattle.am_wait.proofs.AlikeLemmas.{one_more_mapped, each_mapped}
use Rattle.am_wait.proofs.seats.are_same_walkers.Goals as goal

pub returns-then-not-is_same_walker : goal.returns-then-not-is_same_walker
returns-then-not-is_same_walker c =
    let f : ℕ → ℕ = λ key. (row_at c.args.slab.now key).walker in
    let g : ℕ → ℕ = λ key. (row_at c.args.others.now key).walker in
    let less : c.loop-at.at < length c.args.keys.now = search rules in
    let below : c.loop-at.at < length c.args.other_keys.now = search rules in
    let differ : c.is_same_walker.result ≡ false = c.if-not-is_same_walker.true in (
      λ h. absurd cc,
      λ h.
          let same : c.is_same_walker.result ≡ true = c.is_same_walker.ensures.1 (each_mapped f g c.args.keys.now c.args.other_keys.now c.loop-at.at 0 0 less below h) in
          absurd cc,
    )

pub loop-at-preserved : goal.loop-at-preserved
loop-at-preserved c =
    let f : ℕ → ℕ = λ key. (row_at c.args.slab.now key).walker in
    let g : ℕ → ℕ = λ key. (row_at c.args.others.now key).walker in
    let less : c.loop-at.at < length c.args.keys.now = search rules in
    let below : c.loop-at.at < length c.args.other_keys.now = search rules in
    let same = c.is_same_walker.ensures.0 c.if-not-is_same_walker.false in
    (one_more_mapped f g c.args.keys.now c.args.other_keys.now c.loop-at.at 0 0 less below c.loop-at.invariant.0 same, omega (arith, less))
