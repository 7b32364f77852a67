use Rattle.std.proofs.Common.{ℕ, add-zero, arith}
use Rattle.am_lines.proofs.LineLemmas.{nothing_before}
use Rattle.am_lines.proofs.lines.next_line.Goals as goal

pub loop-front-init : goal.loop-front-init
loop-front-init c = record {
  so_far = λ (n : ℕ). rw (c.clear.ensures.items, add-zero) (nothing_before n c.args.text.now);
  raw = omega arith;
  counted = omega arith;
}
