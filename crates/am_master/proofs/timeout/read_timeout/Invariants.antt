use Rattle.std.proofs.Common.{◌≡◌, length}
use Rattle.am_lines.specs.{words_of}
use Rattle.am_master.specs.{timeout_of, timeout_values, timeout_read}
use Rattle.am_master.proofs.timeout.read_timeout.Given as goal

abbrev pub invariant-loop-value : goal.invariant-loop-value
invariant-loop-value l = timeout_of l.timeout (timeout_values (words_of l.rest)) ≡ timeout_read (words_of l.fn.options)

abbrev pub decreases-loop-value : goal.decreases-loop-value
decreases-loop-value l = length l.rest
