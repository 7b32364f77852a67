use Rattle.std.proofs.Common.{◌∙◌}
use Rattle.am_mount_lines.proofs.Numbers.{number_is}
use Rattle.am_mount_lines.proofs.number.read_u64.Goals as goal

pub returns : goal.returns
returns c =
    c.ok.ensures.value ∙ number_is 64 c.args.word.now c.parse.result c.in_ok-digits.ensures.some.0
    (rw c.in_ok-digits.ensures.some.1 at c.parse.ensures.value.0)
