use Rattle.std.proofs.Common.{◌∙◌}
use Rattle.am_script.proofs.Numerals.{number_is}
use Rattle.am_cli.proofs.number.read_u32.Goals as goal

pub returns : goal.returns
returns c = c.ok.ensures.value
    ∙ number_is 32 c.args.digits.now c.parse.result c.in_ok-numeral.ensures.some.0
    (rw c.in_ok-numeral.ensures.some.1 at c.parse.ensures.value.0)
