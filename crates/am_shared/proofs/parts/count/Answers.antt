use Rattle.std.proofs.Common.{length-append, arith}
use Rattle.am_shared.proofs.parts.count.Goals as goal

pub returns-clause-all : goal.returns-clause-all
returns-clause-all c =
    let parts = c.args.parts.now in
    omega (arith, c.requires.0, length-append parts.taken.items parts.history.items)
