use Rattle.std.proofs.Common.{nat_lt, sym, ap, ◌∙◌}
use Rattle.am_expire.proofs.IndexLemmas.{used_is}
use Rattle.am_expire.proofs.uses.UsesInUse.in_use.Goals as goal

pub returns : goal.returns
returns c = ap (nat_lt 0) c.count.ensures ∙ sym (used_is c.args.self.now c.args.mount)
