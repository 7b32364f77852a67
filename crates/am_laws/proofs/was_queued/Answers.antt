use Rattle.std.proofs.Common.{◌≡◌, true, nat_lt, sym, ◌∙◌, arith}
use Rattle.std.proofs.lemmas.Bool.Decides.{nat_tests}
use Rattle.am_laws.proofs.Grows.{greater_no}
use Rattle.am_laws.proofs.was_queued.Goals as goal

pub returns-then-is_greater : goal.returns-then-is_greater
returns-then-is_greater c =
    let more : nat_lt c.args.greatest c.args.token ≡ true = sym c.is_greater.ensures ∙ c.if-is_greater.true in
    sym (greater_no c.args.greatest c.args.token c.args.before.now c.requires (grind (arith, nat_tests, more)))
