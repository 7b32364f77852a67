use Rattle.std.proofs.Common.{◌≡◌, ◌==◌, ◌≤◌, true, false, length, sym, arith}
use Rattle.std.proofs.lemmas.Bool.Decides.{nat_tests}
use Rattle.am_wait.specs.{HeldToken}
use Rattle.am_wait.proofs.RisingLemmas.{found_none, found_other, found_row}
use Rattle.am_wait.proofs.held.held_of.Goals as goal

pub returns-in_default : goal.returns-in_default
returns-in_default c =
    let past : length c.args.tokens.now.items ≤ c.tokens_below-at.result = rw c.in_default.is at c.get.ensures.item.3 in
    sym (found_none (λ (row : HeldToken). row.token) c.args.token 0 c.tokens_below-at.result c.args.tokens.now.items c.requires.rising c.tokens_below-at.ensures past)

pub returns-then-ne : goal.returns-then-ne
returns-then-ne c =
    let row = c.in-Some.row.now in
    let differs : (row.token == c.args.token) ≡ false = grind (arith, nat_tests, c.ne.ensures, c.if-ne.true) in
    let there = rw c.in-Some.is at c.get.ensures.item.3 in
    let is = rw c.in-Some.is at c.get.ensures.item.1 in
    sym (found_other (λ (r : HeldToken). r.token) c.args.token 0 c.tokens_below-at.result c.args.tokens.now.items row c.requires.rising c.tokens_below-at.ensures there.0 is differs)

pub returns : goal.returns
returns c =
    let row = c.in-Some.row.now in
    let same : (row.token == c.args.token) ≡ true = grind (arith, nat_tests, c.ne.ensures, c.if-ne.false) in
    let there = rw c.in-Some.is at c.get.ensures.item.3 in
    let is = rw c.in-Some.is at c.get.ensures.item.1 in
    sym (found_row (λ (r : HeldToken). r.token) c.args.token 0 c.tokens_below-at.result c.args.tokens.now.items row c.requires.rising c.tokens_below-at.ensures there.0 is same)
