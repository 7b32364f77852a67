use Rattle.std.proofs.Common.{◌≡◌, ◌==◌, ◌≤◌, true, false, length, Some, sym, ap, ◌∙◌, arith}
use Rattle.std.proofs.lemmas.Bool.Decides.{nat_tests}
use Rattle.am_wait.specs.{HeldToken}
use Rattle.am_wait.proofs.RisingLemmas.{found_none, found_other, found_row, no_place, position_is_its_point}
use Rattle.am_wait.proofs.held.held_place.Goals as goal

pub returns-in_default : goal.returns-in_default
returns-in_default c =
    let past : length c.args.tokens.now.items ≤ c.tokens_below-at.result = rw c.in_default.is at c.get.ensures.item.3 in
    sym (no_place (λ (row : HeldToken). row.token == c.args.token) c.args.tokens.now.items (found_none (λ (row : HeldToken). row.token) c.args.token 0 c.tokens_below-at.result c.args.tokens.now.items c.requires.rising c.tokens_below-at.ensures past))

pub returns-then-ne : goal.returns-then-ne
returns-then-ne c =
    let row = c.in-Some.row.now in
    let differs : (row.token == c.args.token) ≡ false = grind (arith, nat_tests, c.ne.ensures, c.if-ne.true) in
    let there = rw c.in-Some.is at c.get.ensures.item.3 in
    let is = rw c.in-Some.is at c.get.ensures.item.1 in
    sym (no_place (λ (r : HeldToken). r.token == c.args.token) c.args.tokens.now.items (found_other (λ (r : HeldToken). r.token) c.args.token 0 c.tokens_below-at.result c.args.tokens.now.items row c.requires.rising c.tokens_below-at.ensures there.0 is differs))

pub returns : goal.returns
returns c =
    let row = c.in-Some.row.now in
    let same : (row.token == c.args.token) ≡ true = grind (arith, nat_tests, c.ne.ensures, c.if-ne.false) in
    let there = rw c.in-Some.is at c.get.ensures.item.3 in
    let is = rw c.in-Some.is at c.get.ensures.item.1 in
    let found = found_row (λ (r : HeldToken). r.token) c.args.token 0 c.tokens_below-at.result c.args.tokens.now.items row c.requires.rising c.tokens_below-at.ensures there.0 is same in
    ap (λ x. Some x) c.tokens_below-at.ensures ∙ sym (position_is_its_point (λ (r : HeldToken). r.token) c.args.token 0 c.args.tokens.now.items c.requires.rising (λ none. absurd (cc (sym found ∙ none))))
