use Rattle.std.proofs.Common.{◌≡◌, ◌==◌, ◌≤◌, ◌<◌, true, false, length, get_or, ℕ, remove, sym, ap, ◌∙◌, arith}
use Rattle.std.specs.Prelude.{nat_le}
use Rattle.std.specs.List.{position_or_len}
use Rattle.std.specs.VecDeque.{deque_len}
use Rattle.std.proofs.lemmas.Bool.Decides.{nat_tests}
use Rattle.am_wait.specs.{HeldToken}
use Rattle.am_wait.proofs.CallLemmas.{all_kept}
use Rattle.am_wait.proofs.RisingLemmas.{found_none, found_other, found_row, taken_at_its_point}
use Rattle.am_wait.proofs.held.take_token.Goals as goal

pub returns-in_default : goal.returns-in_default
returns-in_default c =
    let tokens = c.args.tokens.now.items in
    let at : c.tokens_below-at.result ≡ position_or_len (λ (row : HeldToken). nat_le c.args.token row.token) tokens = c.tokens_below-at.ensures in
    let past : length tokens ≤ c.tokens_below-at.result = rw c.in_default.is at c.get.ensures.item.3 in
    sym (all_kept (λ (row : HeldToken). row.token == c.args.token) tokens (found_none (λ (row : HeldToken). row.token) c.args.token 0 c.tokens_below-at.result tokens c.requires.rising at past))

pub returns-then-ne : goal.returns-then-ne
returns-then-ne c =
    let tokens = c.args.tokens.now.items in
    let at : c.tokens_below-at.result ≡ position_or_len (λ (row : HeldToken). nat_le c.args.token row.token) tokens = c.tokens_below-at.ensures in
    let row = c.in-Some.row.now in
    let differs : (row.token == c.args.token) ≡ false = grind (arith, nat_tests, c.ne.ensures, c.if-ne.true) in
    let there : c.tokens_below-at.result < length tokens = (rw c.in-Some.is at c.get.ensures.item.3).0 in
    let is : row ≡ get_or tokens c.tokens_below-at.result row = rw c.in-Some.is at c.get.ensures.item.1 in
    sym (all_kept (λ (s : HeldToken). s.token == c.args.token) tokens (found_other (λ (s : HeldToken). s.token) c.args.token 0 c.tokens_below-at.result tokens row c.requires.rising at there is differs))

pub returns : goal.returns
returns c =
    let tokens = c.args.tokens.now.items in
    let at : c.tokens_below-at.result ≡ position_or_len (λ (row : HeldToken). nat_le c.args.token row.token) tokens = c.tokens_below-at.ensures in
    let row = c.in-Some.row.now in
    let same : (row.token == c.args.token) ≡ true = grind (arith, nat_tests, c.ne.ensures, c.if-ne.false) in
    let there : c.tokens_below-at.result < length tokens = (rw c.in-Some.is at c.get.ensures.item.3).0 in
    let is : row ≡ get_or tokens c.tokens_below-at.result row = rw c.in-Some.is at c.get.ensures.item.1 in
    let found = found_row (λ (s : HeldToken). s.token) c.args.token 0 c.tokens_below-at.result tokens row c.requires.rising at there is same in
    let within : c.tokens_below-at.result < deque_len c.args.tokens.now = omega (arith, there, c.args.tokens.now.ok.0) in
    let left : c.remove-row.new.self.items ≡ remove tokens c.tokens_below-at.result = rw (c.remove-row.ensures.succeeds row within) at c.remove-row.ensures.items in
    left ∙ ap (λ (i : ℕ). remove tokens i) at ∙ taken_at_its_point (λ (s : HeldToken). s.token) c.args.token 0 tokens c.requires.rising (λ none. absurd (cc (sym found ∙ none)))
