use Rattle.std.proofs.Common.{◌≡◌, ◌≤◌, ℕ, List, length, sym, ap, subst, ◌∙◌, arith}
use Rattle.std.specs.List.{insert}
use Rattle.std.specs.VecDeque.{deque_len, deque_capacity}
use Rattle.am_trigger.specs.{used_in}
use Rattle.am_expire.specs.{IsListed}
use Rattle.am_expire.proofs.PlaceLemmas.{listed_appended, holds_where_room}
use Rattle.am_expire.proofs.order.Order.append.Goals as goal

pub returns-clause-listed : goal.returns-clause-listed
returns-clause-listed c =
    let uses = c.args.triggers.now.rows.uses in
    let places = c.args.self.now.places.items in
    let at = c.rank-at.result in
    let within : at ≤ length places = omega (arith, c.rank-at.ensures.bound, c.args.self.now.places.ok.0) in
    let made : c.insert-put.new.self.items ≡ insert places at (length uses) =
    holds_where_room c.insert-put.result (deque_len c.args.self.now.places) (deque_capacity c.args.self.now.places)
    c.insert-put.ensures.full c.requires.room c.insert-put.ensures.items
    ∙ ap (insert places at) c.use_count.ensures in
    subst (IsListed (used_in c.args.trigger.now c.args.moment uses)) (sym made)
    (listed_appended uses places c.requires.listed c.args.trigger.now c.args.moment at c.requires.fresh c.rank-at.ensures.rank within)
