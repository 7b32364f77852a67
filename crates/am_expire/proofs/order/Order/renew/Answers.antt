use Rattle.std.proofs.Common.{◌≡◌, ◌≤◌, ◌<◌, ◌-◌, ℕ, Option, Some, List, cond, nat_lt, length, sym, ap, subst, ◌∙◌, arith}
use Rattle.std.specs.Prelude.{slice_get}
use Rattle.std.specs.List.{insert, remove}
use Rattle.std.specs.Option.{option_map, unwrap_or}
use Rattle.std.specs.VecDeque.{deque_len, deque_capacity}
use Rattle.am_names.specs.declared.trigger.Trigger.{Trigger}
use Rattle.am_trigger.specs.{used_in}
use Rattle.am_expire.specs.{IsListed}
use Rattle.am_expire.proofs.PlaceLemmas.{used_again, from_within, listed_renewed, holds_where_some, holds_where_room}
use Rattle.am_expire.proofs.order.Order.renew.Goals as goal

pub returns-then-last-moment-clause-listed : goal.returns-then-last-moment-clause-listed
returns-then-last-moment-clause-listed c =
    let uses = c.args.triggers.now.rows.uses in
    let trigger = c.args.trigger.now in
    let last = c.unwrap_or-last.result in
    let last_is : last ≡ c.requires.there.0 =
    c.unwrap_or-last.ensures ∙ ap (λ (o : Option ℕ). unwrap_or o c.args.moment) (c.last_use_at.ensures ∙ ap (option_map (λ (row : Trigger × ℕ). row.1)) c.requires.there.1) in
    let there : slice_get uses c.args.place ≡ Some (trigger, last) = c.requires.there.1 ∙ ap (λ (n : ℕ). Some (trigger, n)) (sym last_is) in
    let same : last ≡ c.args.moment = sym c.last.view_is ∙ c.if-last-moment.true ∙ c.moment.view_is in
    let again : used_in trigger c.args.moment uses ≡ uses =
    ap (λ (n : ℕ). used_in trigger n uses) (sym same) ∙ used_again trigger last uses c.args.place c.requires.once there in
    subst (λ (us : List (Trigger × ℕ)). IsListed us c.args.self.now.places.items) (sym again) c.requires.listed

pub returns-clause-listed : goal.returns-clause-listed
returns-clause-listed c =
    let uses = c.args.triggers.now.rows.uses in
    let places = c.args.self.now.places.items in
    let trigger = c.args.trigger.now in
    let last = c.unwrap_or-last.result in
    let from = c.rank-from.result in
    let to = c.rank-to.result in
    let last_is : last ≡ c.requires.there.0 =
    c.unwrap_or-last.ensures ∙ ap (λ (o : Option ℕ). unwrap_or o c.args.moment) (c.last_use_at.ensures ∙ ap (option_map (λ (row : Trigger × ℕ). row.1)) c.requires.there.1) in
    let there : slice_get uses c.args.place ≡ Some (trigger, last) = c.requires.there.1 ∙ ap (λ (n : ℕ). Some (trigger, n)) (sym last_is) in
    let long = c.args.self.now.places.ok.0 in
    let within : to ≤ length places = omega (arith, c.rank-to.ensures.bound, long) in
    let here : from < length places =
    from_within uses places c.requires.listed c.requires.once trigger last c.args.moment c.args.place from to there c.rank-from.ensures.rank c.rank-to.ensures.rank within in
    let some = c.remove-gone.ensures.variant.1 (omega (arith, here, long)) in
    let gone : c.remove-gone.new.self.items ≡ remove places from = holds_where_some c.remove-gone.result some c.remove-gone.ensures.items in
    let less = holds_where_some c.remove-gone.result some c.remove-gone.ensures.len in
    let made : c.insert-put.new.self.items ≡ insert (remove places from) (cond (nat_lt from to) (to - 1) to) c.args.place =
    holds_where_room c.insert-put.result (deque_len c.remove-gone.new.self) (deque_capacity c.remove-gone.new.self)
    c.insert-put.ensures.full (omega (arith, less, c.remove-gone.ensures.capacity, c.args.self.now.places.small.1)) c.insert-put.ensures.items
    ∙ ap (λ (ps : List ℕ). insert ps c.moved.result c.args.place) gone
    ∙ ap (λ (n : ℕ). insert (remove places from) n c.args.place) c.moved.ensures in
    subst (IsListed (used_in trigger c.args.moment uses)) (sym made)
    (listed_renewed uses places c.requires.listed c.requires.once trigger last c.args.moment c.args.place from to there c.rank-from.ensures.rank c.rank-to.ensures.rank within)
