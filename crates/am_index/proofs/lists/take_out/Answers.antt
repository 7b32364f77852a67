use Rattle.std.proofs.Common.{◌≡◌, ◌-◌, ℕ, length, take, slice_get, Some, sym, ap, ◌∙◌, rules}
use Rattle.std.specs.Vec.{vec_len}
use Rattle.am_index.proofs.PlaceLemmas.{but_greatest}
use Rattle.am_index.proofs.lists.take_out.Goals as goal

pub returns-then-eq : goal.returns-then-eq
returns-then-eq c =
    let list = c.args.list.now.items in
    let last : slice_get list (length list - 1) ≡ Some c.args.item = search rules in
    let len : vec_len c.args.list.now ≡ length list = search rules in
    c.pop-greatest.ensures.rest ∙ ap (λ (n : ℕ). take (n - 1) list) len ∙
    sym (but_greatest c.args.item list c.requires last)
