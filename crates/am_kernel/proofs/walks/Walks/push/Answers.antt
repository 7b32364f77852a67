use Rattle.std.proofs.Common.{◌≡◌, ◌==◌, true, cond, List, [], ◌∷◌, ◌++◌, None, sym, ap, subst, ◌∙◌, arith}
use Rattle.std.specs.Prelude.{drop, is_some, length, vec_len}
use Rattle.std.proofs.lemmas.List.{drop-append-le}
use Rattle.am_kernel.specs.{WalkRow, walk_in, IsSingle}
use Rattle.am_kernel.specs.WalkTable.{WalkTable}
use Rattle.am_kernel.proofs.WaitingLemmas.{single_put, has_last}
use Rattle.am_kernel.proofs.walks.Walks.push.Goals as goal

pub invariant_of-self : goal.invariant_of-self
invariant_of-self c =
    let row : WalkRow = c.args.row in
    let rows : List WalkRow = drop c.self.inside.over c.self.inside.rows.items in
    let none : walk_in rows row.walker ≡ None = ap (λ (t : WalkTable). walk_in t.rows row.walker) c.self.view_is ∙ c.requires.none in
    let long : length c.self.inside.rows.items ≡ vec_len c.self.inside.rows = ap (λ (all : List WalkRow). length all) (sym c.as_slice-rows.ensures.value) ∙ c.as_slice-rows.ensures.len in
    let items : drop c.self.inside.over c.push_reserved.new.self.items ≡ rows ++ row ∷ [] =
    ap (drop c.self.inside.over) c.push_reserved.ensures.items ∙ drop-append-le c.self.inside.over c.self.inside.rows.items (row ∷ []) (omega (arith, c.self.invariant.within, long)) in
    record {
      within = omega (arith, c.self.invariant.within, c.push_reserved.ensures.len);
      single = subst IsSingle (sym items) (single_put rows row c.self.invariant.single none);
      known = λ q. c.add_turn.ensures q ∙ ap (cond (row.walker == q) true) (c.self.invariant.known q) ∙ sym (has_last rows row q)
          ∙ ap (λ (all : List WalkRow). is_some (walk_in all q)) (sym items);
    }
