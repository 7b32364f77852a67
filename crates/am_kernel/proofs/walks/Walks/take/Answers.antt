use Rattle.std.proofs.Common.{◌≡◌, ◌==◌, false, cond, List, sym, ap, subst, ◌∙◌}
use Rattle.std.specs.Prelude.{drop, is_some}
use Rattle.am_names.proofs.Basics.{none_where_not_some}
use Rattle.am_kernel.specs.{WalkRow, walk_in, IsSingle}
use Rattle.am_kernel.specs.WalkTable.{WalkTable}
use Rattle.am_kernel.proofs.WaitingLemmas.{none_taken, single_taken, has_others}
use Rattle.am_kernel.proofs.walks.Walks.take.Goals as goal

pub returns-in_default-clause-rows : goal.returns-in_default-clause-rows
returns-in_default-clause-rows c =
    let none : is_some (walk_in (drop c.self.inside.over c.self.inside.rows.items) c.args.walker) ≡ false =
    sym (c.self.invariant.known c.args.walker) ∙ sym c.turn_of.ensures ∙ ap is_some c.in_default.is in
    sym (none_taken c.args.walker c.args.self.now.rows
    (none_where_not_some _ (ap (λ (t : WalkTable). is_some (walk_in t.rows c.args.walker)) (sym c.self.view_is) ∙ none)))

pub invariant_of-self : goal.invariant_of-self
invariant_of-self c =
    let w = c.args.walker in
    let rows : List WalkRow = drop c.self.inside.over c.self.inside.rows.items in
    record {
      within = c.take_row.ensures.within;
      single = subst IsSingle (sym c.take_row.ensures.rows) (single_taken w rows c.self.invariant.single);
      known = λ q. c.take_turn.ensures.among q ∙ ap (cond (w == q) false) (c.self.invariant.known q) ∙ sym (has_others w rows q)
          ∙ ap (λ (left : List WalkRow). is_some (walk_in left q)) (sym c.take_row.ensures.rows);
    }
