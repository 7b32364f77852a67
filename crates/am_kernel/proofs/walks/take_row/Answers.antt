use Rattle.std.proofs.Common.{◌==◌, sym, ap, ◌∙◌, arith}
use Rattle.std.specs.Prelude.{drop, position}
use Rattle.am_kernel.specs.{WalkRow}
use Rattle.am_kernel.proofs.WaitingLemmas.{none_there, first_taken, taken_behind}
use Rattle.am_kernel.proofs.walks.take_row.Goals as goal

pub returns-in_default-clause-rows : goal.returns-in_default-clause-rows
returns-in_default-clause-rows c =
    sym (none_there c.args.walker (drop c.args.over.now c.args.rows.now.items)
    (sym (c.place_of.ensures ∙ ap (position (λ (row : WalkRow). row.walker == c.args.walker)) c.live.ensures) ∙ c.in_default.is))

pub returns-then-place-eq0-clause-rows : goal.returns-then-place-eq0-clause-rows
returns-then-place-eq0-clause-rows c =
    c.pass.ensures.rows
    ∙ first_taken c.args.walker c.args.over.now c.in-Some.place c.args.rows.now.items c.requires.single
    (sym (c.place_of.ensures ∙ ap (position (λ (row : WalkRow). row.walker == c.args.walker)) c.live.ensures) ∙ c.in-Some.is)
    (grind (arith, c.if-place-eq0.true))

pub returns-else-place-eq0-clause-rows : goal.returns-else-place-eq0-clause-rows
returns-else-place-eq0-clause-rows c =
    ap (drop c.args.over.now) c.remove-row.ensures.items
    ∙ taken_behind c.args.walker c.args.over.now c.in-Some.place c.args.rows.now.items c.requires.single
    (sym (c.place_of.ensures ∙ ap (position (λ (row : WalkRow). row.walker == c.args.walker)) c.live.ensures) ∙ c.in-Some.is)
