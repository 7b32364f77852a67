use Rattle.std.proofs.Common.{sym, ap, subst, ◌∙◌}
use Rattle.am_expire.specs.{IsPick, rows_in, expiry_in, due_at}
use Rattle.am_expire.proofs.UpLemmas.{pick_up, exact_up, none_off, exact_off}
use Rattle.am_expire.proofs.expiry.View.pick_in.Goals as goal

pub returns-then-is_off-clause-pick : goal.returns-then-is_off-clause-pick
returns-then-is_off-clause-pick c = none_off (expiry_in c.args.self.now) (sym c.is_off.ensures ∙ c.if-is_off.true)

pub returns-then-is_off-clause-exact : goal.returns-then-is_off-clause-exact
returns-then-is_off-clause-exact c = exact_off (expiry_in c.args.self.now) (sym c.is_off.ensures ∙ c.if-is_off.true)

pub returns-clause-pick : goal.returns-clause-pick
returns-clause-pick c =
    let e = expiry_in c.args.self.now in
    subst (IsPick e) (ap (due_at e (rows_in c.args.part.now)) (sym c.in_ok-passed.ensures.ok) ∙ sym c.due_at.ensures)
    (pick_up e (rows_in c.args.part.now) c.requires.order)

pub returns-clause-exact : goal.returns-clause-exact
returns-clause-exact c =
    let e = expiry_in c.args.self.now in
    c.due_at.ensures ∙ ap (due_at e (rows_in c.args.part.now)) c.in_ok-passed.ensures.ok
    ∙ exact_up e (rows_in c.args.part.now) c.requires.order
