use Rattle.std.proofs.Common.{◌≡◌, Option, None, sym, ap, subst, ◌∙◌}
use Rattle.std.specs.Prelude.{is_some, OnOk}
use Rattle.am_names.specs.{RefusedAs}
use Rattle.am_names.specs.declared.errno.Errno.{Errno}
use Rattle.am_names.proofs.Basics.{none_where_not_some}
use Rattle.am_wait.specs.{WaitRows, wait_of, joined}
use Rattle.am_wait.proofs.CallLemmas.{idle_joins, idle_collected}
use Rattle.am_wait.proofs.waits.Waits.join.Goals as goal

pub returns-clause-refusal : goal.returns-clause-refusal
returns-clause-refusal c =
    let idle : wait_of c.args.self.now.waits c.args.walker ≡ None = none_where_not_some _ (ap (λ o. is_some o) (sym c.wait_of.ensures.wait) ∙ sym c.is_some.ensures ∙ c.if-is_some.false) in
    subst (λ (first : Option Errno). RefusedAs first c.rejoin.result) (idle_joins c.args.token c.args.walker c.args.self.now idle) c.rejoin.ensures.refusal

pub returns-clause-ok : goal.returns-clause-ok
returns-clause-ok c =
    let idle : wait_of c.args.self.now.waits c.args.walker ≡ None = none_where_not_some _ (ap (λ o. is_some o) (sym c.wait_of.ensures.wait) ∙ sym c.is_some.ensures ∙ c.if-is_some.false) in
    subst (λ (w : WaitRows). OnOk c.rejoin.result (c.rejoin.new.self ≡ joined c.args.token c.args.walker w)) (idle_collected c.args.walker c.args.self.now idle) c.rejoin.ensures.ok
