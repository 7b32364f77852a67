use Rattle.std.proofs.Common.{◌≡◌, Some, refl, sym, ap, ◌∙◌}
use Rattle.am_wait.specs.declared.waits.Waits.TheInside.{Inside}
use Rattle.am_wait.specs.{WaitRows, wait_of, collected}
use Rattle.am_wait.specs.View.{rows_of}
use Rattle.am_wait.proofs.FreedLemmas.{collected_is, collected_kept}
use Rattle.am_wait.proofs.waits.Waits.collect.Goals as goal

pub invariant_of-self : goal.invariant_of-self
invariant_of-self c =
    let i = c.self.inside in
    let j : Inside = record { tokens = i.tokens; seats = c.take_wait.new.seats; slab = c.take_wait.new.slab; last_token = i.last_token; most_waits = i.most_waits; most_tokens = i.most_tokens } in
    let there : wait_of (rows_of i).waits c.args.walker ≡ Some c.in-Some.row = ap (λ (x : WaitRows). wait_of x.waits c.args.walker) c.self.view_is ∙ sym c.wait_of.ensures.wait ∙ c.in-Some.is in
    collected_kept i j c.args.walker c.in-Some.row c.in-Some-status.status c.self.invariant (record { there = there; released = c.in-Some-status.is; seats = c.take_wait.ensures.seats; freed = c.take_wait.ensures.freed; tokens = refl; last = refl; waiters = refl; numbers = refl })

pub returns-clause-ok : goal.returns-clause-ok
returns-clause-ok c =
    let i = c.self.inside in
    let j : Inside = record { tokens = i.tokens; seats = c.take_wait.new.seats; slab = c.take_wait.new.slab; last_token = i.last_token; most_waits = i.most_waits; most_tokens = i.most_tokens } in
    let there : wait_of (rows_of i).waits c.args.walker ≡ Some c.in-Some.row = ap (λ (x : WaitRows). wait_of x.waits c.args.walker) c.self.view_is ∙ sym c.wait_of.ensures.wait ∙ c.in-Some.is in
    collected_is i j c.args.walker c.in-Some.row c.in-Some-status.status c.self.invariant (record { there = there; released = c.in-Some-status.is; seats = c.take_wait.ensures.seats; freed = c.take_wait.ensures.freed; tokens = refl; last = refl; waiters = refl; numbers = refl }) ∙ ap (λ (x : WaitRows). collected c.args.walker x) c.self.view_is
