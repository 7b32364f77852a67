use Rattle.std.proofs.Common.{refl, ap, ◌∙◌}
use Rattle.am_wait.specs.{WaitRows, fs_released}
use Rattle.am_wait.specs.declared.waits.Waits.TheInside.{Inside}
use Rattle.am_wait.proofs.FailLemmas.{failed_is, failed_kept}
use Rattle.am_wait.proofs.waits.Waits.release_fs.Goals as goal

pub invariant_of-self : goal.invariant_of-self
invariant_of-self c =
    let i = c.self.inside in
    let j : Inside = record { tokens = c.take_tokens_of.new.self; seats = i.seats; slab = c.fail_waits_of.new.slab; last_token = i.last_token; most_waits = i.most_waits; most_tokens = i.most_tokens } in
    failed_kept i j c.args.fs c.self.invariant (record { tokens = c.take_tokens_of.ensures; seats = refl; slab = c.fail_waits_of.ensures; last = refl; waiters = refl; numbers = refl })

pub returns : goal.returns
returns c =
    let i = c.self.inside in
    let j : Inside = record { tokens = c.take_tokens_of.new.self; seats = i.seats; slab = c.fail_waits_of.new.slab; last_token = i.last_token; most_waits = i.most_waits; most_tokens = i.most_tokens } in
    failed_is i j c.args.fs c.self.invariant (record { tokens = c.take_tokens_of.ensures; seats = refl; slab = c.fail_waits_of.ensures; last = refl; waiters = refl; numbers = refl }) ∙ ap (λ (x : WaitRows). fs_released c.args.fs x) c.self.view_is
