-- What goes on sets_latest the latest moment.
use Rattle.std.proofs.Common.{◌≡◌, ℕ, List, Ok, sym, ap, subst}
use Rattle.am_state.specs.{Obs}
use Rattle.am_kernel.specs.{Progress, KernelState, Proceeds, Fails, Yields, moment_of, with_latest, at_moment}
use Rattle.am_kernel.specs.CallOutcome.{CallOutcome}

sets_latest : (o : CallOutcome) (moment : ℕ) (progress : Progress) (k new : KernelState) (before after : List Obs) → Yields o (Ok progress) k new before after →
    Yields (at_moment moment o) (Ok progress) k (with_latest moment new) before after
sets_latest (Proceeds answer shown made) moment progress k new before after h =
    (h.0, record { state = ap (with_latest moment) h.1.state; seen = h.1.seen })
sets_latest (Fails e) moment progress k new before after h = absurd h

pub moment_counts : (of : ℕ → CallOutcome) (now moment : ℕ) (progress : Progress) (k new kept : KernelState) (before after : List Obs) → moment ≡ moment_of k now → kept ≡ new → Yields (of moment) (Ok progress) k new before after →
    Yields (at_moment (moment_of k now) (of (moment_of k now))) (Ok progress) k (with_latest moment kept) before after
moment_counts of now moment progress k new kept before after is same h =
    subst (λ (m : ℕ). Yields (at_moment m (of m)) (Ok progress) k (with_latest moment kept) before after) is
    (sets_latest (of moment) moment progress k kept before after (subst (λ (x : KernelState). Yields (of moment) (Ok progress) k x before after) (sym same) h))
