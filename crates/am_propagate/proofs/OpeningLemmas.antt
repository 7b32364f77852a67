-- Without mounts there is no master.
use Rattle.std.proofs.Common.{inl, inr}
use Rattle.am_group.specs.{IsPeopled, no_mounts}

pub none_peopled : IsPeopled no_mounts
none_peopled g (inl (m, e)) = absurd cc
none_peopled g (inr (h, e)) = absurd cc
