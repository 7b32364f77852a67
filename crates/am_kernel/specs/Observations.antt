-- What is seen of walkers that pass triggers and that are released (autofs.rst, "Mount Traps" and
-- "Catatonic mode").
use Rattle.std.specs.Prelude.{ℕ, List, map}
use Rattle.am_names.specs.declared.trigger.Trigger.{Trigger}
use Rattle.am_names.specs.{Status}
use Rattle.am_state.specs.{Obs}
use Rattle.am_state.specs.declared.obs.Obs.TheVariants as seen

-- the walker passed these triggers, in this order
abbrev pub passes : ℕ → List Trigger → List Obs
passes walker triggers = map (λ trigger. seen.Passed walker trigger) triggers

-- these walkers are released with the status, in the order in which they joined
abbrev pub releases : ℕ → Status → List ℕ → List Obs
releases token status walkers = map (λ walker. seen.Released walker token status) walkers
