-- How many lines were taken.
use Rattle.std.proofs.Common.{◌≤◌, ◌+◌, ◌-◌, ◌^◌, ℕ, Option, Some, None, IfSome, arith}
use Rattle.am_serve.specs.declared.service.Saved.{Saved}
use Rattle.am_serve.specs.declared.service.Service.{Service}
use Rattle.am_serve.specs.Keeping.{AreFew}

saved_more : (saved : Option Saved) (a b : ℕ) → a ≤ b → IfSome saved (λ (s : Saved). s.lines ≤ a) → IfSome saved (λ (s : Saved). s.lines ≤ b)
saved_more None a b le few = tt
saved_more (Some saved) a b le few = omega (arith, few, le)

-- no more than these are no more than so many
pub few_more : (service : Service) (a b : ℕ) → a ≤ b → AreFew service a → AreFew service b
few_more service a b le few = record { lines = omega (arith, few.lines, le); saved = saved_more service.saved a b le few.saved }
