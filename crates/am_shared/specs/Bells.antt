-- Which walkers are woken: own choice (docs/DECISIONS.md, "Only who may be released is woken").
use Rattle.std.specs.Prelude.{ℕ, Bool, false, eqb, ◌%◌}
use Rattle.am_state.specs.{Obs}
use Rattle.am_state.specs.declared.obs.Obs.TheVariants.{Released}

-- the bell of a walker
abbrev pub bell_of : ℕ → ℕ
bell_of walker = walker % 64

-- what was seen releases a walker of this bell
abbrev pub is_rung_by : ℕ → Obs → Bool
is_rung_by bell (Released walker token status) = eqb (bell_of walker) bell
is_rung_by bell _ = false
