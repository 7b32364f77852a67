-- The numbers of a pipe that its ends share: own choice (docs/DECISIONS.md, "A refused put has
-- read the number of takes").
use Rattle.std.specs.Prelude.{◌≡◌, ℕ, ◌+◌, ◌^◌, ◌%◌, ◌==◌, ◌||◌, false, length, slice_index}
use Rattle.atomic_table.specs.Table.{State}
use Rattle.atomic_table.specs.declared.shared.Seat.{Seat}
use Rattle.am_pipe.specs.declared.meter.MeterView.{MeterView}
use Rattle.am_pipe.specs.Ends.{total}

-- an end that has done nothing
abbrev pub fresh_view : MeterView
fresh_view = record { took = 0; put = 0; looks = 0; seen = 0; freed = 0; over = false }

-- the put end looked, and read that so many takes are over
abbrev pub looked : MeterView → ℕ → MeterView
looked v n = record v { looks = v.looks + 1; freed = n }

-- a take end looked, and read that so many puts are over; of takes it has read none since
abbrev pub asked : MeterView → ℕ → MeterView
asked v n = record v { looks = v.looks + 1; seen = n; freed = 0 }

-- it read that so many takes are over
abbrev pub told : MeterView → ℕ → MeterView
told v n = record v { freed = n }

-- it counted a take
abbrev pub freed_one : MeterView → MeterView
freed_one v = record v { took = v.took + 1 }

-- it counted a put
abbrev pub put_one : MeterView → MeterView
put_one v = record v { put = v.put + 1 }

-- it read whether the pipe is closed, where 1 says that it is
abbrev pub ended : MeterView → ℕ → MeterView
ended v n = record v { over = n == 1 || v.over }

-- there are three numbers; the first is that of all takes that the ends counted, as far as 64 bits go, and the third
-- that of all puts
pub record IsMeter {S : Type 0} (s : State S MeterView) : Type 0 where
  pub wide : length s.words ≡ 3
  pub counted : slice_index s.words 0 ≡ total (λ (v : MeterView). v.took) s.views % 2 ^ 64
  pub given : slice_index s.words 2 ≡ total (λ (v : MeterView). v.put) s.views % 2 ^ 64

-- what the end with this seat knows
abbrev pub read_by : {S : Type 0} → Seat S MeterView → MeterView
read_by seat = seat.me.0
