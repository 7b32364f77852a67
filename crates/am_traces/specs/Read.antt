-- What comes of reading: what is there, unless memory runs out. Own choice.
use Rattle.std.specs.Prelude.{◌≡◌, Result, Ok, Err}
use Rattle.am_traces.specs.declared.fault.Miss.{Miss}
use Rattle.am_traces.specs.declared.line.Stop.{Stop}
use Rattle.am_traces.specs.declared.line.Stop.TheVariants.{Missed, NoMemory}

-- what is there is read, or what misses is told; memory may run out
abbrev pub ReadAs : {T : Type 0} → Result T Miss → Result T Stop → Type 0
ReadAs there (Ok part) = there ≡ Ok part
ReadAs there (Err (Missed miss)) = there ≡ Err miss
ReadAs there (Err NoMemory) = Unit {0}
