-- What the lines of a text are read as, one after another. Own choice.
use Rattle.std.specs.Prelude.{◌≡◌, ℕ, ◌+◌, ◌-◌, List, [], ◌∷◌, ◌++◌, length, Result, Ok, Err, if◌then◌else◌}
use Rattle.am_state.specs.{Obs}
use Rattle.am_traces.specs.declared.fault.Miss.{Miss}
use Rattle.am_traces.specs.declared.fault.TraceFault.{TraceFault}
use Rattle.am_traces.specs.declared.fault.TraceFault.TheVariants.{BadLine, NoMemory}
use Rattle.am_traces.specs.Observations.{line_read}
use Rattle.am_traces.specs.Says.{is_indented}

-- what misses in this line, of which there are so many above
abbrev pub fault_at : ℕ → List ℕ → Miss → TraceFault
fault_at above line miss =
    BadLine (above + 1) ((length line - miss.left) + 1) miss.expected

-- the observation of a line, or its fault
abbrev pub told_at : ℕ → List ℕ → Result Obs Miss → Result Obs TraceFault
told_at above line (Ok obs) = Ok obs
told_at above line (Err miss) = Err (fault_at above line miss)

-- an observation, and those that follow
abbrev pub followed : Result Obs TraceFault → Result (List Obs) TraceFault → Result (List Obs) TraceFault
followed (Err fault) others = Err fault
followed (Ok obs) (Err fault) = Err fault
followed (Ok obs) (Ok others) = Ok (obs ∷ others)

-- the observation of a line, if it is indented, and those that follow
abbrev pub with_line : ℕ → List ℕ → Result (List Obs) TraceFault → Result (List Obs) TraceFault
with_line above line others =
    if is_indented line then followed (told_at above line (line_read line)) others else others

-- the observations of these lines, of which so many stand above, or the first fault
unfoldable pub lines_read : ℕ → List (List ℕ) → Result (List Obs) TraceFault
lines_read above [] = Ok []
lines_read above (line ∷ lines) =
    with_line above line (lines_read (above + 1) lines)

-- these observations, and then those
abbrev pub onto : List Obs → Result (List Obs) TraceFault → Result (List Obs) TraceFault
onto seen (Ok others) = Ok (seen ++ others)
onto seen (Err fault) = Err fault

-- the observation of the line is read, or its fault is told; memory may run out
abbrev pub LineReadAs : Result Obs TraceFault → Result Obs TraceFault → Type 0
LineReadAs there (Ok obs) = there ≡ Ok obs
LineReadAs there (Err (BadLine line column expected)) = there ≡ Err (BadLine line column expected)
LineReadAs there (Err NoMemory) = Unit {0}

-- the observations are read that are there, or the first fault is told; memory may run out
abbrev pub IsReadAs : Result (List Obs) TraceFault → TraceFault → Type 0
IsReadAs there (BadLine line column expected) = there ≡ Err (BadLine line column expected)
IsReadAs there NoMemory = Unit {0}

-- the observation of the line, if it has one, stands behind those that there were
abbrev pub IsTaken : ℕ → List ℕ → List Obs → List Obs → Type 0
IsTaken above line old new =
    (others : Result (List Obs) TraceFault) → onto old (with_line above line others) ≡ onto new others

-- the line has a fault, which is told, or memory runs out
abbrev pub IsNotTaken : ℕ → List ℕ → TraceFault → Type 0
IsNotTaken above line fault =
    (others : Result (List Obs) TraceFault) → IsReadAs (with_line above line others) fault
