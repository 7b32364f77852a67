-- The exit statuses of a command line that is none, and the numbers of one that is: own choice
-- (docs/FORMATS.md, "The program").
use Rattle.std.specs.Prelude.{ℕ, ◌≤◌, ⊤, Option, None, Some}
use Rattle.am_cli.specs.declared.args.Args.{Args}
use Rattle.am_cli.specs.declared.args.Args.TheVariants.{Script, Trace, Draw, World, Serve, Explore, Judge, Import}
use Rattle.am_cli.specs.declared.args.Args.TheVariants.{Threads, Help, Version}
use Rattle.am_cli.specs.declared.args.ArgsFault.{ArgsFault}
use Rattle.am_cli.specs.declared.args.ArgsFault.TheVariants.{NoMemory, Usage}

-- the exit status
abbrev pub fault_number : ArgsFault → ℕ
fault_number NoMemory = 1
fault_number Usage = 2

-- it is refused for that, or memory ran out
abbrev pub RefusedFor : Type 0 → ArgsFault → Type 0
RefusedFor why NoMemory = ⊤
RefusedFor why Usage = why

-- from 1 to the most
abbrev pub IsUpTo : ℕ → ℕ → Type 0
IsUpTo most number = (1 ≤ number) × (number ≤ most)

-- so many at most, if it is there
abbrev pub IsNumberUpTo : ℕ → Option ℕ → Type 0
IsNumberUpTo most None = ⊤
IsNumberUpTo most (Some number) = number ≤ most

-- numbers of events, of a namespace and of states, and so many threads and rounds, as may be asked for
abbrev pub IsInRange : Args → Type 0
IsInRange Script = ⊤
IsInRange (Trace plain) = ⊤
IsInRange (Draw first last) = IsUpTo 4294967295 first × IsUpTo 4294967295 last
IsInRange (World namespace) = IsNumberUpTo 4294967295 namespace
IsInRange Serve = ⊤
IsInRange (Explore most prefix) = IsUpTo 4294967295 most
IsInRange Judge = ⊤
IsInRange Import = ⊤
IsInRange (Threads walkers workers rounds) = IsUpTo 16 walkers × IsUpTo 16 workers × IsUpTo 1000 rounds
IsInRange (Help topic) = ⊤
IsInRange Version = ⊤
