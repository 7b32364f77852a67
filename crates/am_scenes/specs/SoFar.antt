-- What lines of a scene have said: own choice (docs/FORMATS.md, "Scenes").
use Rattle.std.specs.Prelude.{ℕ, List, [], Option, None}
use Rattle.am_names.specs.declared.fail_no.FailNo.{FailNo}
use Rattle.am_machine.specs.{Event}
use Rattle.am_scenes.specs.Asking.{AskedLine}

-- a thread that has no `end` yet: the number of its first line, and its events so far
pub record Unended : Type 0 where
  pub line : ℕ
  pub events : List Event

-- what the lines so far have said
pub record SceneSoFar : Type 0 where
  -- the name of each thread
  pub names : List (List ℕ)
  -- the events of each thread that has its `end`
  pub threads : List (List Event)
  -- the thread of which the next line is one
  pub within : Option Unended
  -- how the acts of a daemon that serves may come out
  pub service : Option (List (Option FailNo))
  pub asked : List AskedLine

-- nothing is said yet
abbrev pub nothing_said : SceneSoFar
nothing_said = record { names = []; threads = []; within = None; service = None; asked = [] }
