-- A path is names (path_resolution(7)).
use Rattle.std.specs.Prelude.{◌≡◌, ⊤, ℕ, true, List}
use Rattle.std.specs.List.{list_all, All}
use Rattle.am_names.specs.{is_name}
use Rattle.am_machine.specs.declared.event.Event.{Event}
use Rattle.am_machine.specs.declared.event.Event.TheVariants as events

-- each part of the path is a name
abbrev pub IsPath : List (List ℕ) → Type 0
IsPath path = list_all is_name path ≡ true

-- what the event has for paths are paths
abbrev pub HasPaths : Event → Type 0
HasPaths (events.Attach path) = IsPath path
HasPaths (events.Mount ns path) = IsPath path
HasPaths (events.Bind ns from to) = IsPath from × IsPath to
HasPaths (events.Umount ns path) = IsPath path
HasPaths (events.Change ns path change) = IsPath path
HasPaths (events.Kind ns path) = IsPath path
HasPaths (events.Walk walker ns path now pipe) = IsPath path
HasPaths _ = ⊤

-- what these events have for paths are paths
abbrev pub HavePaths : List Event → Type 0
HavePaths events = All HasPaths events
