-- When two triggers are one (autofs.rst, "Mount Traps"; docs/DECISIONS.md, "A trigger is a file
-- system and a name").
use Rattle.std.specs.Prelude.{ℕ, ◌==◌, Bool, true, false, ◌&&◌, List, Option, None, Some}
use Rattle.std.specs.Str.{bytes_eq}
use Rattle.am_names.specs.declared.trigger.Trigger.{Trigger}

-- both are direct, or both have this name
abbrev pub same_name : Option (List ℕ) → Option (List ℕ) → Bool
same_name None None = true
same_name None (Some other) = false
same_name (Some name) None = false
same_name (Some name) (Some other) = bytes_eq name other

-- the same file system, and the same name in it
abbrev pub same_trigger : Trigger → Trigger → Bool
same_trigger one other = one.fs == other.fs && same_name one.name other.name
