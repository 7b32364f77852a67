-- The first fault of a text that is read as a path (path_resolution(7); the order of the tests is
-- an own choice, docs/FORMATS.md, "Numbers and bytes").
use Rattle.std.specs.Prelude.{◌≡◌, ℕ, true, ◌==◌, nat_lt, List, [], ◌∷◌, length, Option, Some, None, if◌then◌else◌}
use Rattle.std.specs.List.{list_all}
use Rattle.am_names.specs.declared.errno.Errno.{Errno}
use Rattle.am_names.specs.declared.errno.Errno.TheVariants.{ENAMETOOLONG, EINVAL}
use Rattle.am_names.specs.Name.{is_name}
use Rattle.am_names.specs.Path.{names_of}

-- the test of `name_read` that fails
abbrev pub name_fault : List ℕ → Option Errno
name_fault bytes =
    if nat_lt 255 (length bytes) then Some ENAMETOOLONG
    else if is_name bytes then None
    else Some EINVAL

-- an empty part has no fault
abbrev pub part_fault : List ℕ → Option Errno
part_fault part = if length part == 0 then None else name_fault part

-- the first of two faults
abbrev pub fault_or : Option Errno → Option Errno → Option Errno
fault_or (Some e) others = Some e
fault_or None others = others

-- the first fault among parts
abbrev pub first_fault : List (List ℕ) → Option Errno
first_fault [] = None
first_fault (part ∷ parts) = fault_or (part_fault part) (first_fault parts)

-- each part that is not empty is a name
abbrev pub AreNames : List ℕ → Type 0
AreNames text = list_all is_name (names_of text) ≡ true
