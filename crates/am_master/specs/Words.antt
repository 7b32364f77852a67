-- What the words of a master line may be (auto.master(5), "FORMAT").
use Rattle.std.specs.Prelude.{ℕ, Bool, not, ◌||◌, List, [], ◌∷◌, codes, Result, Ok, Err, if◌then◌else◌}
use Rattle.std.specs.Str.{bytes_eq}
use Rattle.std.specs.List.{list_any, before_first, after_first}
use Rattle.am_names.specs.declared.errno.Errno.{Errno}
use Rattle.am_names.specs.{path_read}
use Rattle.am_lines.specs.{begins_with, is_colon}
use Rattle.am_master.specs.declared.fault.MasterFaultKind.{MasterFaultKind}
use Rattle.am_master.specs.declared.fault.MasterFaultKind.TheVariants.{BadPoint, NoMap, BadType}
use Rattle.am_master.specs.declared.point.Point.{Point}
use Rattle.am_master.specs.declared.point.Point.TheVariants.{Direct, Indirect}

-- a path other than the root
abbrev pub below_root : Result (List (List ℕ)) Errno → Result (List (List ℕ)) MasterFaultKind
below_root (Ok []) = Err BadPoint
below_root (Ok (name ∷ names)) = Ok (name ∷ names)
below_root (Err e) = Err BadPoint

-- the point at a path, or the path's fault
abbrev pub indirect : Result (List (List ℕ)) MasterFaultKind → Result Point MasterFaultKind
indirect (Ok names) = Ok (Indirect names)
indirect (Err fault) = Err fault

-- just `/-` stands for the paths of a direct map
abbrev pub is_direct : List ℕ → Bool
is_direct word = bytes_eq word (codes "/-")

-- what the first word is read as: the mark of a direct map, or the path of an indirect one
abbrev pub point_read : List ℕ → Result Point MasterFaultKind
point_read word = if is_direct word then Ok Direct else indirect (below_root (path_read word))

-- a file in the format of autofs(5)
abbrev pub is_file : List ℕ → Bool
is_file type = bytes_eq type (codes "file") || bytes_eq type (codes "file,sun")

-- a name of a map has at least one byte
abbrev pub some_name : List ℕ → Result (List ℕ) MasterFaultKind
some_name [] = Err NoMap
some_name (b ∷ bytes) = Ok (b ∷ bytes)

-- what the second word is read as: the name of a map, behind its type if there is a colon. own
-- choice (docs/DECISIONS.md, "Maps are plain"): no built-in maps, which begin with a dash.
abbrev pub name_read : List ℕ → Result (List ℕ) MasterFaultKind
name_read word =
    if begins_with 45 word then Err BadType
    else if not (list_any is_colon word) then Ok word
    else if is_file (before_first is_colon word) then some_name (after_first is_colon word)
    else Err BadType
