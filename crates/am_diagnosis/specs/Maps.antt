-- What is expected of the lines of maps and master maps (autofs(5), "SUN FORMAT"; auto.master(5),
-- "FORMAT").
use Rattle.std.specs.Prelude.{◌≡◌, ℕ, Bool, true, not, ◌&&◌, is_ok, List, [], ◌∷◌, ◌++◌, drop, Option, None, Some, if◌then◌else◌}
use Rattle.std.specs.List.{flat_map, list_any}
use Rattle.am_lines.specs.{is_line_feed, is_joined, before_backslash}
use Rattle.am_map.specs.Grammar.{entry_read}
use Rattle.am_map.specs.declared.fault.MapFaultKind.{MapFaultKind}
use Rattle.am_map.specs.declared.fault.MapFaultKind.TheVariants as map_faults
use Rattle.am_master.specs.Grammar.{served_read}
use Rattle.am_master.specs.declared.fault.MasterFaultKind.{MasterFaultKind}
use Rattle.am_master.specs.declared.fault.MasterFaultKind.TheVariants as master_faults
use Rattle.am_script.specs.Sections.{is_end}
use Rattle.am_diagnosis.specs.declared.expected.Expected.{Expected}
use Rattle.am_diagnosis.specs.declared.expected.Expected.TheVariants.{Key, Entry, Location, Point, FreePoint, Map, MasterOption}
use Rattle.am_diagnosis.specs.declared.misfit.Misfit.{Misfit}
use Rattle.am_diagnosis.specs.Misfits.{Words, misfit_at, misfit_of}

-- The line of a section that begins with the first of these raw lines: a raw line whose last byte is
-- a backslash is joined with the one that follows, up to the section's end.
abbrev pub joined_in : List (List ℕ) → List ℕ
joined_in [] = []
joined_in (raw ∷ below) =
    if is_end raw then []
    else if is_joined raw then before_backslash raw ++ joined_in below
    else raw

-- the text of a section that has these lines
abbrev pub section_text : List (List ℕ) → List ℕ
section_text lines = flat_map (λ line. line ++ 10 ∷ []) lines

-- the line doesn't end a section, and is one
abbrev pub is_within : List ℕ → Bool
is_within line = not (is_end line) && not (list_any is_line_feed line)

-- what stands behind a key: options and a location, or a location
abbrev pub entry_parameters : List Expected
entry_parameters = Entry ∷ Location ∷ []

-- these words are what stands behind a key
abbrev pub IsEntry : Words → Type 0
IsEntry words = is_ok (entry_read words) ≡ true

-- what stands behind a mount point: a map and options
abbrev pub served_parameters : List Expected
served_parameters = Map ∷ MasterOption ∷ []

-- these words are what stands behind a mount point
abbrev pub IsServed : Words → Type 0
IsServed words = is_ok (served_read words) ≡ true

-- where the line of a map with these words isn't as expected, that has this fault
abbrev pub map_misfit : MapFaultKind → Words → Option Misfit
map_misfit map_faults.BadKey words = Some (misfit_at 0 Key)
map_misfit map_faults.NoMemory words = None
map_misfit kind words = misfit_of 1 entry_parameters (drop 1 words)

-- where the line of a master map with these words isn't as expected, that has this fault
abbrev pub master_misfit : MasterFaultKind → Words → Option Misfit
master_misfit master_faults.BadPoint words = Some (misfit_at 0 Point)
master_misfit master_faults.Twice words = Some (misfit_at 0 FreePoint)
master_misfit master_faults.NoMemory words = None
master_misfit kind words = misfit_of 1 served_parameters (drop 1 words)
