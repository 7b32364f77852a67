-- What a mountinfo is imported as: own choice (docs/FORMATS.md, "Imported").
use Rattle.std.specs.Prelude.{◌≡◌, ◌⊎◌, ◌<◌, ℕ, ◌+◌, Bool, false, true, cond, List, [], ◌∷◌, ◌++◌, length, map, take, codes, bytes_eq, Option, None, Some, ⊤, if◌then◌else◌}
use Rattle.std.specs.Io.KnownBytes.{Appends, Consumes, IsAtEnd}
use Rattle.am_lines.specs.{words_of}
use Rattle.am_machine.specs.State.{State}
use Rattle.am_machine.specs.{Setup, initial_state_of}
use Rattle.am_diagnosis.specs.{IsColumn}
use Rattle.am_mount_lines.specs.{Expected, IsLine, Misfit, MountLine, misfit_of}
use Rattle.am_mountinfo.specs.{EventsPlayed}
use Rattle.am_script.specs.{ScriptFault, Summary, Told, are_skipped, lines_of, script_of}
use Rattle.am_import.specs.declared.imports.ImportFault.{ImportFault}
use Rattle.am_import.specs.declared.imports.ImportFault.TheVariants.{BadLine, NoMemory, NotPlayed, ReadFailed, WriteFailed}
use Rattle.am_import.specs.declared.likeness.Row.{Row}
use Rattle.am_import.specs.Notes.{notes_text}

-- ---- the lines of all namespaces

-- both words are there
abbrev pub are_words : List ℕ → List ℕ → List (List ℕ) → Bool
are_words one other [] = false
are_words one other (first ∷ []) = false
are_words one other (first ∷ second ∷ more) = if bytes_eq first one then bytes_eq second other else false

-- the line begins the mounts of another namespace: its first words are `#` and `namespace`
abbrev pub begins_space : List ℕ → Bool
begins_space line = are_words (codes "#") (codes "namespace") (words_of line)

-- The lines of mounts, each with its namespace, counted from this one on. A heading begins another one where the one
-- before it has a mount. Blank lines and other comments are passed over.
abbrev pub mount_texts : ℕ → Bool → List (List ℕ) → List (ℕ × List ℕ)
mount_texts space used [] = []
mount_texts space used (line ∷ lines) =
    if begins_space line then mount_texts (cond used (space + 1) space) false lines
    else if are_skipped (words_of line) then mount_texts space used lines
    else (space, line) ∷ mount_texts space true lines

-- each line is read as that mount, in order
abbrev pub AreMounts : List (ℕ × List ℕ) → List MountLine → Type 0
AreMounts [] [] = ⊤
AreMounts [] (mount ∷ mounts) = ⊥
AreMounts (text ∷ texts) [] = ⊥
AreMounts (text ∷ texts) (mount ∷ mounts) = IsLine text.0 (words_of text.1) mount × AreMounts texts mounts

-- these are the mounts of a text
abbrev pub AreMountsOf : List ℕ → List MountLine → Type 0
AreMountsOf text mounts = AreMounts (mount_texts 0 false (lines_of text)) mounts

-- ---- the script

-- the text is a script with a world, of which no event is refused, and its events lead there
pub record Leaves (script : List ℕ) (s : State) : Type 0 where
  pub opening : Setup
  pub opens : (script_of None script).opening ≡ Some opening
  pub summary : Summary
  pub played : EventsPlayed (initial_state_of opening) (script_of None script).told s summary
  pub taken : summary.refused ≡ 0

-- all events come, and one of them is refused: not for want of memory, since none found none
pub record IsRefused (start : State) (told : Told) : Type 0 where
  pub last : State
  pub summary : Summary
  pub played : EventsPlayed start told last summary
  pub one : 0 < summary.refused

-- the text is a script with a world, and one of its events is refused
pub record HasRefused (script : List ℕ) : Type 0 where
  pub opening : Setup
  pub opens : (script_of None script).opening ≡ Some opening
  pub refused : IsRefused (initial_state_of opening) (script_of None script).told

-- the text is a script without a world, a line of it is at fault, or an event of it is refused
abbrev pub IsUnplayed : List ℕ → Type 0
IsUnplayed script =
    ((script_of None script).opening ≡ None)
    ⊎ ((fault : ScriptFault) × ((script_of None script).told.fault ≡ Some fault))
    ⊎ HasRefused script

-- ---- what isn't read

-- the first line that is none of a mountinfo: where it isn't as expected, and what was expected there
pub record IsFirstBad (lines : List (List ℕ)) (number column : ℕ) (what : Expected) : Type 0 where
  pub above : List (List ℕ)
  pub bad : List ℕ
  pub below : List (List ℕ)
  pub stands : lines ≡ above ++ bad ∷ below
  pub numbered : number ≡ length above + 1
  pub mounts : List MountLine
  pub are_read : AreMounts (mount_texts 0 false above) mounts
  pub no_heading : begins_space bad ≡ false
  pub no_comment : are_skipped (words_of bad) ≡ false
  pub misfit : Misfit
  pub misfit_is : misfit_of (words_of bad) ≡ Some misfit
  pub at : IsColumn bad misfit.place column
  pub expected_is : what ≡ misfit.expected

-- the lines are no mountinfo, or memory ran out
abbrev pub IsUnread : List (List ℕ) → ImportFault → Type 0
IsUnread lines (BadLine line column what) = IsFirstBad lines line column what
IsUnread lines NoMemory = ⊤
IsUnread lines _ = ⊥

-- the text is a mountinfo, and a script that was made for it isn't played
pub record IsNotBuilt (text : List ℕ) : Type 0 where
  pub mounts : List MountLine
  pub are_read : AreMountsOf text mounts
  pub script : List ℕ
  pub unplayed : IsUnplayed script

-- the text is no mountinfo, memory ran out, or the script isn't played
abbrev pub IsNotImported : List ℕ → ImportFault → Type 0
IsNotImported text (BadLine line column what) = IsFirstBad (lines_of text) line column what
IsNotImported text NoMemory = ⊤
IsNotImported text NotPlayed = IsNotBuilt text
IsNotImported text _ = ⊥

-- the reader failed, or memory ran out
abbrev pub IsReadingFault : ImportFault → Type 0
IsReadingFault NoMemory = ⊤
IsReadingFault ReadFailed = ⊤
IsReadingFault _ = ⊥

-- memory ran out, or this script isn't played
abbrev pub IsPlayingFault : List ℕ → ImportFault → Type 0
IsPlayingFault script NoMemory = ⊤
IsPlayingFault script NotPlayed = IsUnplayed script
IsPlayingFault script _ = ⊥

-- ---- with a reader and a writer

-- The input is the mountinfo of these lines, each with a mount of the world that the script leaves. What is told is the
-- script, and behind it, for each line, the mount that stands for it, and in what that is unlike it.
pub record IsImport (text told : List ℕ) : Type 0 where
  pub rows : List Row
  pub mounts : AreMountsOf text (map (λ row. row.line) rows)
  pub script : List ℕ
  pub last : State
  pub leaves : Leaves script last
  pub told_is : told ≡ script ++ notes_text last.kernel.table rows

-- the input was read to its end, and its import is written
pub record ImportsInput (input rest old new : Option (List ℕ)) : Type 0 where
  pub text : List ℕ
  pub read : Consumes input rest text
  pub ended : IsAtEnd rest
  pub told : List ℕ
  pub imports : IsImport text told
  pub written : Appends old new told

-- it was read to its end and is no mountinfo, and nothing is written
pub record IsNoMountinfo (input rest old new : Option (List ℕ)) (line column : ℕ) (what : Expected) : Type 0 where
  pub text : List ℕ
  pub read : Consumes input rest text
  pub ended : IsAtEnd rest
  pub bad : IsFirstBad (lines_of text) line column what
  pub written : Appends old new []

-- it was read to its end and is a mountinfo, the script that was made for it isn't played, and nothing is written
pub record IsLeft (input rest old new : Option (List ℕ)) : Type 0 where
  pub text : List ℕ
  pub read : Consumes input rest text
  pub ended : IsAtEnd rest
  pub left : IsNotBuilt text
  pub written : Appends old new []

-- the reader failed behind this, or memory ran out over it, and nothing is written
pub record BrokeOff (input rest old new : Option (List ℕ)) : Type 0 where
  pub text : List ℕ
  pub read : Consumes input rest text
  pub written : Appends old new []

-- the writer took a beginning of the import alone
pub record Untold (input rest old new : Option (List ℕ)) : Type 0 where
  pub text : List ℕ
  pub read : Consumes input rest text
  pub ended : IsAtEnd rest
  pub told : List ℕ
  pub imports : IsImport text told
  pub taken : ℕ
  pub short : taken < length told
  pub written : Appends old new (take taken told)

-- why an import isn't written
abbrev pub StopsImporting : Option (List ℕ) → Option (List ℕ) → Option (List ℕ) → Option (List ℕ) → ImportFault → Type 0
StopsImporting input rest old new (BadLine line column what) = IsNoMountinfo input rest old new line column what
StopsImporting input rest old new NoMemory = BrokeOff input rest old new
StopsImporting input rest old new ReadFailed = BrokeOff input rest old new
StopsImporting input rest old new NotPlayed = IsLeft input rest old new
StopsImporting input rest old new WriteFailed = Untold input rest old new
