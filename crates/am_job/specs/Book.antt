-- The daemon's table of mounts, its book, a finite map from triggers to records in order of
-- making: own choice (docs/DECISIONS.md, "The daemon records before it replies").
use Rattle.std.specs.Prelude.{◌≡◌, ℕ, ◌==◌, not, List, [], ◌∷◌, ◌++◌, map, filter, Option, Some, None, find, if◌then◌else◌}
use Rattle.std.specs.List.{list_any}
use Rattle.std.specs.Option.{option_map}
use Rattle.am_names.specs.{same_trigger}
use Rattle.am_names.specs.declared.trigger.Trigger.{Trigger}
use Rattle.am_state.specs.{Record, RecordRow}

-- the record of the trigger, if the book has one
abbrev pub record_of : List RecordRow → Trigger → Option Record
record_of book trigger =
    option_map (λ row. row.entry) (find (λ row. same_trigger row.trigger trigger) book)

-- the row with this record, if it is the trigger's
abbrev pub record_row : Trigger → Record → RecordRow → RecordRow
record_row trigger entry row =
    if same_trigger row.trigger trigger then record row { entry = entry } else row

-- the record of the trigger is this one
abbrev pub with_record : Trigger → Record → List RecordRow → List RecordRow
with_record trigger entry book =
    if list_any (λ row. same_trigger row.trigger trigger) book
    then map (record_row trigger entry) book
    else book ++ (record { trigger = trigger; entry = entry }) ∷ []

-- no record of the trigger
abbrev pub without_record : Trigger → List RecordRow → List RecordRow
without_record trigger book = filter (λ row. not (same_trigger row.trigger trigger)) book

-- the book after a change of the trigger's record, to none or to this one
abbrev pub recorded : Trigger → Option Record → List RecordRow → List RecordRow
recorded trigger None book = without_record trigger book
recorded trigger (Some entry) book = with_record trigger entry book

-- no record of the file system
abbrev pub without_fs : ℕ → List RecordRow → List RecordRow
without_fs fs book = filter (λ row. not (row.trigger.fs == fs)) book

-- ---- the same as a finite map

-- this trigger's record is that one, or there is none, and each other one's is as before
abbrev pub IsRecorded : Trigger → Option Record → List RecordRow → List RecordRow → Type 0
IsRecorded trigger entry old new =
    (g : Trigger) → record_of new g ≡ (if same_trigger trigger g then entry else record_of old g)

-- no trigger of the file system has a record, and each other one's is as before
abbrev pub IsForgotten : ℕ → List RecordRow → List RecordRow → Type 0
IsForgotten fs old new =
    (g : Trigger) → record_of new g ≡ (if g.fs == fs then None else record_of old g)
