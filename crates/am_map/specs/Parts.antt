-- What the borrowed parts of a line say (autofs(5), "SUN FORMAT"), for the code alone.
use Rattle.std.specs.Prelude.{ℕ, List}
use Rattle.std.specs.Borrow.{Bor}
use Rattle.std.specs.Option.{option_copied}
use Rattle.am_map.specs.declared.parts.EntryRef.{EntryRef}
use Rattle.am_map.specs.EntryText.{EntryText, Row}

-- the entry whose parts are where they were read
abbrev pub entry_of : EntryRef → EntryText
entry_of entry =
    record { options = option_copied entry.options; host = entry.host.now; path = entry.path.now }

-- the row that is lent, a key with its entry
abbrev pub lent_row : Bor (List ℕ) × Bor EntryText → Row
lent_row row = record { key = row.0.now; entry = row.1.now }
