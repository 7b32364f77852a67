-- The event that a line spells by its words, if it spells one: own choice (docs/FORMATS.md,
-- "Events").
use Rattle.std.specs.Prelude.{◌≡◌, ℕ, true, false, is_some, List, [], ◌∷◌, codes, bytes_eq, Option, None, Result, Ok, Err, if◌then◌else◌}
use Rattle.am_machine.specs.{Event}
use Rattle.am_script.specs.AdministratorLines.{mount_read, bind_read, umount_read, change_line_read, kind_read, nscopy_read, nsdrop_read, admincat_read}
use Rattle.am_script.specs.WalkerLines.{walk_read, resume_read, leave_read, expire_read}
use Rattle.am_script.specs.DaemonLines.{attach_read, deliver_read, act_read, repeat_read, catatonic_read, timeout_read, die_read, reattach_read, record_read}

-- the event of a line, by its first word and the others: a line of this table for each word
unfoldable pub event_by_word : List ℕ → List (List ℕ) → Option Event
event_by_word word words =
    if bytes_eq word (codes "attach") then attach_read words
    else if bytes_eq word (codes "mount") then mount_read words
    else if bytes_eq word (codes "bind") then bind_read words
    else if bytes_eq word (codes "umount") then umount_read words
    else if bytes_eq word (codes "change") then change_line_read words
    else if bytes_eq word (codes "kind") then kind_read words
    else if bytes_eq word (codes "nscopy") then nscopy_read words
    else if bytes_eq word (codes "nsdrop") then nsdrop_read words
    else if bytes_eq word (codes "walk") then walk_read words
    else if bytes_eq word (codes "resume") then resume_read words
    else if bytes_eq word (codes "leave") then leave_read words
    else if bytes_eq word (codes "expire") then expire_read words
    else if bytes_eq word (codes "deliver") then deliver_read words
    else if bytes_eq word (codes "act") then act_read words
    else if bytes_eq word (codes "repeat") then repeat_read words
    else if bytes_eq word (codes "catatonic") then catatonic_read words
    else if bytes_eq word (codes "admincat") then admincat_read words
    else if bytes_eq word (codes "timeout") then timeout_read words
    else if bytes_eq word (codes "die") then die_read words
    else if bytes_eq word (codes "reattach") then reattach_read words
    else if bytes_eq word (codes "record") then record_read words
    else None

-- the word is none of that table's up to `walk`, the last whose event can take memory
abbrev pub IsLater : List ℕ → Type 0
IsLater word =
    (bytes_eq word (codes "attach") ≡ false)
    × (bytes_eq word (codes "mount") ≡ false)
    × (bytes_eq word (codes "bind") ≡ false)
    × (bytes_eq word (codes "umount") ≡ false)
    × (bytes_eq word (codes "change") ≡ false)
    × (bytes_eq word (codes "kind") ≡ false)
    × (bytes_eq word (codes "nscopy") ≡ false)
    × (bytes_eq word (codes "nsdrop") ≡ false)
    × (bytes_eq word (codes "walk") ≡ false)

-- the event of a line with these words
abbrev pub event_read : List (List ℕ) → Option Event
event_read [] = None
event_read (word ∷ words) = event_by_word word words

-- the event that is said is read, if there is one; memory may run out where there is one
abbrev pub ReadAs : {E : Type 0} → Option Event → Result (Option Event) E → Type 0
ReadAs said (Ok event) = event ≡ said
ReadAs said (Err e) = is_some said ≡ true
