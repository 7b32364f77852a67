-- The lines of what an administrator does: own choice (docs/FORMATS.md, "Events").
use Rattle.std.specs.Prelude.{ℕ, List, [], ◌∷◌, Option, None, Some, option_map}
use Rattle.std.specs.Result.{result_ok}
use Rattle.am_names.specs.{path_read}
use Rattle.am_group.specs.{Change}
use Rattle.am_propagate.specs.{CopyForm}
use Rattle.am_propagate.specs.declared.subtree.namespace.CopyForm.TheVariants.{Full}
use Rattle.am_machine.specs.{Event}
use Rattle.am_machine.specs.declared.event.Event.TheVariants as events
use Rattle.am_script.specs.Numbers.{u32_read}
use Rattle.am_script.specs.EventWords.{change_read, form_read}

-- the event, where both words are read
abbrev pub mount_of : Option ℕ → Option (List (List ℕ)) → Option Event
mount_of (Some ns) (Some path) = Some (events.Mount ns path)
mount_of ns path = None

-- `mount NS PATH`
abbrev pub mount_read : List (List ℕ) → Option Event
mount_read (ns ∷ path ∷ []) = mount_of (u32_read ns) (result_ok (path_read path))
mount_read words = None

-- the event of a line whose words are these
abbrev pub mount_event : ℕ × List (List ℕ) → Event
mount_event words = events.Mount words.0 words.1

-- the event, where all three words are read
abbrev pub bind_of : Option ℕ → Option (List (List ℕ)) → Option (List (List ℕ)) → Option Event
bind_of (Some ns) (Some from) (Some to) = Some (events.Bind ns from to)
bind_of ns from to = None

-- `bind NS FROM TO`
abbrev pub bind_read : List (List ℕ) → Option Event
bind_read (ns ∷ from ∷ to ∷ []) =
    bind_of (u32_read ns) (result_ok (path_read from)) (result_ok (path_read to))
bind_read words = None

-- the event of a line whose words are these
abbrev pub bind_event : ℕ × List (List ℕ) × List (List ℕ) → Event
bind_event words = events.Bind words.0 words.1 words.2

-- the event, where both words are read
abbrev pub umount_of : Option ℕ → Option (List (List ℕ)) → Option Event
umount_of (Some ns) (Some path) = Some (events.Umount ns path)
umount_of ns path = None

-- `umount NS PATH`
abbrev pub umount_read : List (List ℕ) → Option Event
umount_read (ns ∷ path ∷ []) = umount_of (u32_read ns) (result_ok (path_read path))
umount_read words = None

-- the event of a line whose words are these
abbrev pub umount_event : ℕ × List (List ℕ) → Event
umount_event words = events.Umount words.0 words.1

-- the event, where all three words are read
abbrev pub change_of : Option ℕ → Option (List (List ℕ)) → Option Change → Option Event
change_of (Some ns) (Some path) (Some change) = Some (events.Change ns path change)
change_of ns path change = None

-- `change NS PATH KIND`
abbrev pub change_line_read : List (List ℕ) → Option Event
change_line_read (ns ∷ path ∷ kind ∷ []) =
    change_of (u32_read ns) (result_ok (path_read path)) (change_read kind)
change_line_read words = None

-- the event of a line whose words are these
abbrev pub change_event : ℕ × List (List ℕ) × Change → Event
change_event words = events.Change words.0 words.1 words.2

-- the event, where both words are read
abbrev pub kind_of : Option ℕ → Option (List (List ℕ)) → Option Event
kind_of (Some ns) (Some path) = Some (events.Kind ns path)
kind_of ns path = None

-- `kind NS PATH`
abbrev pub kind_read : List (List ℕ) → Option Event
kind_read (ns ∷ path ∷ []) = kind_of (u32_read ns) (result_ok (path_read path))
kind_read words = None

-- the event of a line whose words are these
abbrev pub kind_event : ℕ × List (List ℕ) → Event
kind_event words = events.Kind words.0 words.1

-- the event, where the number is read and so is the form
abbrev pub nscopy_of : Option ℕ → Option CopyForm → Option Event
nscopy_of (Some ns) (Some form) = Some (events.CopyNamespace ns form)
nscopy_of ns form = None

-- `nscopy NS`, `nscopy NS reduced`
abbrev pub nscopy_read : List (List ℕ) → Option Event
nscopy_read (ns ∷ []) = nscopy_of (u32_read ns) (Some Full)
nscopy_read (ns ∷ form ∷ []) = nscopy_of (u32_read ns) (form_read form)
nscopy_read words = None

-- `nsdrop NS`
abbrev pub nsdrop_read : List (List ℕ) → Option Event
nsdrop_read (ns ∷ []) = option_map events.DropNamespace (u32_read ns)
nsdrop_read words = None

-- `admincat FS`
abbrev pub admincat_read : List (List ℕ) → Option Event
admincat_read (fs ∷ []) = option_map events.AdminCatatonic (u32_read fs)
admincat_read words = None
