-- The latest attachment of each autofs as it is kept. For the code alone: own choice.
use Rattle.std.specs.Prelude.{◌≡◌, ◌==◌, ℕ, nat_eq, List, find, Option, None, Some, if◌then◌else◌}
use Rattle.std.specs.Option.{option_or}
use Rattle.indexmap.specs.IndexMap.{get}
use Rattle.am_kernel.specs.declared.row.Attached.{Attached}
use Rattle.am_mountinfo.specs.declared.attachments.Attachments.{Attachments}
use Rattle.am_mountinfo.specs.Mountinfo.{is_of_fs}

-- the attachment that is kept of a file system
abbrev pub attachment : Attachments → ℕ → Option Attached
attachment found fs = get nat_eq found.rows fs

-- the first of each file system is kept
abbrev pub AreAttachments : Attachments → List Attached → Type 0
AreAttachments found rows = (fs : ℕ) → attachment found fs ≡ find (is_of_fs fs) rows

-- this one is kept too, where there is none yet of its file system
abbrev pub HasOneAttachmentMore : Attached → Attachments → Attachments → Type 0
HasOneAttachmentMore row old new =
    (fs : ℕ) → attachment new fs ≡ option_or (attachment old fs) (if row.fs == fs then Some row else None)
