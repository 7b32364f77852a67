-- What the daemon is attached to (autofs.rst, "Communicating with autofs: the event pipe").
use Rattle.std.specs.Prelude.{ℕ, ◌==◌, Bool, ◌&&◌, not, is_some, List, [], ◌∷◌, ◌++◌, filter, find, Option, Some, None, if◌then◌else◌}
use Rattle.std.specs.List.{list_any, IsDistinct}
use Rattle.std.specs.Option.{option_map}
use Rattle.am_names.specs.{same_names}
use Rattle.am_names.specs.declared.errno.Errno.{Errno}
use Rattle.am_names.specs.declared.errno.Errno.TheVariants.{ENOENT, EEXIST}
use Rattle.am_names.specs.declared.trigger.Trigger.{Trigger}
use Rattle.am_state.specs.{HeldRow, KnownRow, RecordRow}
use Rattle.am_state.specs.declared.daemon_row.Record.TheVariants.{Mounted}
use Rattle.am_job.specs.{with_record, without_fs}
use Rattle.am_daemon.specs.Points.{line_for}
use Rattle.am_daemon.specs.State.{DaemonState}

-- no file system is there twice
abbrev pub AreOnce : List ℕ → Type 0
AreOnce systems = IsDistinct (λ a b. a == b) systems

-- a file system was attached at this path
abbrev pub is_attached : DaemonState → List (List ℕ) → Bool
is_attached d path = list_any (λ row. same_names row.path path) d.known

-- the daemon was ever attached to this file system
abbrev pub knows : DaemonState → ℕ → Bool
knows d fs = list_any (λ row. row.fs == fs) d.known

-- the attachment that the daemon holds to this file system
abbrev pub attach_held : DaemonState → ℕ → Option ℕ
attach_held d fs = option_map (λ row. row.attach) (find (λ row. row.fs == fs) d.held)

-- the daemon holds this attachment to the file system
abbrev pub holds : DaemonState → ℕ → ℕ → Bool
holds d fs attach = list_any (λ row. row.fs == fs && row.attach == attach) d.held

-- the tests of `attached`: a line serves the path, and nothing is attached there yet
abbrev pub attach_refusal : List (List ℕ) → DaemonState → Option Errno
attach_refusal path d =
    if not (is_some (line_for d path)) then Some ENOENT
    else if is_attached d path then Some EEXIST
    else None

-- of the file system this path alone, the last
abbrev pub known_at : ℕ → List (List ℕ) → List KnownRow → List KnownRow
known_at fs path known =
    filter (λ row. not (row.fs == fs)) known ++ (record { fs = fs; path = path }) ∷ []

-- of the file system this attachment alone, the last
abbrev pub held_as : ℕ → ℕ → List HeldRow → List HeldRow
held_as fs attach held =
    filter (λ row. not (row.fs == fs)) held ++ (record { fs = fs; attach = attach }) ∷ []

-- the daemon is attached to the file system at this path, and holds this attachment to it
abbrev pub with_attachment : ℕ → ℕ → List (List ℕ) → DaemonState → DaemonState
with_attachment fs attach path d =
    record d { known = known_at fs path d.known; held = held_as fs attach d.held }

-- ---- the daemon dies, and attaches again

-- the book and the attachments are lost; what it was attached to is known from the mounts, and
-- its jobs go on as processes of their own
abbrev pub dead : DaemonState → DaemonState
dead d = record d { held = []; book = [] }

-- the test of `reattach`: the daemon was attached to the file system
abbrev pub reattach_refusal : ℕ → DaemonState → Option Errno
reattach_refusal fs d = if knows d fs then None else Some ENOENT

-- these mounts are written down, one after another
abbrev pub all_mounted : List (Trigger × ℕ) → List RecordRow → List RecordRow
all_mounted [] book = book
all_mounted (one ∷ standing) book = all_mounted standing (with_record one.0 (Mounted one.1) book)

-- the daemon holds this attachment, and of the file system the book has what stands
abbrev pub reattached : ℕ → ℕ → List (Trigger × ℕ) → DaemonState → DaemonState
reattached fs attach standing d =
    record d {
      held = held_as fs attach d.held;
      book = all_mounted standing (without_fs fs d.book);
    }
