-- The file system of each latest attachment: the other order of the attachments.
use Rattle.std.specs.Prelude.{ℕ, ◌≡◌, ◌==◌, ◌&&◌, Bool, List, Option, find}
use Rattle.std.specs.List.{list_any}
use Rattle.std.specs.Option.{option_map}
use Rattle.am_kernel.specs.declared.row.Attached.{Attached}
use Rattle.am_kernel.specs.declared.holder.Holder.{Holder}

-- the file system whose latest attachment this is
abbrev pub holder_of : List Holder → ℕ → Option ℕ
holder_of holders attach =
    option_map (λ holder. holder.fs) (find (λ holder. holder.attach == attach) holders)

-- the attachment is listed as one of the file system
abbrev pub is_held : ℕ → ℕ → List Holder → Bool
is_held fs attach holders =
    list_any (λ holder. holder.attach == attach && holder.fs == fs) holders

-- the file system has a row of this attachment
abbrev pub is_attached : ℕ → ℕ → List Attached → Bool
is_attached fs attach rows = list_any (λ row. row.fs == fs && row.attach == attach) rows

-- just those attachments are listed of which there are rows, each as one of its file system
abbrev pub AreHeld : List Holder → List Attached → Type 0
AreHeld holders rows = (fs attach : ℕ) → is_held fs attach holders ≡ is_attached fs attach rows
