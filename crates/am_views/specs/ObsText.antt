-- How observations are written: own choice (docs/FORMATS.md, "Traces").
use Rattle.std.specs.Prelude.{ℕ, List, [], ◌∷◌, ◌++◌, codes, decimal, Option, None, Some}
use Rattle.std.specs.List.{flat_map}
use Rattle.am_names.specs.declared.trigger.Trigger.{Trigger}
use Rattle.am_wire.specs.declared.packet_type.PacketType.{PacketType}
use Rattle.am_wire.specs.declared.packet_type.PacketType.TheVariants.{MissingIndirect, ExpireIndirect, MissingDirect, ExpireDirect}
use Rattle.am_wire.specs.{Packet}
use Rattle.am_state.specs.{Obs}
use Rattle.am_state.specs.declared.obs.Obs.TheVariants as seen
use Rattle.am_script.specs.{mounts_text, entry_text}
use Rattle.am_views.specs.EventText.{status_part}

-- ---- the words of a line, each behind a blank

-- the key that a trigger is for: its name, which is the last word
abbrev pub key_part : Option (List ℕ) → List ℕ
key_part None = codes " direct"
key_part (Some name) = codes " name " ++ name

-- a trigger: its file system and its key
abbrev pub trigger_part : Trigger → List ℕ
trigger_part trigger = codes " fs " ++ decimal trigger.fs ++ key_part trigger.name

-- what a packet asks for (auto_fs.h, enum autofs_notify)
abbrev pub type_part : PacketType → List ℕ
type_part MissingIndirect = codes " missing-indirect"
type_part ExpireIndirect = codes " expire-indirect"
type_part MissingDirect = codes " missing-direct"
type_part ExpireDirect = codes " expire-direct"

-- a packet in the order of its fields (auto_fs.h, struct autofs_v5_packet); its name is the last
-- word
abbrev pub root_part : Packet → List ℕ
root_part packet = codes " dev " ++ decimal packet.dev ++ (codes " ino " ++ decimal packet.ino)

-- who asked for it
abbrev pub owner_part : Packet → List ℕ
owner_part packet = codes " uid " ++ decimal packet.uid ++ (codes " gid " ++ decimal packet.gid)

-- the process that asked, and its group of threads
abbrev pub process_part : Packet → List ℕ
process_part packet = codes " pid " ++ decimal packet.pid ++ (codes " tgid " ++ decimal packet.tgid)

-- who asked, in which process, and the name
abbrev pub caller_part : Packet → List ℕ
caller_part packet = owner_part packet ++ (process_part packet ++ (codes " name " ++ packet.name))

-- a packet in the order of its fields
abbrev pub packet_part : Packet → List ℕ
packet_part packet = type_part packet.kind ++ (root_part packet ++ caller_part packet)

-- ---- the line

-- an observation, without its line feed
abbrev pub obs_text : Obs → List ℕ
obs_text (seen.Queued token attach packet) =
    codes "queued " ++ decimal token ++ (codes " attach " ++ decimal attach ++ packet_part packet)
obs_text (seen.Waits walker token) =
    codes "waits " ++ decimal walker ++ (codes " token " ++ decimal token)
obs_text (seen.Answered token status) = codes "answered " ++ decimal token ++ status_part status
obs_text (seen.Catatonic fs) = codes "catatonic " ++ decimal fs
obs_text (seen.Released walker token status) =
    codes "released " ++ decimal walker ++ (codes " token " ++ decimal token ++ status_part status)
obs_text (seen.Passed walker trigger) = codes "passed " ++ decimal walker ++ trigger_part trigger
obs_text (seen.Entered walker mount) =
    codes "entered " ++ decimal walker ++ (codes " mount " ++ decimal mount)
obs_text (seen.Left walker mount) =
    codes "left " ++ decimal walker ++ (codes " mount " ++ decimal mount)
obs_text (seen.Mounted mounts) = codes "mounted" ++ mounts_text mounts
obs_text (seen.Unmounted mounts) = codes "unmounted" ++ mounts_text mounts
obs_text (seen.Delivered token attach packet) =
    codes "delivered " ++ decimal token ++ (codes " attach " ++ decimal attach ++ packet_part packet)
obs_text (seen.Recorded trigger entry) =
    codes "recorded " ++ (entry_text entry ++ trigger_part trigger)
obs_text (seen.Reattached fs attach) =
    codes "reattached " ++ decimal fs ++ (codes " attach " ++ decimal attach)
obs_text seen.Died = codes "died"

-- it is indented
abbrev pub obs_line : Obs → List ℕ
obs_line obs = codes "  " ++ (obs_text obs ++ 10 ∷ [])

-- the lines of these observations, in order
abbrev pub obs_lines : List Obs → List ℕ
obs_lines seen = flat_map obs_line seen
