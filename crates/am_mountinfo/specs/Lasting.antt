-- What of a world lasts without being open or at work, each in a comment of its own: directories, last
-- uses, failures, what the daemon is attached to, and the numbers that were given. Own choice
-- (docs/DECISIONS.md, "A world is printed as Linux prints mounts").
use Rattle.std.specs.Prelude.{ℕ, List, [], ◌∷◌, ◌++◌, codes, decimal}
use Rattle.std.specs.List.{flat_map}
use Rattle.am_names.specs.declared.trigger.Status.TheVariants.{Fail}
use Rattle.am_names.specs.declared.trigger.Trigger.{Trigger}
use Rattle.am_daemon.specs.{DaemonState}
use Rattle.am_kernel.specs.{KernelState}
use Rattle.am_script.specs.{place_text}
use Rattle.am_state.specs.{HeldRow, KnownRow}
use Rattle.am_trigger.specs.{Failure}
use Rattle.am_views.specs.{status_part, trigger_part}

-- ---- triggers

-- a directory that the daemon made
abbrev pub made_note : Trigger → List ℕ
made_note trigger = codes "# made" ++ (trigger_part trigger ++ codes "\n")

-- when a trigger was last used
abbrev pub used_note : Trigger × ℕ → List ℕ
used_note row = codes "# used " ++ decimal row.1 ++ (trigger_part row.0 ++ codes "\n")

-- what failed last at a trigger, and when
abbrev pub failure_note : Trigger × Failure → List ℕ
failure_note row =
    codes "#" ++ (status_part (Fail row.1.no) ++ (codes " at " ++ decimal row.1.at ++ (trigger_part row.0 ++ codes "\n")))

-- ---- what the daemon is attached to

-- a file system that it was ever attached to, and where
abbrev pub known_note : KnownRow → List ℕ
known_note row = codes "# known " ++ decimal row.fs ++ (codes " " ++ (place_text row.path ++ codes "\n"))

-- an attachment that it holds
abbrev pub held_note : HeldRow → List ℕ
held_note row = codes "# held " ++ decimal row.fs ++ (codes " attach " ++ decimal row.attach ++ codes "\n")

-- ---- numbers

-- the latest moment
abbrev pub latest_note : KernelState → List ℕ
latest_note k = codes "# latest " ++ decimal k.latest ++ codes "\n"

-- these numbers of a namespace and a peer group were given last
abbrev pub spaces_text : ℕ → ℕ → List ℕ
spaces_text ns group = codes " ns " ++ decimal ns ++ (codes " group " ++ decimal group)

-- these numbers of a mount, a namespace and a peer group were given last
abbrev pub given_text : ℕ → ℕ → ℕ → List ℕ
given_text mount ns group = codes "# last" ++ (codes " mount " ++ decimal mount ++ spaces_text ns group)

-- the greatest number of each sort that was ever given: those of mounts, namespaces and peer groups
abbrev pub last_mounts_text : KernelState → List ℕ
last_mounts_text k = given_text k.table.last_mount k.table.last_ns k.table.groups.last_group

-- and those of file systems, attachments and tokens
abbrev pub last_autofs_text : KernelState → List ℕ
last_autofs_text k =
    codes " fs " ++ decimal k.last_fs ++
    (codes " attach " ++ decimal k.last_attach ++ (codes " token " ++ decimal k.waits.last_token ++ codes "\n"))

-- all of them
abbrev pub numbers_notes : KernelState → List ℕ
numbers_notes k = latest_note k ++ (last_mounts_text k ++ last_autofs_text k)

-- ---- all

-- what lasts of the kernel's half
abbrev pub kernel_lasting : KernelState → List ℕ
kernel_lasting k =
    flat_map made_note k.triggers.made ++
    (flat_map used_note k.triggers.uses ++ (flat_map failure_note k.failures ++ numbers_notes k))

-- what lasts of the daemon's
abbrev pub daemon_lasting : DaemonState → List ℕ
daemon_lasting d = flat_map known_note d.known ++ flat_map held_note d.held
