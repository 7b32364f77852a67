-- Mounts on their trees: where those are that come, and where those were that go. A namespace is
-- a tree, and has a lane. Own choice (docs/FORMATS.md, "Pictures").
use Rattle.std.specs.Prelude.{ℕ, ◌+◌, ◌-◌, ◌*◌, ◌==◌, Bool, true, false, min, List, [], ◌++◌, length, take, slice_get, codes, decimal, Option, None, Some, if◌then◌else◌}
use Rattle.std.specs.List.{flat_map}
use Rattle.am_names.specs.{MountRow}
use Rattle.am_names.specs.PeerGroups.{PeerGroups}
use Rattle.am_daemon.specs.{next_act_of}
use Rattle.am_job.specs.{Act}
use Rattle.am_job.specs.declared.act.Act.TheVariants as acts
use Rattle.am_machine.specs.{Event}
use Rattle.am_machine.specs.declared.event.Event.TheVariants as events
use Rattle.am_machine.specs.State.{State}
use Rattle.am_mount.specs.{mount_row}
use Rattle.am_draw.specs.declared.mount_rows.MountRows.{MountRows}
use Rattle.am_draw.specs.declared.mount_rows.MountRows.TheVariants.{Before, Behind}
use Rattle.am_draw.specs.Groups.{groups_text}
use Rattle.am_draw.specs.Marks.{stamp, label}
use Rattle.am_draw.specs.MountPaths.{path_of, path_words}

-- ---- where they stood

-- the act unmounts
abbrev pub is_umount : Option Act → Bool
is_umount (Some (acts.Umount trigger)) = true
is_umount act = false

-- mounts may go in the event: it unmounts, drops a namespace, or is an act of the daemon that
-- unmounts
abbrev pub takes_mounts : State → Event → Bool
takes_mounts s (events.Umount ns path) = true
takes_mounts s (events.DropNamespace ns) = true
takes_mounts s (events.Act job failure) = is_umount (next_act_of job s.daemon)
takes_mounts s event = false

-- the mounts before an event, if some may go in it
abbrev pub rows_before : State → Event → List MountRow
rows_before s event = if takes_mounts s event then s.kernel.table.rows else []

-- these rows
abbrev pub tree_rows : MountRows → List MountRow
tree_rows (Before rows) = rows
tree_rows (Behind world) = world.now.kernel.table.rows

-- ---- marks

-- each of the first seven namespaces has a lane of its own, and all others share the last
abbrev pub tree_x : ℕ → ℕ
tree_x ns = 1031 + 14 * min ns 7

-- a mark in the lane of the mount's namespace
abbrev pub tree_mark : List ℕ → Option MountRow → List ℕ
tree_mark symbol None = []
tree_mark symbol (Some row) = stamp symbol (tree_x row.ns) 13

-- a mark for each of these mounts
abbrev pub tree_marks : List ℕ → List MountRow → List ℕ → List ℕ
tree_marks symbol rows mounts = flat_map (λ mount. tree_mark symbol (mount_row rows mount)) mounts

-- ---- words

-- the peer groups of the mounts that came; of those that went nothing is told
abbrev pub groups_behind : MountRows → Option PeerGroups
groups_behind (Before rows) = None
groups_behind (Behind world) = Some world.now.kernel.table.groups

-- how the mount takes part in propagation, where that is told
abbrev pub groups_words : Option PeerGroups → ℕ → List ℕ
groups_words None mount = []
groups_words (Some groups) mount = groups_text groups mount

-- the namespace of the mount, if it is among the rows
abbrev pub ns_words : List ℕ → Option MountRow → List ℕ
ns_words joint None = []
ns_words joint (Some row) = joint ++ (decimal row.ns ++ codes " ")

-- a mount, its namespace, and its path there, of which so many of the first and last bytes stay
abbrev pub place_words : ℕ → List ℕ → List MountRow → ℕ → List ℕ
place_words half joint rows mount =
    decimal mount ++ (ns_words joint (mount_row rows mount) ++ path_words half (path_of rows mount))

-- the same, and how it takes part in propagation
abbrev pub tree_words : ℕ → List ℕ → Option PeerGroups → List MountRow → ℕ → List ℕ
tree_words half joint groups rows mount =
    place_words half joint rows mount ++ groups_words groups mount

-- how many more there are
abbrev pub more_words : ℕ → List ℕ
more_words more = if more == 0 then [] else codes ", " ++ (decimal more ++ codes " more")

-- the words of a mount, at this height; so many others are only told of
abbrev pub tree_label : ℕ → List ℕ → Option PeerGroups → List MountRow → ℕ → ℕ → List ℕ
tree_label y joint groups rows mount more =
    label (codes "p") 1148 y (tree_words 7 joint groups rows mount ++ more_words more)

-- the same, if there is a mount
abbrev pub tree_label_in : ℕ → List ℕ → Option PeerGroups → List MountRow → Option ℕ → ℕ → List ℕ
tree_label_in y joint groups rows None more = []
tree_label_in y joint groups rows (Some mount) more = tree_label y joint groups rows mount more

-- the first three mounts, one below the other
abbrev pub tree_labels : List ℕ → Option PeerGroups → List MountRow → List ℕ → List ℕ
tree_labels joint groups rows mounts =
    tree_label_in 9 joint groups rows (slice_get mounts 0) 0
    ++ (tree_label_in 17 joint groups rows (slice_get mounts 1) 0
    ++ tree_label_in 25 joint groups rows (slice_get mounts 2) (length mounts - 3))

-- a mount in a line of its own, with its whole path
abbrev pub tree_line : List ℕ → Option PeerGroups → List MountRow → ℕ → List ℕ
tree_line joint groups rows mount = tree_words 4095 joint groups rows mount ++ codes "\n"

-- all of these mounts, which are told where one points at their marks or their words
abbrev pub tree_title : List ℕ → Option PeerGroups → List MountRow → List ℕ → List ℕ
tree_title joint groups rows mounts =
    codes "<title>" ++ (flat_map (tree_line joint groups rows) mounts ++ codes "</title>\n")

-- all of these mounts by name, marks of the first sixteen, and words of the first three
abbrev pub mounts_marks : List ℕ → List ℕ → Option PeerGroups → List MountRow → List ℕ → List ℕ
mounts_marks symbol joint groups rows mounts =
    tree_title joint groups rows mounts
    ++ (tree_marks symbol rows (take 16 mounts) ++ tree_labels joint groups rows mounts)
