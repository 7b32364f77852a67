-- How far the mounts of a world are those that lines of a mountinfo tell: own choice (docs/FORMATS.md, "Imported").
use Rattle.std.specs.Prelude.{ℕ, ◌==◌, Bool, true, false, not, List, map, bytes_eq, Option, None, Some, option_map, if◌then◌else◌}
use Rattle.std.specs.List.{position_from, slice_get}
use Rattle.am_names.specs.{text_of, MemberRow, MountRow, Position}
use Rattle.am_group.specs.{group_of, master_of, member_row}
use Rattle.am_mount.specs.{mount_row}
use Rattle.am_propagate.specs.MountTable.{MountTable}
use Rattle.am_mountinfo.specs.{is_number, path_of}
use Rattle.am_mount_lines.specs.{MountLine}
use Rattle.am_import.specs.declared.likeness.Row.{Row}
use Rattle.am_import.specs.declared.likeness.Unlike.{Unlike}
use Rattle.am_import.specs.declared.likeness.Unlike.TheVariants as un

-- ---- numbers that stand for others

-- both are the same number, or none
abbrev pub same_number : Option ℕ → Option ℕ → Bool
same_number None None = true
same_number None (Some b) = false
same_number (Some a) other = is_number a other

-- where the number first stands
abbrev pub place_of : ℕ → List (Option ℕ) → Option ℕ
place_of number numbers = position_from (is_number number) 0 numbers

-- A wanted number stands first where the one that was found does: then the one stands for the other. None stands for
-- none.
abbrev pub stands_for : Option ℕ → List (Option ℕ) → Option ℕ → List (Option ℕ) → Bool
stands_for None wanted None found = true
stands_for None wanted (Some b) found = false
stands_for (Some a) wanted None found = false
stands_for (Some a) wanted (Some b) found = same_number (place_of a wanted) (place_of b found)

-- ---- what the lines tell

-- the namespaces of lines
abbrev pub spaces_of : List Row → List (Option ℕ)
spaces_of rows = map (λ row. Some row.line.space) rows

-- the numbers of lines
abbrev pub numbers_of : List Row → List (Option ℕ)
numbers_of rows = map (λ row. Some row.line.number) rows

-- the peer groups of lines
abbrev pub groups_of : List Row → List (Option ℕ)
groups_of rows = map (λ row. row.line.group) rows

-- the first line that shows this
abbrev pub showing_of : List Row → List ℕ → Option ℕ
showing_of rows shown = position_from (λ row. bytes_eq row.line.shown.items shown) 0 rows

-- ---- what is told of the mounts that stand for them

-- of the mount that stands for a line, if one does
abbrev pub of_seat : (ℕ → Option ℕ) → Option ℕ → Option ℕ
of_seat told None = None
of_seat told (Some m) = told m

-- of all of them
abbrev pub told_of : (ℕ → Option ℕ) → List Row → List (Option ℕ)
told_of told rows = map (λ row. of_seat told row.seat) rows

-- the namespace of a mount
abbrev pub ns_of : MountTable → ℕ → Option ℕ
ns_of t m = option_map (λ row. row.ns) (mount_row t.rows m)

-- its file system
abbrev pub fs_of : MountTable → ℕ → Option ℕ
fs_of t m = option_map (λ row. row.fs) (mount_row t.rows m)

-- ---- where a mount is

-- the line at this place is another one's parent if it is of the same namespace
abbrev pub if_same_space : MountLine → ℕ → Option Row → Option ℕ
if_same_space line place None = None
if_same_space line place (Some row) = if row.line.space == line.space then Some place else None

-- the same where there is a place
abbrev pub parent_at : List Row → MountLine → Option ℕ → Option ℕ
parent_at rows line None = None
parent_at rows line (Some place) = if_same_space line place (slice_get rows place)

-- where the line of the mount stands that the line's is mounted on: another one of its namespace
abbrev pub parent_place : List Row → MountLine → Option ℕ
parent_place rows line =
    if line.parent == line.number then None
    else parent_at rows line (place_of line.parent (numbers_of rows))

-- the mount that stands for a line, if there is a line and one does
abbrev pub seat_in : Option Row → Option ℕ
seat_in None = None
seat_in (Some row) = row.seat

-- a mount is on the one that stands for the line at that place, or nowhere if there is no place
abbrev pub is_on : List Row → Option ℕ → Option Position → Bool
is_on rows None None = true
is_on rows None (Some position) = false
is_on rows (Some place) None = false
is_on rows (Some place) (Some position) = is_number position.mount (seat_in (slice_get rows place))

-- ---- in what a mount is as its line tells it

-- its namespace stands for the line's
abbrev pub has_namespace : MountTable → List Row → MountLine → MountRow → Bool
has_namespace t rows line row =
    stands_for (Some line.space) (spaces_of rows) (Some row.ns) (told_of (ns_of t) rows)

-- its path is the line's
abbrev pub has_path : MountTable → MountLine → ℕ → Bool
has_path t line m = bytes_eq (path_of t.rows m) (text_of line.path)

-- its file system stands for what the line shows
abbrev pub has_shown : MountTable → List Row → MountLine → MountRow → Bool
has_shown t rows line row =
    same_number (showing_of rows line.shown.items) (place_of row.fs (told_of (fs_of t) rows))

-- its peer group stands for the line's, or there are none
abbrev pub has_group : MountTable → List Row → MountLine → ℕ → Bool
has_group t rows line m =
    stands_for line.group (groups_of rows) (group_of t.groups m) (told_of (group_of t.groups) rows)

-- so does its master
abbrev pub has_master : MountTable → List Row → MountLine → ℕ → Bool
has_master t rows line m =
    stands_for line.master (groups_of rows) (master_of t.groups m) (told_of (group_of t.groups) rows)

-- whether it is unbindable
abbrev pub is_unbindable : Option MemberRow → Bool
is_unbindable None = false
is_unbindable (Some member) = member.unbindable

-- both are so, or neither
abbrev pub same_bool : Bool → Bool → Bool
same_bool true b = b
same_bool false b = not b

-- the first of these that doesn't hold
abbrev pub first_unlike : Bool → Bool → Bool → Bool → Bool → Bool → Bool → Option Unlike
first_unlike namespace parent path shown group master unbindable =
    if not namespace then Some un.Namespace
    else if not parent then Some un.Parent
    else if not path then Some un.Path
    else if not shown then Some un.FileSystem
    else if not group then Some un.PeerGroup
    else if not master then Some un.Master
    else if not unbindable then Some un.Unbindable
    else None

-- in what a mount is first unlike its line
abbrev pub unlike_found : MountTable → List Row → MountLine → ℕ → MountRow → Option Unlike
unlike_found t rows line m row =
    first_unlike (has_namespace t rows line row) (is_on rows (parent_place rows line) row.mountpoint) (has_path t line m)
    (has_shown t rows line row) (has_group t rows line m) (has_master t rows line m)
    (same_bool line.is_unbindable (is_unbindable (member_row t.groups.members m)))

-- the same, if the mount is there
abbrev pub unlike_row : MountTable → List Row → MountLine → ℕ → Option MountRow → Option Unlike
unlike_row t rows line m None = Some un.Missing
unlike_row t rows line m (Some row) = unlike_found t rows line m row

-- the same of the mount that stands for a line, if one does
abbrev pub unlike_seat : MountTable → List Row → MountLine → Option ℕ → Option Unlike
unlike_seat t rows line None = Some un.Missing
unlike_seat t rows line (Some m) = unlike_row t rows line m (mount_row t.rows m)

-- In what the mount that stands for a line is first unlike it; none where it is like it in all. A mount is to be in a
-- namespace that stands for the line's, on the mount that stands for its parent's, at its path, and to show what the
-- line shows; peer group and master are to stand for those of the line.
abbrev pub unlikeness : MountTable → List Row → Row → Option Unlike
unlikeness t rows row = unlike_seat t rows row.line row.seat
