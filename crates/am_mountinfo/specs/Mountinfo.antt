-- The mounts of a namespace as /proc/PID/mountinfo tells them (proc(5), "/proc/pid/mountinfo").
use Rattle.std.specs.Prelude.{◌≡◌, ◌↔◌, ℕ, zero, suc, ◌==◌, ◌&&◌, Bool, true, false, List, [], ◌∷◌, ◌++◌, map, filter, find, reverse, length, Contains, codes, decimal, Option, None, Some, if◌then◌else◌}
use Rattle.std.specs.List.{flat_map, list_any}
use Rattle.std.specs.List.Sorted.{IsStrictlyIncreasing}
use Rattle.am_names.specs.PeerGroups.{PeerGroups}
use Rattle.am_names.specs.{text_of, MemberRow, MountRow, Position}
use Rattle.am_group.specs.{member_row, group_of, master_of, master_of_group}
use Rattle.am_kernel.specs.{KernelState}
use Rattle.am_kernel.specs.declared.row.Attached.{Attached}
use Rattle.am_mount.specs.{is_in, mount_row}
use Rattle.am_propagate.specs.MountTable.{MountTable}
use Rattle.am_trigger.specs.{autofs_of, Autofs}

-- ---- where mounts are

-- the mount of this position; a root is its own parent
abbrev pub parent_in : ℕ → Option Position → ℕ
parent_in m None = m
parent_in m (Some position) = position.mount

-- the mount that this one is mounted on; the root of a namespace is its own parent
abbrev pub parent_of : MountRow → ℕ
parent_of row = parent_in row.mount row.mountpoint

-- the path of a mountpoint, on a mount that has this path; a root is mounted nowhere
abbrev pub below : List ℕ → Option Position → List ℕ
below path None = []
below path (Some position) = path ++ text_of position.place

-- the path of a mount, among rows of which the youngest comes first: that of the mount that it is
-- mounted on, which is older, and its place there
abbrev pub path_among : List MountRow → ℕ → List ℕ
path_among [] m = []
path_among (row ∷ older) m =
    if row.mount == m then below (path_among older (parent_of row)) row.mountpoint
    else path_among older m

-- the path of a mount from the root of its namespace, each name behind a slash
abbrev pub path_of : List MountRow → ℕ → List ℕ
path_of rows m = path_among (reverse rows) m

-- each mount's path is below that of the mount that it is mounted on
abbrev pub ArePlaced : List MountRow → Type 0
ArePlaced rows =
    (m : ℕ) (row : MountRow) → mount_row rows m ≡ Some row →
    path_of rows m ≡ below (path_of rows (parent_of row)) row.mountpoint

-- a blank, a tab, a line feed and a backslash are written by their octal digits
abbrev pub byte_text : ℕ → List ℕ
byte_text b =
    if b == 32 then 92 ∷ codes "040"
    else if b == 9 then 92 ∷ codes "011"
    else if b == 10 then 92 ∷ codes "012"
    else if b == 92 then 92 ∷ codes "134"
    else b ∷ []

-- the path as a word; that of a root is one slash
abbrev pub path_text : List ℕ → List ℕ
path_text path = if length path == 0 then codes "/" else flat_map byte_text path

-- ---- how they propagate

-- nothing, or a blank, a word and the number
abbrev pub tag_text : List ℕ → Option ℕ → List ℕ
tag_text word None = []
tag_text word (Some number) = word ++ decimal number

-- there is a number, and it is this
abbrev pub is_number : ℕ → Option ℕ → Bool
is_number n None = false
is_number n (Some other) = other == n

-- the mount is of this namespace, and in the peer group
abbrev pub is_peer_in : PeerGroups → ℕ → ℕ → MountRow → Bool
is_peer_in s ns group row = is_in ns row && is_number group (group_of s row.mount)

-- the peer group has a mount in the namespace
abbrev pub has_peer : MountTable → ℕ → ℕ → Bool
has_peer t ns group = list_any (is_peer_in t.groups ns group) t.rows

-- this peer group, its master, and so on upwards; at most so many
abbrev pub masters_from : ℕ → PeerGroups → Option ℕ → List ℕ
masters_from zero s group = []
masters_from (suc most) s None = []
masters_from (suc most) s (Some group) = group ∷ masters_from most s (master_of_group s group)

-- the number, or 0 where there is none
abbrev pub number_or_0 : Option ℕ → ℕ
number_or_0 None = 0
number_or_0 (Some n) = n

-- the peer groups above a mount, its master first. The numbers of masters go down, so they are at
-- most as many as the number of the first.
abbrev pub masters_of : PeerGroups → ℕ → List ℕ
masters_of s m = masters_from (number_or_0 (master_of s m)) s (master_of s m)

-- of the peer groups above the mount the closest that has a mount in its namespace (fs/pnode.c,
-- get_dominating_id)
abbrev pub dominating : MountTable → MountRow → Option ℕ
dominating t row = find (has_peer t row.ns) (masters_of t.groups row.mount)

-- the peer group, if it isn't the master
abbrev pub but : Option ℕ → Option ℕ → Option ℕ
but master None = None
but master (Some group) = if is_number group master then None else Some group

-- where the mount receives from in its namespace, if that isn't its master
abbrev pub source_of : MountTable → MountRow → Option ℕ
source_of t row = but (master_of t.groups row.mount) (dominating t row)

-- whether it is unbindable
abbrev pub flag_text : Bool → List ℕ
flag_text true = codes " unbindable"
flag_text false = []

-- the same of a mount that has a row
abbrev pub unbindable_text : Option MemberRow → List ℕ
unbindable_text None = []
unbindable_text (Some member) = flag_text member.unbindable

-- the optional fields, in the order of fs/proc_namespace.c
abbrev pub optional_text : MountTable → MountRow → List ℕ
optional_text t row =
    tag_text (codes " shared:") (group_of t.groups row.mount) ++
    (tag_text (codes " master:") (master_of t.groups row.mount) ++
    (tag_text (codes " propagate_from:") (source_of t row) ++
    unbindable_text (member_row t.groups.members row.mount)))

-- ---- the lines

-- the numbers of the mount, of its parent, and of its file system
abbrev pub numbers_text : MountRow → List ℕ
numbers_text row =
    decimal row.mount ++ (codes " " ++ decimal (parent_of row) ++ (codes " 0:" ++ decimal row.fs))

-- a mount shows the root of its file system
abbrev pub point_text : List ℕ → List ℕ
point_text path = codes " / " ++ (path_text path ++ codes " rw")

-- ---- the type and the options of a file system

-- the attachment is one of this file system
abbrev pub is_of_fs : ℕ → Attached → Bool
is_of_fs fs row = row.fs == fs

-- the latest attachment of a file system
abbrev pub attached_in : KernelState → ℕ → Option Attached
attached_in k fs = find (is_of_fs fs) k.attached

-- The receiving end that the daemon is told through: the number of the attachment, in place of a descriptor's, and -1
-- in catatonic mode, where none is left (fs/autofs/inode.c, `autofs_show_options`).
abbrev pub receiver_text : Bool → ℕ → List ℕ
receiver_text true attach = codes ",fd=-1"
receiver_text false attach = codes ",fd=" ++ decimal attach

-- the receiving end, and after how many seconds without use a mount may expire
abbrev pub served_text : Bool → Option Attached → List ℕ
served_text catatonic None = []
served_text catatonic (Some row) = receiver_text catatonic row.attach ++ (codes ",timeout=" ++ decimal row.timeout)

-- the protocol is version 5 alone, and the autofs direct or indirect
abbrev pub protocol_text : Bool → List ℕ
protocol_text true = codes ",minproto=5,maxproto=5,direct\n"
protocol_text false = codes ",minproto=5,maxproto=5,indirect\n"

-- an autofs with its options, in the order in which Linux prints them, or a plain file system
abbrev pub type_text : Option Autofs → Option Attached → List ℕ
type_text None row = codes " - plain none rw\n"
type_text (Some autofs) row =
    codes " - autofs none rw" ++ (served_text autofs.catatonic row ++ protocol_text autofs.direct)

-- the line of a mount
abbrev pub mount_line : KernelState → MountRow → List ℕ
mount_line k row =
    numbers_text row ++
    (point_text (path_of k.table.rows row.mount) ++
    (optional_text k.table row ++ type_text (autofs_of k.triggers row.fs) (attached_in k row.fs)))

-- the mounts of a namespace, in rising order
abbrev pub mountinfo : KernelState → ℕ → List ℕ
mountinfo k ns = flat_map (mount_line k) (filter (is_in ns) k.table.rows)

-- ---- the namespaces

-- the mounts of a namespace, behind a comment with its number
abbrev pub namespace_text : KernelState → ℕ → List ℕ
namespace_text k ns = codes "# namespace " ++ decimal ns ++ (codes "\n" ++ mountinfo k ns)

-- the namespaces of all mounts, each once, in rising order
pub record AreNamespaces (rows : List MountRow) (order : List ℕ) : Type 0 where
  pub rising : IsStrictlyIncreasing order
  pub each : (ns : ℕ) → Contains order ns ↔ Contains (map (λ row. row.ns) rows) ns

-- those of these namespaces
abbrev pub namespaces_text : KernelState → List ℕ → List ℕ
namespaces_text k order = flat_map (namespace_text k) order
