-- How a mount takes part in propagation, in the words of /proc/self/mountinfo (proc_pid_mountinfo(5),
-- "optional fields"). Own choice (docs/FORMATS.md, "Pictures").
use Rattle.std.specs.Prelude.{ℕ, Bool, true, false, List, [], ◌++◌, codes, decimal, Option, None, Some}
use Rattle.am_names.specs.{MemberRow}
use Rattle.am_names.specs.PeerGroups.{PeerGroups}
use Rattle.am_group.specs.{group_of, master_of, member_row}

-- nothing, or the word and the number of the peer group
abbrev pub group_text : List ℕ → Option ℕ → List ℕ
group_text word None = []
group_text word (Some group) = word ++ decimal group

-- whether it is unbindable
abbrev pub unbindable_text : Bool → List ℕ
unbindable_text true = codes " unbindable"
unbindable_text false = []

-- the same of a mount that has a row
abbrev pub member_text : Option MemberRow → List ℕ
member_text None = []
member_text (Some member) = unbindable_text member.unbindable

-- its peer group, its master, and whether it is unbindable; of a private mount nothing
abbrev pub groups_text : PeerGroups → ℕ → List ℕ
groups_text s mount =
    group_text (codes " shared:") (group_of s mount)
    ++ (group_text (codes " master:") (master_of s mount) ++ member_text (member_row s.members mount))
