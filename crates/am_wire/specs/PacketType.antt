-- The kinds of packets and their numbers (auto_fs.h, enum autofs_notify).
use Rattle.std.specs.Prelude.{ℕ, ◌==◌, Bool, true, false, Option, Some, None, if◌then◌else◌}
use Rattle.am_names.specs.{TokenKind}
use Rattle.am_names.specs.declared.row.TokenKind.TheVariants.{Missing, Expire}
use Rattle.am_wire.specs.declared.packet_type.PacketType.{PacketType}
use Rattle.am_wire.specs.declared.packet_type.PacketType.TheVariants.{MissingIndirect, ExpireIndirect, MissingDirect, ExpireDirect}

-- the number in the field `type`
abbrev pub kind_number : PacketType → ℕ
kind_number MissingIndirect = 3
kind_number ExpireIndirect = 4
kind_number MissingDirect = 5
kind_number ExpireDirect = 6

-- the kind with this number
abbrev pub kind_read : ℕ → Option PacketType
kind_read n =
    if n == 3 then Some MissingIndirect
    else if n == 4 then Some ExpireIndirect
    else if n == 5 then Some MissingDirect
    else if n == 6 then Some ExpireDirect
    else None

-- the kind for what is asked, and whether the trigger is direct
abbrev pub kind_of : TokenKind → Bool → PacketType
kind_of Missing false = MissingIndirect
kind_of Expire false = ExpireIndirect
kind_of Missing true = MissingDirect
kind_of Expire true = ExpireDirect

-- whether the trigger is a name in the root of the file system
abbrev pub is_indirect : PacketType → Bool
is_indirect MissingIndirect = true
is_indirect ExpireIndirect = true
is_indirect MissingDirect = false
is_indirect ExpireDirect = false

-- what is asked
abbrev pub token_kind : PacketType → TokenKind
token_kind MissingIndirect = Missing
token_kind ExpireIndirect = Expire
token_kind MissingDirect = Missing
token_kind ExpireDirect = Expire
