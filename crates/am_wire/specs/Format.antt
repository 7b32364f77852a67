-- A packet as bytes: the fields at their offsets, little endian
-- (auto_fs.h, struct autofs_v5_packet, as it lies on x86-64).
use Rattle.std.specs.Prelude.{◌≡◌, ◌≢◌, ℕ, ◌==◌, ◌||◌, ◌&&◌, nat_lt, not, Bool, false, IsTrue, List, ◌++◌, length, take, drop, replicate}
use Rattle.am_names.specs.{is_name}
use Rattle.byteorder.specs.Endian.{little_number, little_bytes}
use Rattle.am_wire.specs.declared.packet_type.PacketType.{PacketType}
use Rattle.am_wire.specs.declared.fault.WireFault.{WireFault}
use Rattle.am_wire.specs.declared.fault.WireFault.TheVariants as faults
use Rattle.am_wire.specs.PacketType.{kind_number, is_indirect}
use Rattle.am_wire.specs.Fields.{Fields}
use Rattle.am_wire.specs.Stored.{padded}

-- the number in the 4 bytes at an offset
unfoldable pub word_at : ℕ → List ℕ → ℕ
word_at at bytes = little_number 4 (drop at bytes)

-- the number in the 8 bytes at an offset
unfoldable pub long_at : ℕ → List ℕ → ℕ
long_at at bytes = little_number 8 (drop at bytes)

-- a name has at most 255 bytes, and at least one where it is looked up in a directory
abbrev pub may_have_length : PacketType → ℕ → Bool
may_have_length k len = not (nat_lt 255 len) && not (is_indirect k && (len == 0))

-- what is looked up in a directory is a name; of a direct trigger it may be any bytes
abbrev pub may_have_name : PacketType → List ℕ → Bool
may_have_name k name = not (is_indirect k) || is_name name

-- the name is the first `len` bytes from offset 44
abbrev pub name_at : List ℕ → List ℕ
name_at bytes = take (word_at 40 bytes) (drop 44 bytes)

-- 304 bytes, or 300 without the padding
abbrev pub has_length : List ℕ → Bool
has_length bytes = (length bytes == 300) || (length bytes == 304)

-- The bytes are those of the packet. What stands behind the name is free.
pub record IsPacket (p : Fields) (bytes : List ℕ) : Type 0 where
  pub long : IsTrue (has_length bytes)
  pub proto_version : word_at 0 bytes ≡ 5
  pub kind : word_at 4 bytes ≡ kind_number p.kind
  pub token : word_at 8 bytes ≡ p.token
  pub dev : word_at 12 bytes ≡ p.dev
  pub ino : long_at 16 bytes ≡ p.ino
  pub uid : word_at 24 bytes ≡ p.uid
  pub gid : word_at 28 bytes ≡ p.gid
  pub pid : word_at 32 bytes ≡ p.pid
  pub tgid : word_at 36 bytes ≡ p.tgid
  pub len : word_at 40 bytes ≡ length p.name
  pub name : name_at bytes ≡ p.name
  pub sized : IsTrue (may_have_length p.kind (length p.name))
  pub named : IsTrue (may_have_name p.kind p.name)

-- the bytes are those of no other packet
abbrev pub IsOnlyPacket : Fields → List ℕ → Type 0
IsOnlyPacket p bytes = (q : Fields) → IsPacket q bytes → q ≡ p

-- the bytes are those of no packet
abbrev pub IsNoPacket : List ℕ → Type 0
IsNoPacket bytes = (p : Fields) → IsPacket p bytes → ⊥

-- which test the bytes fail first: those before it hold
abbrev pub FailsFirst : WireFault → List ℕ → Type 0
FailsFirst faults.Length bytes = has_length bytes ≡ false
FailsFirst faults.Version bytes = IsTrue (has_length bytes) × (word_at 0 bytes ≢ 5)
FailsFirst faults.Kind bytes =
    IsTrue (has_length bytes)
    × (word_at 0 bytes ≡ 5)
    × ((k : PacketType) → word_at 4 bytes ≢ kind_number k)
FailsFirst faults.NameLength bytes =
    IsTrue (has_length bytes)
    × (word_at 0 bytes ≡ 5)
    × (k : PacketType)
    × (word_at 4 bytes ≡ kind_number k)
    × (may_have_length k (word_at 40 bytes) ≡ false)
FailsFirst faults.BadName bytes =
    IsTrue (has_length bytes)
    × (word_at 0 bytes ≡ 5)
    × (k : PacketType)
    × (word_at 4 bytes ≡ kind_number k)
    × IsTrue (may_have_length k (word_at 40 bytes))
    × (may_have_name k (name_at bytes) ≡ false)

-- what is written: all that is free is zero
abbrev pub canonical : Fields → List ℕ
canonical p =
    little_bytes 4 5
    ++ little_bytes 4 (kind_number p.kind)
    ++ little_bytes 4 p.token
    ++ little_bytes 4 p.dev
    ++ little_bytes 8 p.ino
    ++ little_bytes 4 p.uid
    ++ little_bytes 4 p.gid
    ++ little_bytes 4 p.pid
    ++ little_bytes 4 p.tgid
    ++ little_bytes 4 (length p.name)
    ++ padded p.name
    ++ replicate 4 0

-- a packet of the format: its name is allowed for its kind
pub record IsWritable (p : Fields) : Type 0 where
  pub sized : IsTrue (may_have_length p.kind (length p.name))
  pub named : IsTrue (may_have_name p.kind p.name)
