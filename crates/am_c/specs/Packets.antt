-- Packets as C has them (auto_fs.h, struct autofs_v5_packet).
use Rattle.std.specs.Prelude.{◌≡◌, ◌⊎◌, ◌<◌, ◌≤◌, ℕ, false, IsTrue, List, length, take, None, Some}
use Rattle.am_wire.specs.PacketType.{kind_number, kind_read}
use Rattle.am_wire.specs.declared.packet_type.PacketType.{PacketType}
use Rattle.am_wire.specs.Fields.{Fields}
use Rattle.am_wire.specs.Fault.{fault_number}
use Rattle.am_wire.specs.Format.{IsPacket, IsOnlyPacket, IsNoPacket, FailsFirst, IsWritable, canonical, may_have_length, may_have_name}
use Rattle.am_wire.specs.declared.fault.WireFault.{WireFault}
use Rattle.am_wire.specs.declared.fault.WireFault.TheVariants as faults
use Rattle.am_c.specs.declared.packet.AmPacket.{AmPacket}
use Rattle.am_c.specs.Buffer.{with_front}

-- ---- reading

-- its fields, and how long its name is
abbrev pub told_of : Fields → AmPacket
told_of p = record {
  kind = kind_number p.kind;
  token = p.token;
  dev = p.dev;
  uid = p.uid;
  gid = p.gid;
  pid = p.pid;
  tgid = p.tgid;
  name_len = length p.name;
  ino = p.ino;
}

-- The bytes are those of this packet alone, and C has its fields; or they fail this test first, and
-- C has what it had.
abbrev pub IsRead : List ℕ → AmPacket → AmPacket → ℕ → Type 0
IsRead bytes old new number =
    ((p : Fields) × IsPacket p bytes × IsOnlyPacket p bytes × (new ≡ told_of p) × (number ≡ 0))
    ⊎ ((fault : WireFault) × FailsFirst fault bytes × IsNoPacket bytes × (new ≡ old)
    × (number ≡ fault_number fault))

-- ---- writing

-- the packet of this kind that C's fields and this name are; the length that C tells isn't looked at
abbrev pub fields_told : PacketType → AmPacket → List ℕ → Fields
fields_told kind packet name = record {
  kind = kind;
  token = packet.token;
  dev = packet.dev;
  ino = packet.ino;
  uid = packet.uid;
  gid = packet.gid;
  pid = packet.pid;
  tgid = packet.tgid;
  name = name;
}

-- which test the packet and so much room fail first: those before it hold
abbrev pub IsUnwritable : WireFault → AmPacket → List ℕ → ℕ → Type 0
IsUnwritable faults.Length packet name room = room < 304
IsUnwritable faults.Version packet name room = ⊥
IsUnwritable faults.Kind packet name room = (304 ≤ room) × (kind_read packet.kind ≡ None)
IsUnwritable faults.NameLength packet name room =
    (304 ≤ room)
    × (kind : PacketType)
    × (kind_read packet.kind ≡ Some kind)
    × (may_have_length kind (length name) ≡ false)
IsUnwritable faults.BadName packet name room =
    (304 ≤ room)
    × (kind : PacketType)
    × (kind_read packet.kind ≡ Some kind)
    × IsTrue (may_have_length kind (length name))
    × (may_have_name kind name ≡ false)

-- The buffer has the 304 bytes of the packet at its front, which are read as that packet.
pub record IsPut (packet : AmPacket) (name old new : List ℕ) : Type 0 where
  pub kind : PacketType
  pub numbered : kind_read packet.kind ≡ Some kind
  pub room : 304 ≤ length old
  pub bytes : new ≡ with_front (canonical (fields_told kind packet name)) old
  pub reads : IsPacket (fields_told kind packet name) (take 304 new)

-- the packet is written; or it fails this test first, and the buffer is as it was
abbrev pub IsWritten : AmPacket → List ℕ → List ℕ → List ℕ → ℕ → Type 0
IsWritten packet name old new number =
    (IsPut packet name old new × (number ≡ 0))
    ⊎ ((fault : WireFault) × IsUnwritable fault packet name (length old) × (new ≡ old)
    × (number ≡ fault_number fault))

-- ---- the packet that C means

-- the packet is the one of C's fields and this name, and one of the format
pub record IsMeant (packet : AmPacket) (name : List ℕ) (fields : Fields) : Type 0 where
  pub kind : PacketType
  pub numbered : kind_read packet.kind ≡ Some kind
  pub same : fields ≡ fields_told kind packet name
  pub writable : IsWritable fields
