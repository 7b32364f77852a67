-- What a packet says, wherever its name lies (auto_fs.h, struct autofs_v5_packet).
use Rattle.std.specs.Prelude.{ℕ, List}
use Rattle.am_wire.specs.declared.packet_type.PacketType.{PacketType}
use Rattle.am_wire.specs.declared.packet.Packet.{Packet}
use Rattle.am_wire.specs.declared.packet.PacketRef.{PacketRef}

-- the fields of a packet; its name without what stands behind it
pub record Fields : Type 0 where
  pub kind : PacketType
  pub token : ℕ
  pub dev : ℕ
  pub ino : ℕ
  pub uid : ℕ
  pub gid : ℕ
  pub pid : ℕ
  pub tgid : ℕ
  pub name : List ℕ

-- what a packet says that owns its name
abbrev pub fields_of : Packet → Fields
fields_of p =
    record {
      kind = p.kind;
      token = p.token;
      dev = p.dev;
      ino = p.ino;
      uid = p.uid;
      gid = p.gid;
      pid = p.pid;
      tgid = p.tgid;
      name = p.name;
    }

-- what a packet says whose name is where it was read
abbrev pub fields_of_ref : PacketRef → Fields
fields_of_ref p =
    record {
      kind = p.kind;
      token = p.token;
      dev = p.dev;
      ino = p.ino;
      uid = p.uid;
      gid = p.gid;
      pid = p.pid;
      tgid = p.tgid;
      name = p.name.now;
    }
