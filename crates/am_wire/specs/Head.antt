-- The numbers of a packet as they stand in the bytes (auto_fs.h, struct autofs_v5_packet).
use Rattle.std.specs.Prelude.{◌≡◌, ◌++◌, ◌<◌, ◌^◌, List, ℕ, length}
use Rattle.byteorder.specs.Endian.{little_bytes}
use Rattle.am_wire.specs.declared.head.Head.{Head}
use Rattle.am_wire.specs.Format.{word_at, long_at}
use Rattle.am_wire.specs.PacketType.{kind_number}
use Rattle.am_wire.specs.Fields.{Fields}

-- these numbers stand at their offsets
pub record IsHead (bytes : List ℕ) (h : Head) : Type 0 where
  pub proto_version : word_at 0 bytes ≡ h.proto_version
  pub kind : word_at 4 bytes ≡ h.kind
  pub token : word_at 8 bytes ≡ h.token
  pub dev : word_at 12 bytes ≡ h.dev
  pub ino : long_at 16 bytes ≡ h.ino
  pub uid : word_at 24 bytes ≡ h.uid
  pub gid : word_at 28 bytes ≡ h.gid
  pub pid : word_at 32 bytes ≡ h.pid
  pub tgid : word_at 36 bytes ≡ h.tgid
  pub len : word_at 40 bytes ≡ h.len

-- each number fits its field
pub record HasFittingNumbers (h : Head) : Type 0 where
  pub proto_version : h.proto_version < 256 ^ 4
  pub kind : h.kind < 256 ^ 4
  pub token : h.token < 256 ^ 4
  pub dev : h.dev < 256 ^ 4
  pub ino : h.ino < 256 ^ 8
  pub uid : h.uid < 256 ^ 4
  pub gid : h.gid < 256 ^ 4
  pub pid : h.pid < 256 ^ 4
  pub tgid : h.tgid < 256 ^ 4
  pub len : h.len < 256 ^ 4

-- the numbers of a packet
abbrev pub head_of : Fields → Head
head_of p =
    record {
      proto_version = 5;
      kind = kind_number p.kind;
      token = p.token;
      dev = p.dev;
      ino = p.ino;
      uid = p.uid;
      gid = p.gid;
      pid = p.pid;
      tgid = p.tgid;
      len = length p.name;
    }

-- the bytes of the numbers, in the order of their offsets
abbrev pub head_bytes : Head → List ℕ
head_bytes h =
    little_bytes 4 h.proto_version
    ++ little_bytes 4 h.kind
    ++ little_bytes 4 h.token
    ++ little_bytes 4 h.dev
    ++ little_bytes 8 h.ino
    ++ little_bytes 4 h.uid
    ++ little_bytes 4 h.gid
    ++ little_bytes 4 h.pid
    ++ little_bytes 4 h.tgid
    ++ little_bytes 4 h.len
