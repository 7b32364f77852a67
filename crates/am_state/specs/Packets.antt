-- Changes of a packet (auto_fs.h, struct autofs_v5_packet).
use Rattle.std.specs.Prelude.{ℕ}
use Rattle.am_wire.specs.{Packet}

-- the same packet, for this token
abbrev pub with_token : ℕ → Packet → Packet
with_token token p =
    record {
      kind = p.kind;
      token = token;
      dev = p.dev;
      ino = p.ino;
      uid = p.uid;
      gid = p.gid;
      pid = p.pid;
      tgid = p.tgid;
      name = p.name;
    }
