-- The packet that a kept one stands for (auto_fs.h, struct autofs_v5_packet; docs/DECISIONS.md, "An
-- observation keeps triggers and packets in a small form").
use Rattle.am_wire.specs.{Packet}
use Rattle.am_state.specs.declared.kept_packet.KeptPacket.TheInside.{Inside}

-- its fields, and its name from where it is kept
abbrev pub packet_of : Inside → Packet
packet_of k =
    let parts = k.parts.value in
    record {
      kind = parts.kind;
      token = parts.token;
      dev = parts.dev;
      ino = parts.ino;
      uid = parts.uid;
      gid = parts.gid;
      pid = parts.pid;
      tgid = parts.tgid;
      name = parts.name;
    }
