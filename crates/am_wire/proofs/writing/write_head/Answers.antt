use Rattle.std.proofs.Common.{◌++◌, [], refl}
use Rattle.byteorder.specs.Endian.{little_bytes}
use Rattle.am_names.proofs.Puts.{put_behind}
use Rattle.am_wire.proofs.writing.write_head.Goals as goal

pub returns-clause-bytes : goal.returns-clause-bytes
returns-clause-bytes c =
    let h = c.args.head in
    let out = c.args.out.now in
    let wproto_version = put_behind 0 4 ([]) out out c.write_u32.new.out (little_bytes 4 h.proto_version) refl refl c.write_u32.ensures in
    let wkind = put_behind 4 4 (little_bytes 4 h.proto_version) out c.write_u32.new.out c.write_u32-2.new.out (little_bytes 4 h.kind) refl wproto_version c.write_u32-2.ensures in
    let wtoken = put_behind 8 4 (little_bytes 4 h.proto_version ++ little_bytes 4 h.kind) out c.write_u32-2.new.out c.write_u32-3.new.out (little_bytes 4 h.token) refl wkind c.write_u32-3.ensures in
    let wdev = put_behind 12 4 (little_bytes 4 h.proto_version ++ little_bytes 4 h.kind ++ little_bytes 4 h.token) out c.write_u32-3.new.out c.write_u32-4.new.out (little_bytes 4 h.dev) refl wtoken c.write_u32-4.ensures in
    let wino = put_behind 16 8 (little_bytes 4 h.proto_version ++ little_bytes 4 h.kind ++ little_bytes 4 h.token ++ little_bytes 4 h.dev) out c.write_u32-4.new.out c.write_u64.new.out (little_bytes 8 h.ino) refl wdev c.write_u64.ensures in
    let wuid = put_behind 24 4 (little_bytes 4 h.proto_version ++ little_bytes 4 h.kind ++ little_bytes 4 h.token ++ little_bytes 4 h.dev ++ little_bytes 8 h.ino) out c.write_u64.new.out c.write_u32-5.new.out (little_bytes 4 h.uid) refl wino c.write_u32-5.ensures in
    let wgid = put_behind 28 4 (little_bytes 4 h.proto_version ++ little_bytes 4 h.kind ++ little_bytes 4 h.token ++ little_bytes 4 h.dev ++ little_bytes 8 h.ino ++ little_bytes 4 h.uid) out c.write_u32-5.new.out c.write_u32-6.new.out (little_bytes 4 h.gid) refl wuid c.write_u32-6.ensures in
    let wpid = put_behind 32 4 (little_bytes 4 h.proto_version ++ little_bytes 4 h.kind ++ little_bytes 4 h.token ++ little_bytes 4 h.dev ++ little_bytes 8 h.ino ++ little_bytes 4 h.uid ++ little_bytes 4 h.gid) out c.write_u32-6.new.out c.write_u32-7.new.out (little_bytes 4 h.pid) refl wgid c.write_u32-7.ensures in
    let wtgid = put_behind 36 4 (little_bytes 4 h.proto_version ++ little_bytes 4 h.kind ++ little_bytes 4 h.token ++ little_bytes 4 h.dev ++ little_bytes 8 h.ino ++ little_bytes 4 h.uid ++ little_bytes 4 h.gid ++ little_bytes 4 h.pid) out c.write_u32-7.new.out c.write_u32-8.new.out (little_bytes 4 h.tgid) refl wpid c.write_u32-8.ensures in
    let wlen = put_behind 40 4 (little_bytes 4 h.proto_version ++ little_bytes 4 h.kind ++ little_bytes 4 h.token ++ little_bytes 4 h.dev ++ little_bytes 8 h.ino ++ little_bytes 4 h.uid ++ little_bytes 4 h.gid ++ little_bytes 4 h.pid ++ little_bytes 4 h.tgid) out c.write_u32-8.new.out c.write_u32-9.new.out (little_bytes 4 h.len) refl wtgid c.write_u32-9.ensures in
    wlen
