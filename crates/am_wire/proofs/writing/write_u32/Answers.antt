use Rattle.std.proofs.Common.{arith}
use Rattle.byteorder.specs.Endian.{little_bytes}
use Rattle.am_wire.proofs.WriteLemmas.{write_is}
use Rattle.am_wire.proofs.writing.write_u32.Goals as goal

pub returns : goal.returns
returns c = write_is c.args.at 4 304 c.args.out.now (little_bytes 4 c.args.n) c.write_u32.new.buf c.told-out (omega arith) c.write_u32.ensures
