use Rattle.std.proofs.Common.{take}
use Rattle.std.specs.List.{flat_map}
use Rattle.am_script.specs.{Puts}
use Rattle.am_mountinfo.specs.{byte_text}
use Rattle.am_mountinfo.proofs.mount_line.put_bytes.Given as goal

abbrev pub invariant-loop-byte : goal.invariant-loop-byte
invariant-loop-byte g l = Puts l.fn.output l.output (flat_map byte_text (take l.byte-index l.bytes)) (g.W.Write.contents l.fn.writer) (g.W.Write.contents l.writer)
