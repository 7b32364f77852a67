use Rattle.std.proofs.Common.{take}
use Rattle.am_script.specs.{Puts}
use Rattle.am_draw.specs.{xml}
use Rattle.am_draw.proofs.words.put_xml.Given as goal

abbrev pub invariant-loop-byte : goal.invariant-loop-byte
invariant-loop-byte g l = Puts l.fn.output l.output (xml (take l.byte-index l.bytes)) (g.W.Write.contents l.fn.writer) (g.W.Write.contents l.writer)
