use Rattle.std.proofs.Common.{◌≡◌, ℕ, List, take, sym, ap, ◌∙◌, subst, arith}
use Rattle.am_wire.specs.Fields.{fields_of}
use Rattle.am_wire.specs.Format.{IsPacket}
use Rattle.am_c.specs.Buffer.{with_front}
use Rattle.am_c.proofs.BufferLemmas.{front_whole}
use Rattle.am_c.proofs.packet.put_packet.Goals as goal

pub returns-clause-bytes : goal.returns-clause-bytes
returns-clause-bytes c =
    c.put_front.ensures
    ∙ ap (λ (bytes : List ℕ). with_front bytes c.args.out.now) (c.as_slice.ensures ∙ c.write.ensures.bytes)

pub returns-clause-reads : goal.returns-clause-reads
returns-clause-reads c =
    let bytes = c.write.new.out in
    let front : take 304 c.put_front.new.buffer ≡ bytes =
    ap (take 304) (c.put_front.ensures ∙ ap (λ (b : List ℕ). with_front b c.args.out.now) c.as_slice.ensures)
    ∙ ap (λ (n : ℕ). take n (with_front bytes c.args.out.now)) (sym c.write.array_long)
    ∙ front_whole bytes c.args.out.now (omega (arith, c.write.array_long, c.requires.room)) in
    subst (λ (b : List ℕ). IsPacket (fields_of c.args.packet.now) b) (sym front) (c.write.ensures.whole c.requires.writable)
