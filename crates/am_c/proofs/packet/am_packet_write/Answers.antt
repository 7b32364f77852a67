use Rattle.std.proofs.Common.{take, refl, inl, ap, ◌∙◌, subst, arith}
use Rattle.am_wire.specs.Fields.{Fields}
use Rattle.am_wire.specs.Format.{IsPacket, canonical}
use Rattle.am_c.specs.Buffer.{with_front}
use Rattle.am_c.proofs.packet.am_packet_write.Goals as goal

pub returns-in-Ok : goal.returns-in-Ok
returns-in-Ok c =
    let meant = c.in-Ok.ensures.ok in
    let out = c.put_packet.new.out in
    inl (
      record {
        kind = meant.kind;
        numbered = meant.numbered;
        room = omega arith;
        bytes = c.put_packet.ensures.bytes ∙ ap (λ (p : Fields). with_front (canonical p) c.args.out.now) meant.same;
        reads = subst (λ (p : Fields). IsPacket p (take 304 out)) meant.same c.put_packet.ensures.reads;
      },
      refl,
    )
