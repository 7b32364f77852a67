use Rattle.std.proofs.Common.{◌≡◌, ℕ, rules, arith, sym, ◌∙◌, ap, length, take, drop, true}
use Rattle.std.proofs.lemmas.List.{length-take, length-drop}
use Rattle.am_wire.specs.{may_have_length}
use Rattle.am_wire.proofs.FormatLemmas.{one_packet}
use Rattle.am_wire.proofs.PacketTypeLemmas.{kind_read_is}
use Rattle.am_wire.proofs.reading.read.Goals as goal

pub returns-clause-ok : goal.returns-clause-ok
returns-clause-ok c =
    let h = c.read_head-head.ensures in
    let name = c.name_of-name.result.now in
    let head_len = c.read_head-head.result.len in
    let len : length name ≡ head_len = ap length c.name_of-name.ensures ∙ omega (arith, length-take head_len (drop 44 c.args.bytes.now), length-drop 44 c.args.bytes.now) in
    let sized : may_have_length c.in-Some.kind head_len ≡ true = search rules in
    record {
      long = search rules;
      proto_version = omega arith;
      kind = h.kind ∙ kind_read_is _ _ (sym c.in-Some.ensures);
      token = h.token;
      dev = h.dev;
      ino = h.ino;
      uid = h.uid;
      gid = h.gid;
      pid = h.pid;
      tgid = h.tgid;
      len = h.len ∙ sym len;
      name = ap (λ (n : ℕ). take n (drop 44 c.args.bytes.now)) h.len ∙ sym c.name_of-name.ensures;
      sized = rw len sized;
      named = search rules;
    }

pub returns-clause-only : goal.returns-clause-only
returns-clause-only c = λ q is. one_packet _ q c.args.bytes.now (returns-clause-ok c) is
