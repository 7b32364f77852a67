-- The stored form of a packet's name, and back (auto_fs.h, struct autofs_v5_packet, `name`).
use Rattle.std.specs.Prelude.{◌≡◌, ℕ, List, length, take}
use Rattle.std.proofs.Common.{sym, ap, ◌∙◌, arith}
use Rattle.std.proofs.lemmas.List.{length-take}
use Rattle.am_wire.specs.declared.packet_name.PacketName.TheInside.{Inside}
use Rattle.am_wire.specs.Stored.{padded, IsStored}

-- a packet's name as it is stored
abbrev pub inside_of : List ℕ → Inside
inside_of bytes = record { buf = padded bytes; len = length bytes }

-- what is stored of the name that is stored is the same
pub stored_back : (n : Inside) → IsStored n.buf n.len → inside_of (take n.len n.buf) ≡ n
stored_back n h =
    let e : length (take n.len n.buf) ≡ n.len =
    omega (arith, length-take n.len n.buf, h.long, h.short) in
    let make : List ℕ → ℕ → Inside = λ b l. record { buf = b; len = l } in
    ap (λ (b : List ℕ). make b (length (take n.len n.buf))) (sym h.zeros) ∙ ap (make n.buf) e
