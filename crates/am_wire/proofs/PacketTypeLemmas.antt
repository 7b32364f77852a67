-- A number of a kind is that of one kind alone.
use Rattle.std.proofs.Common.{◌≡◌, ℕ, Some, refl, sym, ◌∙◌, ap, arith}
use Rattle.std.proofs.lemmas.Bool.Decides.{nat_tests}
use Rattle.am_wire.specs.declared.packet_type.PacketType.{PacketType}
use Rattle.am_wire.specs.declared.packet_type.PacketType.TheVariants.{MissingIndirect, ExpireIndirect, MissingDirect, ExpireDirect}
use Rattle.am_wire.specs.{kind_read, kind_number}

pub kind_read_is : (n : ℕ) (k : PacketType) → kind_read n ≡ Some k → n ≡ kind_number k
kind_read_is n MissingIndirect e = grind (arith, nat_tests)
kind_read_is n ExpireIndirect e = grind (arith, nat_tests)
kind_read_is n MissingDirect e = grind (arith, nat_tests)
kind_read_is n ExpireDirect e = grind (arith, nat_tests)

-- a kind's number is read as the kind
pub kind_read_back : (k : PacketType) → kind_read (kind_number k) ≡ Some k
kind_read_back MissingIndirect = refl
kind_read_back ExpireIndirect = refl
kind_read_back MissingDirect = refl
kind_read_back ExpireDirect = refl

-- two kinds with one number are one
pub kind_number_one : (j k : PacketType) → kind_number j ≡ kind_number k → j ≡ k
kind_number_one j k e =
    let some : Some j ≡ Some k = sym (kind_read_back j) ∙ ap kind_read e ∙ kind_read_back k in
    cc
