-- The daemon reads a packet's trigger as the one that the packet is about, where its name is one.
use Rattle.std.proofs.Common.{◌≡◌, ℕ, Bool, true, false, not, ◌&&◌, ◌==◌, List, length, Option, Some, None, refl, ap, ◌∙◌}
use Rattle.std.specs.Prelude.{nat_lt, Ok, Err, if◌then◌else◌}
use Rattle.std.specs.List.{list_all}
use Rattle.std.specs.Result.{result_ok}
use Rattle.am_names.specs.{is_name, is_name_byte, is_dots, name_read, OpenToken}
use Rattle.am_names.specs.declared.errno.Errno.TheVariants.{ENAMETOOLONG, EINVAL}
use Rattle.am_names.specs.declared.trigger.Trigger.{Trigger}
use Rattle.am_wire.specs.{is_indirect, Packet}
use Rattle.am_laws.specs.OneObservation as laws
use Rattle.am_daemon.specs.{name_in, trigger_of}
use Rattle.am_machine.specs.{Asked, asked_in, asked_by, is_name_if_any, is_named}

-- a name isn't too long
short_enough : (a b c d : Bool) → (not a && not b && c && d) ≡ true → b ≡ false
short_enough true b c d h = absurd cc
short_enough false true c d h = absurd cc
short_enough false false c d h = refl

-- a name is read as itself
name_back : (name : List ℕ) → is_name name ≡ true → name_read name ≡ Ok name
name_back name h =
    let short = short_enough (length name == 0) (nat_lt 255 (length name)) (not (is_dots name)) (list_all is_name_byte name) h in
    ap (λ (b : Bool). if b then Err ENAMETOOLONG else if is_name name then Ok name else Err EINVAL) short
    ∙ ap (λ (b : Bool). if b then Ok name else Err EINVAL) h

name_same : (indirect : Bool) (name : List ℕ) → is_name_if_any (if indirect then Some name else None) ≡ true → name_in indirect name ≡ (if indirect then Some name else None)
name_same true name h = ap result_ok (name_back name h)
name_same false name h = refl

read_same : (packet : Packet) → is_named (laws.trigger_of packet) ≡ true → trigger_of packet ≡ laws.trigger_of packet
read_same packet h =
    let make : Option (List ℕ) → Trigger = λ name. record { fs = packet.dev; name = name } in
    ap make (name_same (is_indirect packet.kind) packet.name h)

-- the trigger of a packet that asks for what its token does
pub reads : (packet : Packet) (row : OpenToken) → asked_in packet ≡ asked_by row → is_named row.trigger ≡ true → trigger_of packet ≡ row.trigger
reads packet row asks named =
    let about : laws.trigger_of packet ≡ row.trigger = ap (λ (a : Asked). a.trigger) asks in
    read_same packet (ap is_named about ∙ named) ∙ about
