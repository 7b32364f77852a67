-- Bytes as text in a picture (XML 1.0, "Character Data and Markup").
use Rattle.std.specs.Prelude.{ℕ, ◌-◌, Bool, ◌==◌, nat_lt, nat_le, not, ◌&&◌, List, [], ◌∷◌, ◌++◌, length, take, drop, codes, if◌then◌else◌}
use Rattle.std.specs.List.{flat_map}
use Rattle.hex.specs.Hex.{encode_lower}

-- it is shown as it is: a printable byte of ASCII other than the backslash
abbrev pub is_plain : ℕ → Bool
is_plain byte = nat_le 32 byte && nat_lt byte 127 && not (byte == 92)

-- any other is shown by two small hex digits
abbrev pub plain : ℕ → List ℕ
plain byte = if is_plain byte then byte ∷ [] else codes "\\x" ++ encode_lower (byte ∷ [])

-- what means something in XML is shown by its entity
abbrev pub xml_byte : ℕ → List ℕ
xml_byte byte =
    if byte == 38 then codes "&amp;"
    else if byte == 60 then codes "&lt;"
    else if byte == 62 then codes "&gt;"
    else if byte == 34 then codes "&quot;"
    else plain byte

-- bytes as text in XML
abbrev pub xml : List ℕ → List ℕ
xml bytes = flat_map xml_byte bytes

-- Bytes, cut in their middle, which three dots tell: so many of the first and of the last stay.
abbrev pub words : ℕ → List ℕ → List ℕ
words half bytes =
    if nat_lt half (length bytes - half)
    then xml (take half bytes) ++ (codes "..." ++ xml (drop (length bytes - half) bytes))
    else xml bytes
