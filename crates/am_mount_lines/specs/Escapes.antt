-- Bytes that would end a word stand in a mountinfo by their octal digits (proc(5), "/proc/pid/mountinfo").
use Rattle.std.specs.Prelude.{ℕ, zero, suc, ◌==◌, List, [], ◌∷◌, take, codes, bytes_eq, Option, None, Some, if◌then◌else◌}

-- a blank, a tab, a line feed and a backslash by their octal digits; each other byte is itself
abbrev pub escaped : ℕ → List ℕ
escaped b =
    if b == 32 then 92 ∷ codes "040"
    else if b == 9 then 92 ∷ codes "011"
    else if b == 10 then 92 ∷ codes "012"
    else if b == 92 then 92 ∷ codes "134"
    else b ∷ []

-- the byte for which these digits stand behind a backslash
abbrev pub code_of : List ℕ → Option ℕ
code_of digits =
    if bytes_eq digits (codes "040") then Some 32
    else if bytes_eq digits (codes "011") then Some 9
    else if bytes_eq digits (codes "012") then Some 10
    else if bytes_eq digits (codes "134") then Some 92
    else None

-- a byte before others, if both are there
abbrev pub with_byte : Option ℕ → Option (List ℕ) → Option (List ℕ)
with_byte None bytes = None
with_byte (Some b) None = None
with_byte (Some b) (Some bytes) = Some (b ∷ bytes)

-- what a text says behind its first bytes, so many, which are the digits of an escape
abbrev pub plain_from : ℕ → List ℕ → Option (List ℕ)
plain_from skipped [] = Some []
plain_from (suc skipped) (b ∷ bytes) = plain_from skipped bytes
plain_from zero (b ∷ bytes) =
    if b == 92 then with_byte (code_of (take 3 bytes)) (plain_from 3 bytes)
    else with_byte (Some b) (plain_from zero bytes)

-- what a word says; none where a backslash stands before other bytes
abbrev pub plain_of : List ℕ → Option (List ℕ)
plain_of word = plain_from 0 word
