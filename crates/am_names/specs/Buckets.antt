-- A number for a text, which few texts have in common: own choice (Linux: the hash of a dentry).
use Rattle.std.specs.Prelude.{◌+◌, ◌*◌, ◌%◌, ℕ, List, [], ◌∷◌}

-- the bucket with one byte more, below a prime of 32 bits
unfoldable pub mix_one : ℕ → ℕ → ℕ
mix_one bucket byte = (bucket * 1000003 + byte) % 4294967291

-- each byte changes the number
abbrev pub mixed : ℕ → List ℕ → ℕ
mixed bucket [] = bucket
mixed bucket (byte ∷ bytes) = mixed (mix_one bucket byte) bytes

-- the bucket of a text: any function of it would do
abbrev pub bucket : List ℕ → ℕ
bucket text = mixed 0 text
