-- What the words of a map line may be (autofs(5), "SUN FORMAT").
use Rattle.std.specs.Prelude.{ℕ, ◌==◌, Bool, not, ◌&&◌, ◌||◌, List, [], ◌∷◌, length, Result, Ok, Err, if◌then◌else◌}
use Rattle.std.specs.Str.{bytes_eq}
use Rattle.std.specs.List.{list_all, before_first, after_first}
use Rattle.am_names.specs.declared.errno.Errno.{Errno}
use Rattle.am_names.specs.{is_name, path_read, text_of}
use Rattle.am_lines.specs.{begins_with, is_colon}
use Rattle.am_map.specs.declared.fault.MapFaultKind.{MapFaultKind}
use Rattle.am_map.specs.declared.fault.MapFaultKind.TheVariants.{BadKey}
use Rattle.am_map.specs.declared.kind.MapKind.{MapKind}
use Rattle.am_map.specs.declared.kind.MapKind.TheVariants.{Indirect, Direct}

-- own choice (docs/DECISIONS.md, "Maps are plain"): no variables, quotes or escapes, so no `$`, `"`
-- or `\`, and no zero byte
abbrev pub is_plain_byte : ℕ → Bool
is_plain_byte b = not (b == 36) && not (b == 34) && not (b == 92) && not (b == 0)

-- each byte of the word is plain
abbrev pub is_plain : List ℕ → Bool
is_plain word = list_all is_plain_byte word

-- the wildcard key
abbrev pub star : List ℕ
star = 42 ∷ []

-- a name or the wildcard, but no `+`, which would include another map
abbrev pub is_indirect_key : List ℕ → Bool
is_indirect_key word =
    is_plain word && not (begins_with 43 word) && (bytes_eq word star || is_name word)

-- the key of a path in a direct map: its canonical text, and `/` for the root
abbrev pub key_text : List (List ℕ) → List ℕ
key_text [] = 47 ∷ []
key_text (name ∷ names) = text_of (name ∷ names)

-- the key of what was read as a path
abbrev pub path_key : Result (List (List ℕ)) Errno → Result (List ℕ) MapFaultKind
path_key (Ok names) = Ok (key_text names)
path_key (Err e) = Err BadKey

-- what the first word is read as: the key, in a direct map that of a path
abbrev pub key_read : MapKind → List ℕ → Result (List ℕ) MapFaultKind
key_read Indirect word = if is_indirect_key word then Ok word else Err BadKey
key_read Direct word = if is_plain word then path_key (path_read word) else Err BadKey

-- a dash and at least one byte more
abbrev pub is_options : List ℕ → Bool
is_options word = is_plain word && not (length word == 1)

-- own choice (docs/DECISIONS.md, "Maps are plain"): a single host, so no `/`, `,`, `(` or `[`
abbrev pub is_host_byte : ℕ → Bool
is_host_byte b = not (b == 47) && not (b == 44) && not (b == 40) && not (b == 91)

-- what stands before the first colon
abbrev pub host_of : List ℕ → List ℕ
host_of word = before_first is_colon word

-- what stands behind the first colon
abbrev pub path_of : List ℕ → List ℕ
path_of word = after_first is_colon word

-- a host, possibly empty, a colon and a path that begins with a slash
abbrev pub is_location : List ℕ → Bool
is_location word =
    is_plain word && list_all is_host_byte (host_of word) && begins_with 47 (path_of word)
