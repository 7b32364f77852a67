-- What a line of a mountinfo says (proc(5), "/proc/pid/mountinfo").
use Rattle.std.specs.Prelude.{◌≡◌, ℕ, ◌+◌, ◌^◌, ◌==◌, ◌&&◌, Bool, true, false, not, nat_lt, List, [], ◌∷◌, ◌++◌, length, take, drop, codes, position, bytes_eq, Option, None, Some, ⊤, if◌then◌else◌}
use Rattle.std.specs.List.{list_any, slice_get, before_first, after_first, last_or}
use Rattle.std.specs.Result.{result_ok}
use Rattle.am_names.specs.{path_read}
use Rattle.am_mount_lines.specs.declared.mount_line.MountLine.{MountLine}
use Rattle.am_mount_lines.specs.declared.tail.Tail.{Tail}
use Rattle.am_mount_lines.specs.declared.misfit.LineFault.{LineFault}
use Rattle.am_mount_lines.specs.declared.misfit.LineFault.TheVariants as faults
use Rattle.am_mount_lines.specs.declared.misfit.LineFault.TheVariants.{NoMemory}
use Rattle.am_mount_lines.specs.declared.misfit.Misfit.{Misfit}
use Rattle.am_mount_lines.specs.declared.misfit.Expected.{Expected}
use Rattle.am_mount_lines.specs.declared.misfit.Expected.TheVariants as expected
use Rattle.am_mount_lines.specs.Escapes.{plain_of}
use Rattle.am_mount_lines.specs.Traps.{number_below, begins, told, trap_of}

-- ---- words

-- a word, or nothing
abbrev pub or_nothing : Option (List ℕ) → List ℕ
or_nothing None = []
or_nothing (Some word) = word

-- the word at a place, or nothing
abbrev pub word_at : List (List ℕ) → ℕ → List ℕ
word_at words place = or_nothing (slice_get words place)

-- a number of 64 bits
abbrev pub number_read : List ℕ → Option ℕ
number_read word = number_below (2 ^ 64) word

-- a path, if there is a text and it is one
abbrev pub path_in : Option (List ℕ) → Option (List (List ℕ))
path_in None = None
path_in (Some text) = result_ok (path_read text)

-- the path that a word says
abbrev pub path_told : List ℕ → Option (List (List ℕ))
path_told word = path_in (plain_of word)

-- something is there
abbrev pub is_there : {A : Type 0} → Option A → Bool
is_there None = false
is_there (Some x) = true

-- ---- the parts of a line

-- the word that ends the optional fields
abbrev pub is_dash : List ℕ → Bool
is_dash word = bytes_eq word (codes "-")

-- the optional fields: the words behind the first six, before the dash
abbrev pub fields_of : List (List ℕ) → List (List ℕ)
fields_of words = before_first is_dash (drop 6 words)

-- what stands behind the dash: the type of the file system, its source and its options
abbrev pub behind_dash : List (List ℕ) → List (List ℕ)
behind_dash words = after_first is_dash (drop 6 words)

-- the last word, or nothing
abbrev pub last_word : List (List ℕ) → List ℕ
last_word words = or_nothing (last_or None words)

-- ---- what is read

-- the number that a word is, if there is a word
abbrev pub number_in : Option (List ℕ) → Option ℕ
number_in None = None
number_in (Some word) = number_read word

-- the number of the first field with this tag, if there is one with it
abbrev pub field_read : List ℕ → List (List ℕ) → Option ℕ
field_read tag fields = number_in (told tag fields)

-- what the words behind the first six say
pub record IsTail (rest : List (List ℕ)) (tail : Tail) : Type 0 where
  pub group : field_read (codes "shared:") (before_first is_dash rest) ≡ tail.group
  pub master : field_read (codes "master:") (before_first is_dash rest) ≡ tail.master
  pub unbindable : tail.is_unbindable ≡
      list_any (λ field. bytes_eq field (codes "unbindable")) (before_first is_dash rest)
  pub trap : trap_of (word_at (after_first is_dash rest) 0) (last_word (after_first is_dash rest)) ≡ tail.trap

-- a mount, as the words of its line say it
pub record IsLine (space : ℕ) (words : List (List ℕ)) (line : MountLine) : Type 0 where
  pub in_space : line.space ≡ space
  pub number : number_read (word_at words 0) ≡ Some line.number
  pub parent : number_read (word_at words 1) ≡ Some line.parent
  pub shown : line.shown.items ≡ word_at words 2 ++ 32 ∷ word_at words 3
  pub path : path_told (word_at words 4) ≡ Some line.path
  pub group : field_read (codes "shared:") (fields_of words) ≡ line.group
  pub master : field_read (codes "master:") (fields_of words) ≡ line.master
  pub unbindable : line.is_unbindable ≡ list_any (λ field. bytes_eq field (codes "unbindable")) (fields_of words)
  pub trap : trap_of (word_at (behind_dash words) 0) (last_word (behind_dash words)) ≡ line.trap

-- ---- what is no line

-- the line isn't as expected at the word before which so many stand
abbrev pub misfit : ℕ → Expected → Option Misfit
misfit place what = Some (record { place = place; expected = what })

-- the first field with this tag tells no number
abbrev pub is_bad_field : List ℕ → List (List ℕ) → Bool
is_bad_field tag fields = is_there (told tag fields) && not (is_there (field_read tag fields))

-- a field isn't as expected, by its place among those behind the first six words
abbrev pub misfit_at : Option ℕ → Option Misfit
misfit_at None = None
misfit_at (Some place) = misfit (6 + place) expected.Group

-- the first field that tells a peer group by no number
abbrev pub fields_misfit : List (List ℕ) → Option Misfit
fields_misfit fields =
    if is_bad_field (codes "shared:") fields then misfit_at (position (begins (codes "shared:")) fields)
    else if is_bad_field (codes "master:") fields then misfit_at (position (begins (codes "master:")) fields)
    else None

-- what isn't as expected of the words behind the first six, by where the dash stands among them
abbrev pub tail_misfit : List (List ℕ) → Option ℕ → Option Misfit
tail_misfit rest None = misfit (6 + length rest) expected.Dash
tail_misfit rest (Some at) =
    if length rest == at + 1 then misfit (7 + at) expected.Kind else fields_misfit (take at rest)

-- the first word that is not as it is expected in the line of a mount, if there is one
abbrev pub misfit_of : List (List ℕ) → Option Misfit
misfit_of words =
    if not (is_there (number_read (word_at words 0))) then misfit 0 expected.Number
    else if not (is_there (number_read (word_at words 1))) then misfit 1 expected.Parent
    else if nat_lt (length words) 3 then misfit 2 expected.Device
    else if nat_lt (length words) 4 then misfit 3 expected.Root
    else if not (is_there (path_told (word_at words 4))) then misfit 4 expected.Path
    else if nat_lt (length words) 6 then misfit 5 expected.Options
    else tail_misfit (drop 6 words) (position is_dash (drop 6 words))

-- a line isn't read for its misfit, or where memory ran out
abbrev pub IsFaultOf : Option Misfit → LineFault → Type 0
IsFaultOf found NoMemory = ⊤
IsFaultOf found (faults.Misfit other) = found ≡ Some other
