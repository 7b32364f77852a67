-- What an absolute path is, its names, and its canonical text (path_resolution(7); docs/FORMATS.md,
-- "Numbers and bytes").
use Rattle.std.specs.Prelude.{◌≡◌, ℕ, Bool, true, false, not, ◌&&◌, ◌==◌, nat_lt, List, [], ◌∷◌, ◌++◌, length, Result, Ok, Err, if◌then◌else◌}
use Rattle.std.specs.List.{slice_split, filter, list_all}
use Rattle.std.specs.Str.{bytes_eq}
use Rattle.am_names.specs.declared.errno.Errno.{Errno}
use Rattle.am_names.specs.declared.errno.Errno.TheVariants.{ENAMETOOLONG, EINVAL}
use Rattle.am_names.specs.Name.{name_read, is_name}

-- the byte is a slash
abbrev pub is_slash : ℕ → Bool
is_slash b = b == 47

-- the parts between slashes, empty ones among them
abbrev pub parts_of : List ℕ → List (List ℕ)
parts_of bytes = slice_split is_slash bytes

-- a name before others, or the first fault
abbrev pub with_name : Result (List ℕ) Errno → Result (List (List ℕ)) Errno →
    Result (List (List ℕ)) Errno
with_name (Ok name) (Ok names) = Ok (name ∷ names)
with_name (Ok name) (Err e) = Err e
with_name (Err e) others = Err e

-- an empty part is passed over, and each other one is read as a name: the names, or the first fault
abbrev pub parts_read : List (List ℕ) → Result (List (List ℕ)) Errno
parts_read [] = Ok []
parts_read (part ∷ parts) =
    if length part == 0 then parts_read parts else with_name (name_read part) (parts_read parts)

-- the text is that of an absolute path
abbrev pub begins_with_slash : List ℕ → Bool
begins_with_slash [] = false
begins_with_slash (b ∷ bytes) = is_slash b

-- what a text of bytes is read as: its names, or the first test that fails
abbrev pub path_read : List ℕ → Result (List (List ℕ)) Errno
path_read bytes =
    if not (begins_with_slash bytes) then Err EINVAL
    else if nat_lt 4095 (length bytes) then Err ENAMETOOLONG
    else parts_read (parts_of bytes)

-- the canonical text of names: each behind one slash
abbrev pub text_of : List (List ℕ) → List ℕ
text_of [] = []
text_of (name ∷ names) = 47 ∷ (name ++ text_of names)

-- the parts of a text that are not empty
abbrev pub names_of : List ℕ → List (List ℕ)
names_of text = filter (λ part. not (length part == 0)) (parts_of text)

-- both are the same names in the same order
abbrev pub same_names : List (List ℕ) → List (List ℕ) → Bool
same_names [] [] = true
same_names [] (other ∷ others) = false
same_names (name ∷ names) [] = false
same_names (name ∷ names) (other ∷ others) = bytes_eq name other && same_names names others

-- the text is the canonical one of names
pub record IsCanonical (text : List ℕ) : Type 0 where
  pub spelled : text ≡ text_of (names_of text)
  pub named : list_all is_name (names_of text) ≡ true
