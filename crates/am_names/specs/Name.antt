-- What a name is: 1 to 255 bytes, no slash, no zero byte, and neither a dot nor two
-- (path_resolution(7); docs/FORMATS.md, "Numbers and bytes").
use Rattle.std.specs.Prelude.{◌≡◌, ℕ, ◌-◌, ◌++◌, take, replicate, IsTrue, ◌≤◌, Bool, false, ◌&&◌, not, ◌==◌, nat_lt, List, [], ◌∷◌, length, Result, Ok, Err, if◌then◌else◌}
use Rattle.std.specs.List.{list_all}
use Rattle.am_names.specs.declared.errno.Errno.{Errno}
use Rattle.am_names.specs.declared.errno.Errno.TheVariants.{ENAMETOOLONG, EINVAL}

-- the byte may stand in a name: it is no slash and no zero byte
abbrev pub is_name_byte : ℕ → Bool
is_name_byte b = not (b == 47) && not (b == 0)

-- a dot or two dots
abbrev pub is_dots : List ℕ → Bool
is_dots [] = false
is_dots (a ∷ []) = a == 46
is_dots (a ∷ b ∷ []) = (a == 46) && (b == 46)
is_dots (a ∷ b ∷ c ∷ bytes) = false

-- the bytes are a name
abbrev pub is_name : List ℕ → Bool
is_name bytes =
    not (length bytes == 0) && not (nat_lt 255 (length bytes)) && not (is_dots bytes)
    && list_all is_name_byte bytes

-- what a text of bytes is read as
abbrev pub name_read : List ℕ → Result (List ℕ) Errno
name_read bytes =
    if nat_lt 255 (length bytes) then Err ENAMETOOLONG
    else if is_name bytes then Ok bytes
    else Err EINVAL

-- a name's bytes and zeros behind them, 255 in all
abbrev pub padded : List ℕ → List ℕ
padded bytes = bytes ++ replicate (255 - length bytes) 0

-- what a hash is made of: the bytes, and a slash behind them
abbrev pub hashed : List ℕ → List (List ℕ)
hashed bytes = bytes ∷ (47 ∷ []) ∷ []

-- the buffer has a name of this length, and zeros behind it
pub record IsStored (buf : List ℕ) (len : ℕ) : Type 0 where
  pub long : length buf ≡ 255
  pub name : IsTrue (is_name (take len buf))
  pub short : len ≤ 255
  pub zeros : buf ≡ padded (take len buf)
