-- The autofs that the type and the options of a line tell (autofs.rst, "Configuring an autofs filesystem").
use Rattle.std.specs.Prelude.{ℕ, ◌^◌, ◌==◌, ◌&&◌, ◌||◌, Bool, true, false, not, nat_lt, List, length, take, drop, codes, find, bytes_eq, Option, None, Some, if◌then◌else◌}
use Rattle.std.specs.List.{list_all, list_any, slice_split}
use Rattle.std.specs.Option.{option_map}
use Rattle.std.specs.Str.Parse.{digits_value}
use Rattle.am_lines.specs.{is_digit}
use Rattle.am_mount_lines.specs.declared.trap.Trap.{Trap}

-- decimal digits, one at least
abbrev pub is_number : List ℕ → Bool
is_number word = not (length word == 0) && list_all is_digit word

-- a number below a bound, in decimal digits
abbrev pub number_below : ℕ → List ℕ → Option ℕ
number_below bound word =
    if is_number word && nat_lt (digits_value 10 word) bound then Some (digits_value 10 word) else None

-- the bytes begin with these
abbrev pub begins : List ℕ → List ℕ → Bool
begins front bytes = bytes_eq front (take (length front) bytes)

-- what stands behind the tag, in the first word that begins with it
abbrev pub told : List ℕ → List (List ℕ) → Option (List ℕ)
told tag words = option_map (λ word. drop (length tag) word) (find (begins tag) words)

-- the byte is a comma
abbrev pub is_comma : ℕ → Bool
is_comma b = b == 44

-- one of the options is this word
abbrev pub has_option : List ℕ → List ℕ → Bool
has_option word options = list_any (λ option. bytes_eq option word) (slice_split is_comma options)

-- whether the root is the one trigger, if an option says
abbrev pub direct_by : List ℕ → Option Bool
direct_by options =
    if has_option (codes "indirect") options then Some false
    else if has_option (codes "direct") options || has_option (codes "offset") options then Some true
    else None

-- the number, if there is a word and it is one of 32 bits
abbrev pub seconds_read : Option (List ℕ) → Option ℕ
seconds_read None = None
seconds_read (Some word) = number_below (2 ^ 32) word

-- the seconds of the timeout, if an option tells them
abbrev pub timeout_by : List ℕ → Option ℕ
timeout_by options = seconds_read (told (codes "timeout=") (slice_split is_comma options))

-- an autofs, by the type and the options of the file system; none of another type
abbrev pub trap_of : List ℕ → List ℕ → Option Trap
trap_of kind options =
    if bytes_eq kind (codes "autofs") then
    Some (record { is_direct = direct_by options; timeout = timeout_by options })
    else None
