-- The parts of a line: how each is cut from what is left of it, and where it is missed.
-- Own choice (docs/FORMATS.md, "Traces").
use Rattle.std.specs.Prelude.{ℕ, Bool, not, ◌^◌, nat_le, List, [], ◌∷◌, length, take, drop, codes, bytes_eq, Option, None, Some, Result, Ok, Err, if◌then◌else◌}
use Rattle.std.specs.List.{before_first}
use Rattle.std.specs.Option.{option_map_or}
use Rattle.std.specs.Result.{result_ok}
use Rattle.am_names.specs.{Status, name_read}
use Rattle.am_names.specs.declared.fail_no.FailNo.TheVariants.{ENOENT, EPERM, EBUSY, EEXIST, EINVAL, EAGAIN, ELOOP, ENAMETOOLONG, ENOSPC}
use Rattle.am_names.specs.declared.trigger.Status.TheVariants.{Ready, Fail}
use Rattle.am_names.specs.declared.trigger.Trigger.{Trigger}
use Rattle.am_lines.specs.{is_digit}
use Rattle.am_wire.specs.{Packet}
use Rattle.am_wire.specs.declared.packet_type.PacketType.{PacketType}
use Rattle.am_wire.specs.declared.packet_type.PacketType.TheVariants.{MissingIndirect, ExpireIndirect, MissingDirect, ExpireDirect}
use Rattle.am_state.specs.{Record}
use Rattle.am_state.specs.declared.daemon_row.Record.TheVariants.{Mounting, Mounted, Unmounting}
use Rattle.am_script.specs.{number_read}
use Rattle.am_traces.specs.declared.fault.Expected.{Expected}
use Rattle.am_traces.specs.declared.fault.Expected.TheVariants as expected
use Rattle.am_traces.specs.declared.fault.Miss.{Miss}

-- one part after another: the first that is missed is told
infixl 10 ◌>>=◌
abbrev pub ◌>>=◌ : {A B : Type 0} → Result A Miss → (A → Result B Miss) → Result B Miss
◌>>=◌ (Ok part) next = next part
◌>>=◌ (Err missed) next = Err missed

-- this was expected where that is left of the line
abbrev pub miss : Expected → List ℕ → Miss
miss part text = record { left = length text; expected = part }

-- the part, if it is there
abbrev pub or_miss : {T : Type 0} → Miss → Option T → Result T Miss
or_miss missed None = Err missed
or_miss missed (Some part) = Ok part

-- what stands behind these bytes, if the text begins with them
abbrev pub behind : List ℕ → List ℕ → Option (List ℕ)
behind word text =
    if bytes_eq (take (length word) text) word then Some (drop (length word) text) else None

-- these bytes, and what is left behind them
unfoldable pub word_cut : List ℕ → Expected → List ℕ → Result (List ℕ) Miss
word_cut word part text = or_miss (miss part text) (behind word text)

-- nothing is left
unfoldable pub end_cut : List ℕ → Result (Unit {0}) Miss
end_cut [] = Ok tt
end_cut (b ∷ text) = Err (miss expected.End (b ∷ text))

-- the byte is no decimal digit
abbrev pub is_no_digit : ℕ → Bool
is_no_digit b = not (is_digit b)

-- the digits with which the text begins
abbrev pub digits_in : List ℕ → List ℕ
digits_in text = before_first is_no_digit text

-- a number below the bound, and what is left behind it
unfoldable pub numeral_cut : ℕ → Expected → List ℕ → Result (ℕ × List ℕ) Miss
numeral_cut bound part text = do
  number ← or_miss (miss part text) (number_read bound (digits_in text))
  Ok (number, drop (length (digits_in text)) text)

-- these bytes, and a number behind them
unfoldable pub number_cut : List ℕ → ℕ → Expected → List ℕ → Result (ℕ × List ℕ) Miss
number_cut word bound part text = do
  rest ← word_cut word part text
  numeral_cut bound part rest

-- how a notification is acknowledged, to the end
unfoldable pub status_end : List ℕ → Result Status Miss
status_end text =
    if bytes_eq text (codes " ready") then Ok Ready
    else if bytes_eq text (codes " fail") then Ok (Fail ENOENT)
    else if bytes_eq text (codes " fail 2") then Ok (Fail EPERM)
    else if bytes_eq text (codes " fail 3") then Ok (Fail EBUSY)
    else if bytes_eq text (codes " fail 4") then Ok (Fail EEXIST)
    else if bytes_eq text (codes " fail 5") then Ok (Fail EINVAL)
    else if bytes_eq text (codes " fail 6") then Ok (Fail EAGAIN)
    else if bytes_eq text (codes " fail 7") then Ok (Fail ELOOP)
    else if bytes_eq text (codes " fail 8") then Ok (Fail ENAMETOOLONG)
    else if bytes_eq text (codes " fail 9") then Ok (Fail ENOSPC)
    else Err (miss expected.Status text)

-- the name of a trigger, to the end
unfoldable pub name_end : List ℕ → Result (Option (List ℕ)) Miss
name_end text = do
  rest ← word_cut (codes " name ") expected.Key text
  name ← or_miss (miss expected.Key rest) (result_ok (name_read rest))
  Ok (Some name)

-- what a trigger is for: its name, or that it is direct
unfoldable pub key_end : List ℕ → Result (Option (List ℕ)) Miss
key_end text = if bytes_eq text (codes " direct") then Ok None else name_end text

-- a trigger, to the end
unfoldable pub trigger_end : List ℕ → Result Trigger Miss
trigger_end text = do
  fs ← number_cut (codes " fs ") (2 ^ 32) expected.Fs text
  name ← key_end fs.1
  Ok (record { fs = fs.0; name = name })

-- what a packet asks for
unfoldable pub type_cut : List ℕ → Result (PacketType × List ℕ) Miss
type_cut text =
    option_map_or (λ rest. Ok (MissingIndirect, rest)) (behind (codes " missing-indirect") text)
    (option_map_or (λ rest. Ok (ExpireIndirect, rest)) (behind (codes " expire-indirect") text)
    (option_map_or (λ rest. Ok (MissingDirect, rest)) (behind (codes " missing-direct") text)
    (option_map_or (λ rest. Ok (ExpireDirect, rest)) (behind (codes " expire-direct") text)
    (Err (miss expected.PacketType text)))))

-- the name in a packet, of at most 255 bytes, to the end
unfoldable pub packet_name_end : List ℕ → Result (List ℕ) Miss
packet_name_end text = do
  name ← word_cut (codes " name ") expected.PacketName text
  if nat_le (length name) 255 then Ok name else Err (miss expected.PacketName name)

-- the packet of this token, to the end
unfoldable pub packet_end : ℕ → List ℕ → Result Packet Miss
packet_end token text = do
  kind ← type_cut text
  dev ← number_cut (codes " dev ") (2 ^ 32) expected.PacketNumber kind.1
  ino ← number_cut (codes " ino ") (2 ^ 64) expected.PacketNumber dev.1
  uid ← number_cut (codes " uid ") (2 ^ 32) expected.PacketNumber ino.1
  gid ← number_cut (codes " gid ") (2 ^ 32) expected.PacketNumber uid.1
  pid ← number_cut (codes " pid ") (2 ^ 32) expected.PacketNumber gid.1
  tgid ← number_cut (codes " tgid ") (2 ^ 32) expected.PacketNumber pid.1
  name ← packet_name_end tgid.1
  Ok (record {
    kind = kind.0;
    token = token;
    dev = dev.0;
    ino = ino.0;
    uid = uid.0;
    gid = gid.0;
    pid = pid.0;
    tgid = tgid.0;
    name = name;
  })

-- a mount that is made for a token
unfoldable pub mounting_cut : List ℕ → Result (Option Record × List ℕ) Miss
mounting_cut text = do
  token ← numeral_cut (2 ^ 32) expected.Token text
  Ok (Some (Mounting token.0), token.1)

-- a mount that was made
unfoldable pub mounted_cut : List ℕ → Result (Option Record × List ℕ) Miss
mounted_cut text = do
  mount ← numeral_cut (2 ^ 64) expected.Mount text
  Ok (Some (Mounted mount.0), mount.1)

-- a mount that is unmounted for a token
unfoldable pub unmounting_cut : List ℕ → Result (Option Record × List ℕ) Miss
unmounting_cut text = do
  token ← numeral_cut (2 ^ 32) expected.Token text
  mount ← number_cut (codes " ") (2 ^ 64) expected.Mount token.1
  Ok (Some (Unmounting token.0 mount.0), mount.1)

-- what the book says of a trigger
unfoldable pub entry_cut : List ℕ → Result (Option Record × List ℕ) Miss
entry_cut text =
    option_map_or (λ rest. Ok (None, rest)) (behind (codes " none") text)
    (option_map_or mounting_cut (behind (codes " mounting ") text)
    (option_map_or mounted_cut (behind (codes " mounted ") text)
    (option_map_or unmounting_cut (behind (codes " unmounting ") text)
    (Err (miss expected.Entry text)))))
