-- What the line of an observation is read as, part by part.
-- Own choice (docs/FORMATS.md, "Traces").
use Rattle.std.specs.Prelude.{ℕ, zero, suc, Bool, ◌==◌, ◌^◌, List, [], ◌∷◌, length, drop, codes, bytes_eq, Option, None, Some, Result, Ok, if◌then◌else◌}
use Rattle.std.specs.List.{before_first}
use Rattle.am_wire.specs.{Packet}
use Rattle.am_state.specs.{Obs}
use Rattle.am_state.specs.declared.obs.Obs.TheVariants as seen
use Rattle.am_traces.specs.declared.fault.Expected.TheVariants as expected
use Rattle.am_traces.specs.declared.fault.Miss.{Miss}
use Rattle.am_traces.specs.declared.word.ObsWord.{ObsWord}
use Rattle.am_traces.specs.declared.word.ObsWord.TheVariants as words
use Rattle.am_traces.specs.Parts.{◌>>=◌, miss, or_miss, word_cut, end_cut, number_cut, status_end, trigger_end, packet_end, entry_cut}

-- ---- by its first word

-- the byte is a blank
abbrev pub is_space : ℕ → Bool
is_space b = b == 32

-- what stands before the first blank
abbrev pub first_word : List ℕ → List ℕ
first_word text = before_first is_space text

-- the first word of an observation
unfoldable pub word_read : List ℕ → Option ObsWord
word_read word =
    if bytes_eq word (codes "queued") then Some words.Queued
    else if bytes_eq word (codes "waits") then Some words.Waits
    else if bytes_eq word (codes "answered") then Some words.Answered
    else if bytes_eq word (codes "catatonic") then Some words.Catatonic
    else if bytes_eq word (codes "released") then Some words.Released
    else if bytes_eq word (codes "passed") then Some words.Passed
    else if bytes_eq word (codes "entered") then Some words.Entered
    else if bytes_eq word (codes "left") then Some words.Left
    else if bytes_eq word (codes "mounted") then Some words.Mounted
    else if bytes_eq word (codes "unmounted") then Some words.Unmounted
    else if bytes_eq word (codes "delivered") then Some words.Delivered
    else if bytes_eq word (codes "recorded") then Some words.Recorded
    else if bytes_eq word (codes "reattached") then Some words.Reattached
    else if bytes_eq word (codes "died") then Some words.Died
    else None

-- ---- behind its first word

-- a token, an attachment and a packet
unfoldable pub packet_parts : List ℕ → Result (ℕ × ℕ × Packet) Miss
packet_parts text = do
  token ← number_cut (codes " ") (2 ^ 32) expected.Token text
  attach ← number_cut (codes " attach ") (2 ^ 32) expected.Attach token.1
  packet ← packet_end token.0 attach.1
  Ok (token.0, attach.0, packet)

-- a packet that was queued
unfoldable pub queued_read : List ℕ → Result Obs Miss
queued_read text = do
  parts ← packet_parts text
  Ok (seen.Queued parts.0 parts.1 parts.2)

-- a packet that was delivered
unfoldable pub delivered_read : List ℕ → Result Obs Miss
delivered_read text = do
  parts ← packet_parts text
  Ok (seen.Delivered parts.0 parts.1 parts.2)

-- a walker that waits
unfoldable pub waits_read : List ℕ → Result Obs Miss
waits_read text = do
  walker ← number_cut (codes " ") (2 ^ 32) expected.Number text
  token ← number_cut (codes " token ") (2 ^ 32) expected.Token walker.1
  done ← end_cut token.1
  Ok (seen.Waits walker.0 token.0)

-- a token that was acknowledged
unfoldable pub answered_read : List ℕ → Result Obs Miss
answered_read text = do
  token ← number_cut (codes " ") (2 ^ 32) expected.Token text
  status ← status_end token.1
  Ok (seen.Answered token.0 status)

-- a file system that became catatonic
unfoldable pub catatonic_read : List ℕ → Result Obs Miss
catatonic_read text = do
  fs ← number_cut (codes " ") (2 ^ 32) expected.Fs text
  done ← end_cut fs.1
  Ok (seen.Catatonic fs.0)

-- a walker that was released
unfoldable pub released_read : List ℕ → Result Obs Miss
released_read text = do
  walker ← number_cut (codes " ") (2 ^ 32) expected.Number text
  token ← number_cut (codes " token ") (2 ^ 32) expected.Token walker.1
  status ← status_end token.1
  Ok (seen.Released walker.0 token.0 status)

-- a trigger that a walk passed
unfoldable pub passed_read : List ℕ → Result Obs Miss
passed_read text = do
  walker ← number_cut (codes " ") (2 ^ 32) expected.Number text
  trigger ← trigger_end walker.1
  Ok (seen.Passed walker.0 trigger)

-- a walk that arrived in a mount
unfoldable pub entered_read : List ℕ → Result Obs Miss
entered_read text = do
  walker ← number_cut (codes " ") (2 ^ 32) expected.Number text
  mount ← number_cut (codes " mount ") (2 ^ 64) expected.Mount walker.1
  done ← end_cut mount.1
  Ok (seen.Entered walker.0 mount.0)

-- a walker that left a mount
unfoldable pub left_read : List ℕ → Result Obs Miss
left_read text = do
  walker ← number_cut (codes " ") (2 ^ 32) expected.Number text
  mount ← number_cut (codes " mount ") (2 ^ 64) expected.Mount walker.1
  done ← end_cut mount.1
  Ok (seen.Left walker.0 mount.0)

-- mounts, to the end; there are no more of them than bytes
abbrev pub mounts_in : ℕ → List ℕ → Result (List ℕ) Miss
mounts_in zero text = Ok []
mounts_in (suc most) [] = Ok []
mounts_in (suc most) (b ∷ text) = do
  mount ← number_cut (codes " ") (2 ^ 64) expected.Mount (b ∷ text)
  mounts ← mounts_in most mount.1
  Ok (mount.0 ∷ mounts)

-- mounts that came
unfoldable pub mounted_read : List ℕ → Result Obs Miss
mounted_read text = do
  mounts ← mounts_in (length text) text
  Ok (seen.Mounted mounts)

-- mounts that went
unfoldable pub unmounted_read : List ℕ → Result Obs Miss
unmounted_read text = do
  mounts ← mounts_in (length text) text
  Ok (seen.Unmounted mounts)

-- what the daemon's book says
unfoldable pub recorded_read : List ℕ → Result Obs Miss
recorded_read text = do
  entry ← entry_cut text
  trigger ← trigger_end entry.1
  Ok (seen.Recorded trigger entry.0)

-- a daemon that attached again
unfoldable pub reattached_read : List ℕ → Result Obs Miss
reattached_read text = do
  fs ← number_cut (codes " ") (2 ^ 32) expected.Fs text
  attach ← number_cut (codes " attach ") (2 ^ 32) expected.Attach fs.1
  done ← end_cut attach.1
  Ok (seen.Reattached fs.0 attach.0)

-- the daemon died
unfoldable pub died_read : List ℕ → Result Obs Miss
died_read text = do
  done ← end_cut text
  Ok seen.Died

-- the observation with this first word, of which this stands behind it
unfoldable pub read_behind : ObsWord → List ℕ → Result Obs Miss
read_behind words.Queued text = queued_read text
read_behind words.Waits text = waits_read text
read_behind words.Answered text = answered_read text
read_behind words.Catatonic text = catatonic_read text
read_behind words.Released text = released_read text
read_behind words.Passed text = passed_read text
read_behind words.Entered text = entered_read text
read_behind words.Left text = left_read text
read_behind words.Mounted text = mounted_read text
read_behind words.Unmounted text = unmounted_read text
read_behind words.Delivered text = delivered_read text
read_behind words.Recorded text = recorded_read text
read_behind words.Reattached text = reattached_read text
read_behind words.Died text = died_read text

-- ---- the line

-- the observation that a text is
unfoldable pub text_read : List ℕ → Result Obs Miss
text_read text = do
  word ← or_miss (miss expected.Observation text) (word_read (first_word text))
  read_behind word (drop (length (first_word text)) text)

-- the observation of an indented line
unfoldable pub line_read : List ℕ → Result Obs Miss
line_read line = do
  text ← word_cut (codes "  ") expected.Observation line
  text_read text
