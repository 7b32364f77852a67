-- Which words may stand where something is expected: own choice (docs/FORMATS.md, "Events" and
-- "The head"; autofs(5), "SUN FORMAT"; auto.master(5), "FORMAT").
use Rattle.std.specs.Prelude.{ℕ, Bool, true, false, ◌&&◌, nat_le, is_some, is_ok, List, Option, None, Some, if◌then◌else◌}
use Rattle.std.specs.List.{list_all}
use Rattle.std.specs.Result.{result_ok}
use Rattle.am_names.specs.{path_read}
use Rattle.am_lines.specs.{begins_with}
use Rattle.am_map.specs.Words.{is_options, is_location}
use Rattle.am_master.specs.Words.{name_read}
use Rattle.am_master.specs.Timeout.{is_seconds, value_in}
use Rattle.am_script.specs.Numbers.{u32_read, u64_read}
use Rattle.am_script.specs.EventWords.{pipe_read, change_read, form_read, immediate_read, failure_read, outcome_word_read, status_read, trigger_name_read, packet_read}
use Rattle.am_diagnosis.specs.declared.expected.Expected.{Expected}
use Rattle.am_diagnosis.specs.declared.expected.Expected.TheVariants.{Event, Walker, Namespace, FileSystem, Token, Job, Attachment, Seconds, Moment, Path, Pipe, Expiry, Change, Reduced, Packet, Outcome, Failure, Status, Name, End, Part, Limit, Waits, Lasting, MapName, Map, MasterOption, Timeout, Entry, Location}
use Rattle.am_diagnosis.specs.Parameters.{parameters, part_parameters}

-- the word is one of those with which the line of an event begins
abbrev pub is_event_word : List ℕ → Bool
is_event_word word = is_some (parameters word)

-- the word is one of those with which a part of a head begins
abbrev pub is_part_word : List ℕ → Bool
is_part_word word = is_some (part_parameters word)

-- the word is a number of 32 bits
abbrev pub is_u32 : List ℕ → Bool
is_u32 word = is_some (u32_read word)

-- the word is a number of 64 bits
abbrev pub is_u64 : List ℕ → Bool
is_u64 word = is_some (u64_read word)

-- the number is at least 1
abbrev pub is_limit : Option ℕ → Bool
is_limit None = false
is_limit (Some n) = nat_le 1 n

-- the number is one from 1 to 65,536
abbrev pub is_waits : Option ℕ → Bool
is_waits None = false
is_waits (Some n) = nat_le 1 n && nat_le n 65536

-- the word is options, which begin with a dash, or else a location
abbrev pub is_entry_word : List ℕ → Bool
is_entry_word word = if begins_with 45 word then is_options word else is_location word

-- the value of a timeout that stands in the word, if one does, is seconds
abbrev pub is_option : List ℕ → Bool
is_option word = list_all is_seconds (value_in word)

-- the word may stand where this is expected, in the line of an event, of a part of a head, of a map
-- or of a master map
abbrev pub fits : Expected → List ℕ → Bool
fits Event word = is_event_word word
fits Part word = is_part_word word
fits Walker word = is_u32 word
fits Namespace word = is_u32 word
fits FileSystem word = is_u32 word
fits Token word = is_u32 word
fits Job word = is_u32 word
fits Attachment word = is_u32 word
fits Seconds word = is_u32 word
fits Moment word = is_u64 word
fits Path word = is_some (result_ok (path_read word))
fits Pipe word = is_some (pipe_read word)
fits Expiry word = is_some (immediate_read word)
fits Change word = is_some (change_read word)
fits Reduced word = is_some (form_read word)
fits Packet word = is_some (packet_read word)
fits Outcome word = is_some (outcome_word_read word)
fits Failure word = is_some (failure_read word)
fits Status word = is_some (status_read word)
fits Name word = is_some (trigger_name_read word)
fits Limit word = is_limit (u32_read word)
fits Waits word = is_waits (u32_read word)
fits Lasting word = is_u64 word
fits MapName word = true
fits Map word = is_ok (name_read word)
fits MasterOption word = is_option word
fits Timeout word = is_seconds word
fits Entry word = is_entry_word word
fits Location word = is_location word
fits expected word = false

-- the line may end where this is expected
abbrev pub may_end : Expected → Bool
may_end Reduced = true
may_end Packet = true
may_end Failure = true
may_end End = true
may_end MasterOption = true
may_end expected = false
