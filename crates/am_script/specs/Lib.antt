pub mod AdministratorLines
pub mod Answers
pub mod DaemonLines
pub mod EventWords
pub mod Events
pub mod Fault
pub mod Forms
pub mod Head
pub mod HeadLeft
pub mod Heading
pub mod View
pub mod Limits
pub mod LineWords
pub mod Lines
pub mod Maps
pub mod Numbers
pub mod Opened
pub mod Outputs
pub mod Played
pub mod Playing
pub mod Read
pub mod Reading
pub mod Script
pub mod Sections
pub mod Turns
pub mod WalkerLines
-- what contracts cite, passed on from one place
pub use AdministratorLines.{admincat_read, bind_read, change_line_read, kind_read, mount_read, nsdrop_read, umount_read}
pub use Answers.{answer_line, answer_text, entry_text, is_refused, mounts_text, place_text}
pub use DaemonLines.{attach_read, catatonic_read, reattach_read, record_read, repeat_read, timeout_read}
pub use Fault.{IsFaultOr, fault_at}
pub use Forms.{Form, SeenRun, Shown, answers_alone, answers_in, asked_in, written_of}
pub use Head.{Begins, Ends, Faulty, Headed, bad_section, head_of, is_limits, is_negative, limits_by, master_by, negative_by, negative_then, section_read, too_long, with_negative}
pub use HeadLeft.{IsLeft, head_left, left_in, section_then, stage_then}
pub use Heading.{EventsBegin, GoesOn, HeadFault, HeadSoFar, StopsAt, Taken, after_events, after_limits, after_line, after_lone_line, after_negative, after_short_line, after_words, closed, first_open, mastered, may_open, no_lines, taken_as}
pub use Limits.{limits_read, negative_read}
pub use LineWords.{are_five, are_three, are_two, is_one}
pub use Lines.{EndsNoLine, IsCut, are_skipped, is_long, lines_in, lines_of, size_in}
pub use Maps.{before_maps, is_named, map_by, maps_read, opening_read, section_for}
pub use Numbers.{is_numeral, number_read}
pub use Opened.{HasNoWorld, IsOpened, NoNext, NoRoom, NoRoomFor, NotOpened, OpenedAs}
pub use Outputs.{IsLost, IsOwed, Owed, Puts, PutsOut, Settles, Stands, StandsBy, StandsOf, bytes_of, line_at, line_of, lost_behind, owed_by, owed_from}
pub use Played.{BreaksOff, Halts, HaltsAt, HaltsIn, IsPlayed, NothingPlayed, PlaysInput, StopsAtEvent, StopsForRoom, StopsInput, end_of_head}
pub use Playing.{Ending, EndsPlayed, EndsStopped, EventsStand, Flushes, HeadStands, HeadStops, HeadTaken, LosesAnswer, PlaceStands, PlayerStands, StopsAtLine, StopsAtLong, StopsInHead, TakesInHead, TakesLine, behind, owed_for, place_after, script_behind, with_next}
pub use Read.{IsReadFault, WasRead, broken, cut_kind, cut_line, last_of, played}
pub use Reading.{BreaksRead, EndsRead, ReadingStands, StopsInBytes, StopsRead, TakesBytes}
pub use Script.{IsInHead, Numbered, Told, begun_by, events_from, events_in, head_ends, line_read, only_fault, script_by, script_from, script_of, told_by, without_world}
pub use Sections.{Alone, Long, Part, Section, Unended, Whole, are_only, is_end, map_name, part_by, parts_in, parts_of_lines, with_line}
pub use Turns.{Closes, FindsNoRoom, IsAnswered, IsIdle, IsShort, IsWhole, LineAnswered, LineReadAs, SaysEvent, TurnDone, TurnStopped, counted}
pub use WalkerLines.{expire_read, leave_read, resume_read, walk_read}
pub use declared.fault.ScriptFault.{ScriptFault}
pub use declared.fault.ScriptFaultKind.{ScriptFaultKind}
pub use declared.heading.Stage.{Stage}
pub use declared.output.Mark.{Mark}
pub use declared.output.Output.{Output}
pub use declared.play.Summary.{Summary}
pub use declared.player.Place.{Place}
pub use declared.player.Player.{Player}
