pub mod Notes
pub mod Sharing
pub mod Accounts
pub mod Matching
pub mod Calls
pub mod Chronicle
pub mod Keeping
pub mod Passes
pub mod Opening
pub mod Packets
pub mod Parts
pub mod Bells
-- what contracts cite, passed on from one place
pub use Bells.{bell_of, is_rung_by}
pub use Keeping.{handed_before, keeps_events, keeps_seen}
pub use Matching.{Agrees, AgreesLeft, AllAgree, AllAgreeLeft, AllAway, AtMostOnce, EachAgree, EachAgreeLeft, EachRise}
pub use Matching.{Matches, Rise, count_in, times, times_in}
pub use Notes.{IsFlushed, IsFlushedSince, before, note, note_at, notes_of}
pub use Opening.{no_table, opening_of}
pub use Packets.{AreThePackets, waiting}
pub use Parts.{HasRoom, IsCounted, sharing_of}
pub use Sharing.{Applies, IsKept, IsSamePut, IsShared, IsSharedFrom, all_taken, has_to_wait, is_held_up, left_of}
pub use declared.caller.Receipt.{Receipt}
pub use declared.keep.Keep.{Keep}
pub use Accounts.{Account, newcomer}
pub use Calls.{IsTaken, Receives, Sees, Stands, StandsLast, all_calls, call_of, calls_of}
pub use declared.chronicle.Known.{Known}
