pub mod Sessions
pub mod Slips
-- what contracts cite, passed on from one place
pub use Sessions.{Answers, HandsOn, HasEvent, IsAnswer, IsBegun, IsKept, IsKind, IsNew, IsNotKept, IsNothing, IsShown, IsText, IsWhole, Leaves, NotBegun, Plays, Takes, TellsAnswer, TellsSeen, TellsWorld, awaited, awaited_by, event_said, kind_answer, no_event, one_event, seen_last}
pub use Slips.{HasSlip}
pub use declared.played.Session.{Session}
