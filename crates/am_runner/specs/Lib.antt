pub mod Calls
pub mod Parts
pub mod Roles
pub mod Runs
pub mod Tasks
-- what contracts cite, passed on from one place
pub use Calls.{Adds, AreMany, IsCall, IsOf, Makes, RanOut, has_to_wait, is_arrival, is_done, is_wait, job_of, reply_of}
pub use Roles.{AreActsBehind, AreEach, GivesUp, GoesOn, IsAct, IsActOf, IsBreak, IsBrokenOff, IsCallOf, IsEnd, IsExpiry}
pub use Roles.{IsGivenUp, IsOfBreaker, IsOfExpirer, IsOfRound, IsOfSettling, IsRound, IsService, IsTried, IsWork}
pub use Roles.{IsWorkOf, Leaves, Serves, Settles, Waits, delivery, expiry, resume, walk}
pub use Parts.{AreBreakers, AreWalkers, AreWorkers, IsAttached, IsBreaker, IsExpirer, IsWalker, IsWorker, Plan}
pub use Parts.{TakePart, WalksAlong, breakers, keep_of, plan_of}
pub use Runs.{IsAuto, IsRun, IsTally, auto_plan, enters, is_entered, is_left, leaves}
pub use Tasks.{IsNowhere, IsPathOf, IsNextIn, IsSeen, IsTaskOf, attached_at, path_at, point_at}
pub use declared.calls.Reply.{Reply}
pub use declared.tally.Tally.{Tally}
