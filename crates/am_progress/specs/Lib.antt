pub mod Runs
pub mod Packets
pub mod Acts
pub mod Ways
pub mod Tokens
pub mod Walkers
pub mod Expiries
pub mod Others
pub mod ExpiriesAmong
pub mod Comings
-- what contracts cite, passed on from one place
pub use Acts.{FailsAs, HasActs, HasFewActs, IsActed, JobsCanGoOn, JobsHaveFiveActs, NextActsAreNeverRefused, TellsOf, goes_on_as, most_acts}
pub use Comings.{AllCome, AllReceive, CanBeMounted, CanBePassed, CanBeUnmounted, CanTrapAgain, MountsCanComeAndGo, MountsComeAndGo, WalksAgain, is_to_mount, success_of, success_told}
pub use ExpiriesAmong.{EndsAmong, ExpiriesEndAmong, ExpiriesEndAmongOthers, IsExpiryAmong, IsStillMounted, LeadsAmong}
pub use Expiries.{EndsWell, ExpiriesEndWell, ExpiriesLeaveTrapOrMount, IsAsFound, IsTrapAgain}
pub use Others.{ClosesAmong, IsClosed, JobsStay, OpenTokensCloseAmongOthers, OthersAct, ServesOn, ServiceLasts, TokensCloseAmong, ends, event_about, is_act_of}
pub use Packets.{PacketsCanBeTaken, QueuedPacketsCanBeDelivered}
pub use Runs.{AfterEachRun, IsDone, is_refused, next}
pub use Tokens.{HasReleased, OpenTokensCanBeClosed, TokensCanClose}
pub use Walkers.{CanBeBroughtOn, CanResume, WaitingWalkersCanGoOn, WalkersCanGoOn}
pub use Ways.{CanReach, LeadsTo}
