pub mod Heads
pub mod Hearing
pub mod Keeping
pub mod Openings
pub mod Orders
pub mod Reading
pub mod Replies
pub mod Requests
pub mod Served
pub mod Tellings
pub mod Words
-- what contracts cite, passed on from one place
pub use Hearing.{Hears, fresh}
pub use Keeping.{Attends, unserved}
pub use Replies.{AreReplies, IsReply, Loses, Sends}
pub use Served.{ServesInput, StopsServing}
pub use Words.{kind_word, map_word, master_word}
