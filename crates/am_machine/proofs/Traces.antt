-- What is seen of events is lawful, and fits the rows.
pub mod Counts
pub mod Unchanged
pub mod Enter
pub mod Join
pub mod Notify
pub mod Answer
pub mod Releases
pub mod Closing
pub mod Catatonic
pub mod Deliver
pub mod Lawful
pub mod Adds
pub mod Walks
pub mod Changes
