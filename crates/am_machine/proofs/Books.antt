-- The daemon's book stays right.
pub mod Unchanged
pub mod Pending
pub mod Jobs
pub mod Acts
pub mod Deliver
pub mod Standing
pub mod Attach
pub mod Changes
