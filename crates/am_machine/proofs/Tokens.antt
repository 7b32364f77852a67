-- Kernel and jobs go on agreeing on tokens.
pub mod Unchanged
pub mod Catatonic
pub mod Notify
pub mod Names
pub mod Jobs
pub mod Deliver
pub mod Acts
pub mod Walks
pub mod Changes
