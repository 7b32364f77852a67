-- Where something is mounted on a trigger, no failure is kept of it, or a mount is asked for.
pub mod Acts
pub mod Unchanged
pub mod Jobs
pub mod Attach
pub mod Changes
