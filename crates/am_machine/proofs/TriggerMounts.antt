-- The daemon goes on knowing what is mounted on the triggers.
pub mod Tops
pub mod Unchanged
pub mod Administrator
pub mod Jobs
pub mod Acts
pub mod Mounts
pub mod Umounts
pub mod Deliver
pub mod Attach
pub mod Standing
pub mod Reattach
pub mod Changes
