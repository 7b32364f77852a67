-- The daemon is ready for what the kernel tells it.
pub mod States
pub mod Runs
