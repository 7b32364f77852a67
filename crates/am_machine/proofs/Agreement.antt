-- Kernel and daemon agree on what the daemon serves.
pub mod Mounts
pub mod Tokens
pub mod Runs
