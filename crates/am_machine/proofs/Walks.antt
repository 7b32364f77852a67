-- All names stay names.
pub mod Named
pub mod Rows
pub mod Changes
pub mod Runs
